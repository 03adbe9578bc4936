use Rattle.std.proofs.Common.{◌≡◌, length, arith, ap, ◌∙◌}
use Rattle.std.proofs.lemmas.List.{get_or_read}
use Rattle.match_rules.specs.declared.lottery.Piece.{Piece}
use Rattle.match_rules.specs.Pieces.{piece_at, no_piece}
use Rattle.match_rules.proofs.Counts.{ascending-few, times-most}
use Rattle.match_rules.proofs.check.count_times.Goals as goal

pub add_weight-requires-clause-few : goal.add_weight-requires-clause-few
add_weight-requires-clause-few c =
    let pieces = c.args.pieces.now in
    let k = c.loop-piece.piece-index in
    let item : c.piece-item.result ≡ piece_at pieces k = get_or_read pieces k c.piece-item.result c.loop-piece-test.true c.piece-item.is no_piece in
    let places : c.as_slice.result.now ≡ (piece_at pieces k).pairs = c.as_slice.ensures ∙ ap (λ (piece : Piece). piece.pairs) item in
    let number = ap length places in
    let few = ascending-few (length c.args.rules.now.pairs) (piece_at pieces k).pairs (c.requires.pieces.places k c.loop-piece-test.true) (c.requires.known k no_piece c.loop-piece-test.true) in
    let pairs = c.pairs-pairs.ensures.kept.pairs.few in
    omega arith

pub add_weight-requires-clause-fits : goal.add_weight-requires-clause-fits
add_weight-requires-clause-fits c = λ e h.
    let pieces = c.args.pieces.now in
    let pairs = c.pairs-pairs.ensures.kept.pairs.few in
    let counted = c.loop-piece.invariant.each e h in
    let most = times-most pieces c.loop-piece.piece-index e c.requires.pieces.few (λ k within. (c.requires.pieces.weights k within).1)
    (λ k within. let few = ascending-few (length c.args.rules.now.pairs) (piece_at pieces k).pairs (c.requires.pieces.places k within) (c.requires.known k no_piece within) in omega arith) in
    omega (arith, counted, most)
