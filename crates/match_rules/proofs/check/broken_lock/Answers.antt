use Rattle.std.proofs.Common.{◌≡◌, length, rules, sym, ap, ◌∙◌}
use Rattle.std.proofs.lemmas.List.{get_or_read}
use Rattle.match_rules.specs.declared.lottery.Piece.{Piece}
use Rattle.match_rules.specs.Breaks.{lock_break}
use Rattle.match_rules.specs.First.{first_below}
use Rattle.match_rules.specs.Pieces.{piece_at, no_piece}
use Rattle.match_rules.proofs.Firsts.{first_below-some}
use Rattle.match_rules.proofs.check.broken_lock.Goals as goal

pub returns-then-is_some : goal.returns-then-is_some
returns-then-is_some c =
    let rules_of = c.args.rules.now in
    let pieces = c.args.pieces.now in
    let k = c.loop-k.k in
    let item : c.index-pieces-k.result ≡ piece_at pieces k = get_or_read pieces k c.index-pieces-k.result c.loop-k-test.true c.index-pieces-k.is no_piece in
    let places : c.as_slice.result.now ≡ (piece_at pieces k).pairs = c.as_slice.ensures ∙ ap (λ (piece : Piece). piece.pairs) item in
    let here = ap (λ these. first_below (length rules_of.pairs) (lock_break rules_of k these)) (sym places) ∙ sym c.lock_in_piece-broken.ensures in
    sym (first_below-some (length pieces) k (λ k. first_below (length rules_of.pairs) (lock_break rules_of k (piece_at pieces k).pairs)) c.lock_in_piece-broken.result c.loop-k-test.true c.loop-k.invariant here (search rules))
