use Rattle.std.proofs.Common.{◌≡◌, length, rules, sym, ap, ◌∙◌}
use Rattle.std.proofs.lemmas.List.{get_or_read}
use Rattle.match_rules.specs.declared.lottery.Piece.{Piece}
use Rattle.match_rules.specs.Breaks.{group_break}
use Rattle.match_rules.specs.First.{first_below}
use Rattle.match_rules.specs.Groups.{group_count}
use Rattle.match_rules.specs.Pieces.{piece_at, no_piece}
use Rattle.match_rules.proofs.Firsts.{first_below-some}
use Rattle.match_rules.proofs.group_check.broken_group.Goals as goal

pub returns-then-is_some : goal.returns-then-is_some
returns-then-is_some c =
    let rules_of = c.args.rules.now in
    let pieces = c.args.pieces.now in
    let k = c.loop-k.k in
    let item : c.index-pieces-k.result ≡ piece_at pieces k = get_or_read pieces k c.index-pieces-k.result c.loop-k-test.true c.index-pieces-k.is no_piece in
    let places = c.as_slice.ensures ∙ ap (λ (piece : Piece). piece.pairs) item in
    let here = ap (λ these. first_below (group_count rules_of) (group_break rules_of k these)) (sym places) ∙ sym c.group_in_piece-broken.ensures.exact in
    sym (first_below-some (length pieces) k (λ k. first_below (group_count rules_of) (group_break rules_of k (piece_at pieces k).pairs)) c.group_in_piece-broken.result c.loop-k-test.true c.loop-k.invariant.none here (search rules))
