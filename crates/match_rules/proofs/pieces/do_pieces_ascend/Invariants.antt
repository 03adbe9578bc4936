use Rattle.std.proofs.Common.{◌≡◌, ℕ, ◌+◌, ◌<◌}
use Rattle.std.specs.Cmp.Lexicographic.{slice_cmp}
use Rattle.std.specs.Ordering.{nat_cmp}
use Rattle.std.specs.declared.cmp.Ordering.TheVariants.{Less}
use Rattle.match_rules.specs.Pieces.{piece_at}
use Rattle.match_rules.proofs.pieces.do_pieces_ascend.Given as goal

abbrev pub invariant-loop-i : goal.invariant-loop-i
invariant-loop-i l = (k : ℕ) → k + 1 < l.i → slice_cmp nat_cmp (piece_at l.pieces k).pairs (piece_at l.pieces (k + 1)).pairs ≡ Less
