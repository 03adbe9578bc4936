use Rattle.std.proofs.Common.{◌≡◌, ℕ, ◌<◌, true, get_or}
use Rattle.http_framing.specs.Heads.{is_line_byte}
use Rattle.http_framing.proofs.blanks.blank_length.Given as goal

abbrev pub invariant-loop-place : goal.invariant-loop-place
invariant-loop-place l = (k : ℕ) → k < l.place → is_line_byte (get_or l.bytes k 0) ≡ true
