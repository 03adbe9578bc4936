use Rattle.std.proofs.Common.{◌≡◌, ◌≤◌, take}
use Rattle.text_lines.specs.Numbers.{value}
use Rattle.text_lines.proofs.number.number_up_to.Given as goal

abbrev pub invariant-loop-byte : goal.invariant-loop-byte
invariant-loop-byte l = (l.number ≡ value (take l.byte-index l.text)) × (l.number ≤ l.most)
