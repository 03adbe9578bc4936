use Rattle.std.proofs.Common.{◌≡◌, ◌≤◌, [], drop}
use Rattle.publication.specs.Scans.{scan, fresh}
use Rattle.publication.proofs.numbers.scanned.Given as goal

abbrev pub invariant-loop-byte : goal.invariant-loop-byte
invariant-loop-byte l = (l.field.number ≤ 4294967295) × (scan [] fresh l.line ≡ scan l.numbers.items l.field (drop l.byte-index l.line))
