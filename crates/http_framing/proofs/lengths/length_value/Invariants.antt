use Rattle.std.proofs.Common.{◌≡◌, ◌≤◌, take}
use Rattle.http_framing.specs.HeadTests.{length_value}
use Rattle.http_framing.specs.declared.lengths.TheConstants.{MOST_BODY_BYTES}
use Rattle.http_framing.proofs.lengths.length_value.Given as goal

abbrev pub invariant-loop-byte : goal.invariant-loop-byte
invariant-loop-byte l = (l.number ≡ length_value (take l.byte-index l.text)) × (l.number ≤ MOST_BODY_BYTES)
