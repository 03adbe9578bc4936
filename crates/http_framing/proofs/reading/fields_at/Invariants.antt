use Rattle.std.proofs.Common.{◌≡◌, take}
use Rattle.std.specs.Prelude.{map}
use Rattle.http_framing.specs.Parts.{field_at}
use Rattle.http_framing.proofs.reading.fields_at.Given as goal

abbrev pub invariant-loop-header : goal.invariant-loop-header
invariant-loop-header l = l.fields.items ≡ map (field_at l.bytes) (take l.header-index l.headers)
