use Rattle.std.specs.Prelude.{length}
use Rattle.http_framing.proofs.head.+any_expects.Given as goal

abbrev pub decreases-any_expects : goal.decreases-any_expects
decreases-any_expects l = length l.fields.now
