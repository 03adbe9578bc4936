use Rattle.std.specs.Prelude.{length}
use Rattle.http_framing.proofs.head.+any_closes.Given as goal

abbrev pub decreases-any_closes : goal.decreases-any_closes
decreases-any_closes l = length l.fields.now
