use Rattle.std.specs.Prelude.{length}
use Rattle.http_messages.proofs.fields.+value_count.Given as goal

abbrev pub decreases-value_count : goal.decreases-value_count
decreases-value_count l = length l.fields.now
