use Rattle.std.proofs.Common.{rules}
use Rattle.editions.specs.Edits.{venue_after}
use Rattle.editions.proofs.next.after.Goals as goal

pub returns-in-Settings : goal.returns-in-Settings
unfolding venue_after
returns-in-Settings c = search rules
