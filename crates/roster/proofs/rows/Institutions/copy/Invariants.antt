use Rattle.std.proofs.Common.{◌≡◌, take}
use Rattle.roster.proofs.rows.Institutions.copy.Given as goal

abbrev pub invariant-loop-institution : goal.invariant-loop-institution
invariant-loop-institution l = l.items.items ≡ take l.institution-index l.institution-items
