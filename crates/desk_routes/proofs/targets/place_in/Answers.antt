use Rattle.std.proofs.Common.{refl}
use Rattle.desk_routes.proofs.PartLaws.{place_of_more}
use Rattle.desk_routes.proofs.targets.place_in.Goals as goal

pub returns-in-Some-first_part-3 : goal.returns-in-Some-first_part-3
returns-in-Some-first_part-3 c = rw (c.in-Some.ensures, c.in-Some-first_part.ensures, c.in-Some-first_part-2.ensures, c.in-Some-first_part-3.ensures) (rw place_of_more refl)
