use Rattle.desk_routes.proofs.PartLaws.{parts_by_split}
use Rattle.desk_routes.proofs.parts.first_part.Goals as goal

pub returns : goal.returns
returns c = parts_by_split c.args.text.now c.split_once.result c.split_once.ensures.cases
