use Rattle.desk_routes.proofs.ServedLaws.{request_served}
use Rattle.desk_routes.proofs.laws.route_laws.Goals as goal

pub returns : goal.returns
returns c = record { served = request_served }
