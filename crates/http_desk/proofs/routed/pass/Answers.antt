use Rattle.http_desk.proofs.RouteLaws.{served_there}
use Rattle.http_desk.proofs.routed.pass.Goals as goal

pub ask-requires-clause-served : goal.ask-requires-clause-served
ask-requires-clause-served g c = served_there c.args.routes (g.H.Host.routes c.args.host.now) c.in-Ok.asked c.requires.worker (c.route_laws.ensures.served c.args.routes c.args.request c.in-Ok.asked c.in-Ok.ensures)
