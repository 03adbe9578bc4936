use Rattle.match_rules.proofs.Names.{found_name, not_missing}
use Rattle.reports.proofs.names.place_of.Goals as goal

pub returns-in-Ok : goal.returns-in-Ok
returns-in-Ok c = found_name c.args.names.now c.args.name c.in-Ok.place c.in-Ok.ensures.bound (c.in-Ok.ensures.ok c.args.name)

pub returns-in-Err : goal.returns-in-Err
returns-in-Err c = absurd (not_missing c.args.names.now c.args.name c.in-Err.place c.requires.ascending c.requires.there c.in-Err.ensures.position)
