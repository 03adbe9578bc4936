use Rattle.match_rules.proofs.Numbers.{not_missing_number}
use Rattle.match_rules.proofs.groups.place_among.Goals as goal

pub returns-in-Err : goal.returns-in-Err
returns-in-Err c = absurd (not_missing_number c.args.numbers.now c.args.number c.in-Err.place c.requires.ascending c.requires.there c.in-Err.ensures.position)
