use Rattle.std.proofs.Common.{arith}
use Rattle.text_lines.proofs.lines.check_room.Goals as goal

pub returns-clause-fits : goal.returns-clause-fits
returns-clause-fits c = omega (arith, c.requires)
