use Rattle.solve_line.proofs.VerdictLaws.{verdict-best}
use Rattle.solve_line.proofs.verdict.Verdict.answer.Goals as goal

pub returns-clause-best : goal.returns-clause-best
returns-clause-best c = rw (← c.self.view_is) (verdict-best c.self.inside.rules c.self.inside.mode c.self.inside.answer c.pairs-pairs.ensures.kept c.self.invariant)
