use Rattle.std.proofs.Common.{◌≡◌}
use Rattle.match_rules.specs.declared.answer.Mode.TheVariants.{Whole, Fair}
use Rattle.solve_line.specs.Verdicts.{IsVerdict}
use Rattle.solve_line.proofs.VerdictLaws.{verdict-above, verdict-best, verdict-feasible, verdict-infeasible, verdict-level, verdict-whole-best}
use Rattle.solve_line.proofs.solving.solve.Goals as goal

pub returns-in-Ok-clause-feasible : goal.returns-in-Ok-clause-feasible
returns-in-Ok-clause-feasible c = verdict-feasible c.args.rules c.args.mode c.in-Ok.answer c.in-Ok.ensures

pub returns-in-Ok-clause-infeasible : goal.returns-in-Ok-clause-infeasible
returns-in-Ok-clause-infeasible c = verdict-infeasible c.args.rules c.args.mode c.in-Ok.answer c.in-Ok.ensures

pub returns-in-Ok-clause-best : goal.returns-in-Ok-clause-best
returns-in-Ok-clause-best c = verdict-best c.args.rules c.args.mode c.in-Ok.answer c.pairs-pairs.ensures.kept c.in-Ok.ensures

pub returns-in-Ok-clause-whole : goal.returns-in-Ok-clause-whole
returns-in-Ok-clause-whole c = λ (whole : c.args.mode ≡ Whole).
    let verdict : IsVerdict c.args.rules Whole c.in-Ok.answer = rw whole at c.in-Ok.ensures in
    verdict-whole-best c.args.rules c.in-Ok.answer c.pairs-pairs.ensures.kept verdict

pub returns-in-Ok-clause-level : goal.returns-in-Ok-clause-level
returns-in-Ok-clause-level c = λ (fair : c.args.mode ≡ Fair).
    let verdict : IsVerdict c.args.rules Fair c.in-Ok.answer = rw fair at c.in-Ok.ensures in
    verdict-level c.args.rules c.in-Ok.answer verdict

pub returns-in-Ok-clause-above : goal.returns-in-Ok-clause-above
returns-in-Ok-clause-above c = λ (fair : c.args.mode ≡ Fair). verdict-above c.args.rules c.args.mode c.in-Ok.answer c.in-Ok.ensures
