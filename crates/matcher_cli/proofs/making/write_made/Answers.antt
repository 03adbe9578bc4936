use Rattle.edge_io.specs.Told.{told}
use Rattle.match_rules.specs.declared.answer.Mode.{Mode}
use Rattle.match_rules.specs.declared.answer.Mode.TheVariants.{Whole}
use Rattle.match_rules.specs.Rules.{RulesValue, AreRules}
use Rattle.solve_line.specs.Verdicts.{IsVerdict}
use Rattle.matcher_cli.specs.declared.status.Status.TheVariants.{WriteFault}
use Rattle.matcher_cli.proofs.MakingLaws.{verdict_makes}
use Rattle.matcher_cli.proofs.SolvingLaws.{fault_solved, verdict_exact}
use Rattle.matcher_cli.proofs.making.write_made.Goals as goal

pub returns-in-Ok-clause-makes : goal.returns-in-Ok-clause-makes
returns-in-Ok-clause-makes g c =
    let all : RulesValue = c.args.verdict.now.rules in
    let are : AreRules all = rw c.rules-rules.ensures at c.pairs-pairs.ensures.kept in
    let verdict : IsVerdict all Whole c.answer-answer.result.now = rw c.requires at c.answer-answer.ensures.verdict in
    rw c.status_of.ensures (verdict_makes c.args.seed c.args.size all c.answer-answer.result.now (told (g.K.Sink.taken c.args.sink.now)) (g.K.Sink.taken c.write_all.new.sink) are verdict c.is_spelled.ensures
    (rw (c.as_slice.ensures, c.line_due.ensures, c.rules-rules.ensures) at c.in-Ok.ensures.taken.bytes))

pub returns-in-Err-clause-makes : goal.returns-in-Err-clause-makes
returns-in-Err-clause-makes g c =
    let all : RulesValue = c.args.verdict.now.rules in
    let verdict : IsVerdict all Whole c.answer-answer.result.now = rw c.requires at c.answer-answer.ensures.verdict in
    (c.answer-answer.result.now, verdict, rw (c.as_slice.ensures, c.line_due.ensures, c.rules-rules.ensures) at c.in-Err.ensures.taken.bytes)

pub returns-in-Ok-clause-exact : goal.returns-in-Ok-clause-exact
returns-in-Ok-clause-exact g c =
    let all : RulesValue = c.args.verdict.now.rules in
    let are : AreRules all = rw c.rules-rules.ensures at c.pairs-pairs.ensures.kept in
    let mode : Mode = c.args.verdict.now.mode in
    let verdict : IsVerdict all mode c.answer-answer.result.now = c.answer-answer.ensures.verdict in
    rw c.status_of.ensures (verdict_exact all mode c.answer-answer.result.now are verdict)

pub returns-in-Err-clause-exact : goal.returns-in-Err-clause-exact
returns-in-Err-clause-exact g c = fault_solved c.args.verdict.now.rules WriteFault tt
