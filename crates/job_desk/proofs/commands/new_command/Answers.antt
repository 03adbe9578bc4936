use Rattle.std.proofs.Common.{subst, sym}
use Rattle.desk_keeper.specs.declared.words.Command.{Command}
use Rattle.desk_history.specs.Courses.{Does, history_of}
use Rattle.desk_history.specs.Histories.{History}
use Rattle.desk_history.specs.Rows.{named}
use Rattle.desk_history.specs.Steps.{new_step}
use Rattle.job_desk.proofs.commands.new_command.Goals as goal

pub returns-in-Publish-clause-step : goal.returns-in-Publish-clause-step
returns-in-Publish-clause-step g c =
    let H : History = history_of c.args.entries.now in
    subst (λ (its : Command). Does (new_step H (named c.args.named.caller c.args.named.number its)) H c.publish.result (history_of c.publish.new.entries)) (sym c.in-Publish.is) c.publish.ensures.step
