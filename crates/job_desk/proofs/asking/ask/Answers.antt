use Rattle.std.proofs.Common.{◌∙◌, subst, sym}
use Rattle.desk_history.specs.declared.requests.Request.TheVariants.{Finish}
use Rattle.desk_history.specs.Courses.{history_of}
use Rattle.desk_history.specs.Histories.{History}
use Rattle.desk_history.specs.Steps.{IsTyped, MayAsk, finish_step}
use Rattle.command_index.specs.Maps.{place_at}
use Rattle.job_desk.proofs.DeskLaws.{bench_next, command_next, quiet_finish, rows_stay}
use Rattle.job_desk.proofs.IndexLaws.{quiet_index}
use Rattle.job_desk.proofs.asking.ask.Goals as goal

pub returns-in-Do-clause-desk : goal.returns-in-Do-clause-desk
returns-in-Do-clause-desk g c =
    let H : History = history_of c.args.entries.now in
    command_next c.args.chairs.now.items c.args.entries.now c.args.tables.now c.in-Do.named c.ask_command.result c.ask_command.new.entries c.ask_command.new.tables
    c.requires.desk (subst IsTyped c.in-Do.is c.is_typed.ensures) (subst (MayAsk H) c.in-Do.is c.requires.may) c.ask_command.ensures.step c.ask_command.ensures.kept

pub returns-in-Finish-clause-desk : goal.returns-in-Finish-clause-desk
returns-in-Finish-clause-desk g c =
    let H : History = history_of c.args.entries.now in
    bench_next c.args.chairs.now.items c.args.entries.now c.args.tables.now (Finish c.in-Finish.bench c.in-Finish.job c.in-Finish.work) c.finish.result c.finish.new.entries c.finish.new.tables
    c.requires.desk (subst IsTyped c.in-Finish.is c.is_typed.ensures) (subst (MayAsk H) c.in-Finish.is c.requires.may) (quiet_finish H c.in-Finish.bench c.in-Finish.job c.in-Finish.work) c.finish.ensures.step c.finish.ensures.kept

pub returns-in-Finish-clause-indexed : goal.returns-in-Finish-clause-indexed
returns-in-Finish-clause-indexed g c =
    let H : History = history_of c.args.entries.now in
    quiet_index (finish_step H c.in-Finish.bench c.in-Finish.job c.in-Finish.work) H c.finish.result (history_of c.finish.new.entries) (place_at c.args.index.now)
    (quiet_finish H c.in-Finish.bench c.in-Finish.job c.in-Finish.work) c.finish.ensures.step c.requires.indexed

pub returns-in-Finish-clause-told : goal.returns-in-Finish-clause-told
returns-in-Finish-clause-told g c =
    let H : History = history_of c.args.entries.now in
    λ some. c.requires.told some
    ∙ sym (rows_stay (finish_step H c.in-Finish.bench c.in-Finish.job c.in-Finish.work) H c.finish.result (history_of c.finish.new.entries)
    (quiet_finish H c.in-Finish.bench c.in-Finish.job c.in-Finish.work) c.finish.ensures.step).0
