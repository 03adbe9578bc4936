use Rattle.std.proofs.Common.{◌≡◌, ◌∙◌, List, Result, ap, length, reverse, subst, sym}
use Rattle.desk_history.specs.declared.entries.Entry.{Entry}
use Rattle.desk_history.specs.Courses.{history_of}
use Rattle.desk_history.specs.Histories.{History}
use Rattle.desk_reopening.specs.declared.faults.ReplayFault.{ReplayFault}
use Rattle.desk_reopening.specs.Replaying.{IsNewRow, IsTheOne, Leads, TakesUp}
use Rattle.desk_keeper.specs.declared.words.Kept.{Kept}
use Rattle.desk_reopening.proofs.RowLaws.{next_numbers, row_damage, row_leads}
use Rattle.desk_reopening.proofs.rows.replay_row.Goals as goal

pub replay_command-requires-clause-may : goal.replay_command-requires-clause-may
replay_command-requires-clause-may c = (c.in-Ok.ensures.found (history_of c.args.entries.now) c.requires.kept.are c.requires.numbers).is.is_row.kept

pub replay_command-requires-clause-more : goal.replay_command-requires-clause-more
replay_command-requires-clause-more c = ap length (c.in-Ok.ensures.found (history_of c.args.entries.now) c.requires.kept.are c.requires.numbers).is.is_row.text

pub returns-in-Err-clause-replay : goal.returns-in-Err-clause-replay
returns-in-Err-clause-replay c =
    row_damage (history_of c.args.entries.now) c.args.row.now c.in-Err.fault (history_of c.args.entries.now) (c.in-Err.ensures.found (history_of c.args.entries.now) c.requires.kept.are c.requires.numbers)

pub returns-clause-replay : goal.returns-clause-replay
returns-clause-replay c =
    let H : History = history_of c.args.entries.now in
    row_leads H c.args.row.now c.in-Ok.kept c.replay_command.result (history_of c.replay_command.new.entries)
    (c.in-Ok.ensures.found H c.requires.kept.are c.requires.numbers)
    (subst (λ (items : List Entry). Leads (TakesUp (reverse items) c.in-Ok.kept.named c.in-Ok.kept.lottery) c.replay_command.result (history_of c.replay_command.new.entries)) c.reserve.ensures.items c.replay_command.ensures.replay)
