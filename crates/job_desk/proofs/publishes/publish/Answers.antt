use Rattle.std.proofs.Common.{◌∙◌, List, Result, ap, length, reverse, subst, sym}
use Rattle.desk_keeper.specs.Keepers.{Tells}
use Rattle.desk_history.specs.declared.entries.Entry.{Entry}
use Rattle.desk_history.specs.declared.refusals.Refusal.{Refusal}
use Rattle.desk_history.specs.Courses.{history_of}
use Rattle.desk_history.specs.Histories.{commands}
use Rattle.desk_history.specs.Rows.{rows}
use Rattle.desk_history.proofs.RowLaws.{row_count}
use Rattle.job_desk.specs.Keeping.{rows_after}
use Rattle.job_desk.proofs.publishes.publish.Goals as goal

-- the next place is the number of the rows, which is that of the commands
pub append-requires : goal.append-requires
append-requires g c told =
    c.prepare.ensures.kept.are.commands ∙ ap (λ (items : List Entry). commands (reverse items)) c.prepare.ensures.same
    ∙ sym (row_count (history_of c.args.entries.now)) ∙ ap length (sym (c.requires.told told))

-- where the row wasn't kept the rows are those of before
pub returns-in-Err-append-clause-told : goal.returns-in-Err-append-clause-told
returns-in-Err-append-clause-told g c told =
    let kept : Tells (g.P.Keeper.rows c.append.new.keeper) (rows (history_of c.args.entries.now)) =
    subst (λ (r : Result (Unit {0}) Refusal). Tells (g.P.Keeper.rows c.append.new.keeper) (rows_after r (rows (history_of c.args.entries.now)) c.as_slice.result.now))
    c.in-Err-append.is (c.append.ensures.rows (rows (history_of c.args.entries.now)) c.requires.told) in
    kept told ∙ sym (ap (λ (items : List Entry). rows (reverse items)) c.prepare.ensures.same)
