use Rattle.std.proofs.Common.{◌≡◌, ◌+◌, ◌≤◌, ◌∷◌, ◌∙◌, ℕ, None, length, arith, ap, subst, sym}
use Rattle.desk_keeper.specs.declared.words.Command.{Command}
use Rattle.desk_history.specs.declared.entries.Done.{Done}
use Rattle.desk_history.specs.declared.entries.Done.TheVariants as done
use Rattle.desk_history.specs.declared.entries.Entry.TheVariants.{Accepted}
use Rattle.desk_history.specs.Courses.{full, history_of}
use Rattle.desk_history.specs.Histories.{History}
use Rattle.desk_history.specs.Rows.{named, row_behind}
use Rattle.desk_history.specs.Steps.{done_of}
use Rattle.desk_history.specs.Tables.{AreTables}
use Rattle.desk_history.proofs.TableLaws.{full_bound}
use Rattle.desk_history.proofs.EditLaws.{edits_bound}
use Rattle.job_desk.proofs.edits.note_edit.Goals as goal

-- there are no more editions than commands
pub overflow_add-edition : goal.overflow_add-edition
overflow_add-edition c =
    let few = edits_bound (history_of c.args.entries.now) in
    omega (arith, few, c.requires.kept.are.edits, c.requires.kept.are.commands, c.requires.commands)

pub note_edit-requires-clause-edits : goal.note_edit-requires-clause-edits
note_edit-requires-clause-edits c =
    let few = edits_bound (history_of c.args.entries.now) in
    omega (arith, few, c.requires.kept.are.edits, c.requires.kept.are.commands, c.requires.commands)

pub returns-clause-entry : goal.returns-clause-entry
returns-clause-entry c =
    c.note_accepted.ensures.entry
    ∙ ap (λ (reply : Done). Accepted c.args.named.caller c.args.named.number c.args.named.command reply None ∷ history_of c.args.entries.now)
    (ap (λ (n : ℕ). done.Edited (n + 1)) c.requires.kept.are.edits ∙ ap (done_of (history_of c.args.entries.now)) (sym c.requires.command.is))

pub returns-clause-kept : goal.returns-clause-kept
returns-clause-kept c =
    let edited : AreTables (Accepted c.args.named.caller c.args.named.number c.args.named.command (done.Edited (c.args.tables.now.edits + 1)) None ∷ history_of c.args.entries.now) c.note_edit.new.self =
    subst (λ (its : Command). AreTables (Accepted c.args.named.caller c.args.named.number its (done.Edited (c.args.tables.now.edits + 1)) None ∷ history_of c.args.entries.now) c.note_edit.new.self) (sym c.requires.command.is)
    (c.note_edit.ensures (history_of c.args.entries.now) c.args.named.caller c.args.named.number c.requires.command.base c.requires.command.edit (done.Edited (c.args.tables.now.edits + 1)) None
    (subst (λ (its : Command). c.args.more ≡ length (row_behind (history_of c.args.entries.now) (named c.args.named.caller c.args.named.number its) None)) c.requires.command.is c.requires.more)
    c.requires.command.venue c.requires.command.rules c.requires.kept.are) in
    let made : AreTables (history_of c.note_accepted.new.entries) c.note_edit.new.self =
    subst (λ (h : History). AreTables h c.note_edit.new.self) (sym c.note_accepted.ensures.entry) edited in
    let few : full c.note_edit.new.self.benches ≤ length c.note_edit.new.self.benches = full_bound c.note_edit.new.self.benches in
    record {
      are = made;
      room = omega (arith, made.bench_count, few, c.note_accepted.ensures.len, c.note_accepted.ensures.capacity, c.requires.room);
    }
