use Rattle.std.proofs.Common.{◌≡◌, ◌≤◌, ◌∷◌, ◌∙◌, None, length, arith, ap, subst, sym}
use Rattle.desk_keeper.specs.declared.words.Command.{Command}
use Rattle.desk_history.specs.declared.entries.Done.{Done}
use Rattle.desk_history.specs.declared.entries.Done.TheVariants as done
use Rattle.desk_history.specs.declared.entries.Entry.TheVariants.{Accepted}
use Rattle.desk_history.specs.Courses.{full, history_of}
use Rattle.desk_history.specs.Histories.{History}
use Rattle.desk_history.specs.Rows.{named, row_behind}
use Rattle.desk_history.specs.Steps.{done_of}
use Rattle.desk_history.specs.Tables.{AreTables}
use Rattle.desk_history.proofs.TableLaws.{full_bound}
use Rattle.job_desk.proofs.draws.note_draw.Goals as goal

pub returns-clause-entry : goal.returns-clause-entry
returns-clause-entry c =
    c.note_accepted.ensures.entry
    ∙ ap (λ (reply : Done). Accepted c.args.named.caller c.args.named.number c.args.named.command reply None ∷ history_of c.args.entries.now)
    (ap (done.Drawn c.args.publication) c.requires.command.drawn ∙ ap (done_of (history_of c.args.entries.now)) (sym c.requires.command.is))

pub returns-clause-kept : goal.returns-clause-kept
returns-clause-kept c =
    let drawn : AreTables (Accepted c.args.named.caller c.args.named.number c.args.named.command (done.Drawn c.args.publication c.args.ticket) None ∷ history_of c.args.entries.now) c.note_draw.new.self =
    subst (λ (its : Command). AreTables (Accepted c.args.named.caller c.args.named.number its (done.Drawn c.args.publication c.args.ticket) None ∷ history_of c.args.entries.now) c.note_draw.new.self) (sym c.requires.command.is)
    (c.note_draw.ensures (history_of c.args.entries.now) c.args.named.caller c.requires.command.text c.args.named.number (done.Drawn c.args.publication c.args.ticket) None c.requires.command.drawn
    (subst (λ (its : Command). c.args.more ≡ length (row_behind (history_of c.args.entries.now) (named c.args.named.caller c.args.named.number its) None)) c.requires.command.is c.requires.more) c.requires.kept.are) in
    let made : AreTables (history_of c.note_accepted.new.entries) c.note_draw.new.self =
    subst (λ (h : History). AreTables h c.note_draw.new.self) (sym c.note_accepted.ensures.entry) drawn in
    let few : full c.note_draw.new.self.benches ≤ length c.note_draw.new.self.benches = full_bound c.note_draw.new.self.benches in
    record {
      are = made;
      room = omega (arith, made.bench_count, few, c.note_accepted.ensures.len, c.note_accepted.ensures.capacity, c.requires.room);
    }
