use Rattle.std.proofs.Common.{◌≡◌, ◌∷◌, ◌∙◌, ℕ, List, Ok, Result, ap, reverse, subst, sym}
use Rattle.desk_history.specs.declared.entries.Entry.{Entry}
use Rattle.desk_history.specs.declared.entries.Entry.TheVariants.{Took}
use Rattle.desk_history.specs.declared.jobs.Job.{Job}
use Rattle.desk_history.specs.declared.refusals.Refusal.{Refusal}
use Rattle.desk_history.specs.declared.replies.Answered.TheVariants.{Taken}
use Rattle.desk_history.specs.declared.replies.Snapshot.{Snapshot}
use Rattle.desk_history.specs.Courses.{IsTakable, history_of}
use Rattle.desk_history.specs.Histories.{History}
use Rattle.desk_history.specs.Looks.{Step}
use Rattle.desk_history.specs.Steps.{made, take_step, with_entry}
use Rattle.desk_history.proofs.BenchLaws.{taken}
use Rattle.desk_history.proofs.benches.take.Goals as goal

pub returns-clause-step : goal.returns-clause-step
returns-clause-step c =
    let H : History = history_of c.args.entries.now in
    let found : ℕ × Job = c.in-Ok.found in
    let takes : Entry = Took c.args.bench found.0 in
    let can : IsTakable H c.args.bench (Ok found) = subst (λ (r : Result (ℕ × Job) Refusal). IsTakable H c.args.bench r) c.in-Ok.is (c.takable.ensures H c.requires.kept.are) in
    let same : take_step H c.args.bench ≡ made (Taken c.in-Ok-snapshot.snapshot) takes =
    taken H c.args.tables.now c.args.bench found c.requires.kept.are can ∙ ap (λ (s : Snapshot). made (Taken s) takes) (sym c.in-Ok-snapshot.ensures) in (
      ap (λ (s : Step). s.reply) same,
      c.note_take.ensures.entry ∙ ap (λ (items : List Entry). takes ∷ reverse items) c.reserve.ensures.items ∙ sym (ap (λ (s : Step). with_entry s.entry H) same),
    )
