use Rattle.std.proofs.Common.{◌≡◌, ◌∙◌, ap, length, rules, subst, sym}
use Rattle.std.proofs.lemmas.List.{length-reverse}
use Rattle.desk_history.specs.Courses.{history_of}
use Rattle.desk_history.specs.Histories.{History, kept}
use Rattle.desk_history.specs.Steps.{new_step}
use Rattle.command_index.specs.Maps.{place_at}
use Rattle.command_index.specs.Places.{IsIndexOf}
use Rattle.job_desk.proofs.IndexLaws.{accepted_index, refused_next}
use Rattle.job_desk.proofs.commands.indexed_command.Goals as goal

pub returns-in-Ok-new_command-clause-indexed : goal.returns-in-Ok-new_command-clause-indexed
returns-in-Ok-new_command-clause-indexed g c =
    let H : History = history_of c.args.entries.now in
    let long : c.len.result ≡ length H = search (rules, length-reverse, c.len.ensures) in
    accepted_index H c.args.named c.in-Ok-new_command.answer (history_of c.new_command.new.entries) (place_at c.args.index.now) (place_at c.add.new.self)
    c.in-Ok.caller c.len.result c.args.tables.now.commands (c.in-Ok.ensures ∙ c.as_str.ensures) long c.requires.kept.are.commands
    c.in-Ok-new_command.ensures.step c.requires.indexed c.in-Ok-add.ensures.put

pub returns-clause-indexed : goal.returns-clause-indexed
returns-clause-indexed g c =
    let H : History = history_of c.args.entries.now in
    subst (λ (h : History). IsIndexOf h (place_at c.remove.new.self))
    (sym (refused_next (new_step H c.args.named) H c.in-Err-new_command.refusal (history_of c.new_command.new.entries) c.in-Err-new_command.ensures.step))
    (c.index_laws.ensures.withdrawn H (place_at c.args.index.now) (place_at c.add.new.self) (place_at c.remove.new.self) c.in-Ok.caller c.args.named.number
    (record { entry = c.len.result; command = c.args.tables.now.commands })
    (ap (λ name. kept H name c.args.named.number) (c.in-Ok.ensures ∙ c.as_str.ensures) ∙ c.requires.new) c.requires.indexed c.in-Ok-add.ensures.put c.remove.ensures)
