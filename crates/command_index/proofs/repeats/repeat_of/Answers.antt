use Rattle.std.proofs.Common.{◌≡◌, ◌∙◌, None, Some, Option, ap, sym, reverse, List}
use Rattle.std.specs.List.{slice_get}
use Rattle.std.proofs.lemmas.List.{reverse-reverse}
use Rattle.desk_history.specs.declared.entries.Entry.{Entry}
use Rattle.desk_history.specs.Courses.{history_of}
use Rattle.desk_history.specs.Histories.{Earlier, kept}
use Rattle.command_index.specs.Places.{place_in}
use Rattle.command_index.specs.Repeats.{accepted_by, repeat_of}
use Rattle.command_index.proofs.PlaceLaws.{kept_there, none_at}
use Rattle.command_index.proofs.repeats.repeat_of.Goals as goal

pub returns-in_err-place : goal.returns-in_err-place
returns-in_err-place c =
    let H = history_of c.args.entries.now in
    let none : place_in H c.args.named.now.caller c.args.named.now.number ≡ None =
    sym (c.requires c.args.named.now.caller c.args.named.now.number) ∙ sym c.find.ensures ∙ c.in_err-place.was in
    c.from_residual.ensures ∙ sym (ap (λ (earlier : Option Earlier). repeat_of earlier c.args.named.now.command) (none_at H c.args.named.now.caller c.args.named.now.number none))

pub returns : goal.returns
returns c =
    let H = history_of c.args.entries.now in
    let at : place_in H c.args.named.now.caller c.args.named.now.number ≡ Some c.in_ok-place.place =
    sym (c.requires c.args.named.now.caller c.args.named.now.number) ∙ sym c.find.ensures ∙ c.in_ok-place.was in
    c.repeat_in.ensures
    ∙ ap (λ (entry : Option Entry). repeat_of (accepted_by c.in_ok-place.place.command entry) c.args.named.now.command)
    (c.entry_at-entry.ensures ∙ ap (λ (items : List Entry). slice_get items c.in_ok-place.place.entry) (sym (reverse-reverse c.args.entries.now.items)))
    ∙ ap (λ (earlier : Option Earlier). repeat_of earlier c.args.named.now.command) (kept_there H c.args.named.now.caller c.args.named.now.number c.in_ok-place.place at)
