use Rattle.std.proofs.Common.{◌≡◌, ◌∙◌, [], None, ap, refl, sym}
use Rattle.venue_rules.specs.Venues.{VenueValue}
use Rattle.desk_keeper.specs.declared.words.Command.TheVariants.{Edit}
use Rattle.desk_keeper.specs.declared.words.Named.{Named}
use Rattle.desk_history.specs.Courses.{history_of}
use Rattle.desk_history.specs.Histories.{History, put}
use Rattle.desk_history.specs.Refusals.{edit_refusal}
use Rattle.desk_history.specs.Rows.{named}
use Rattle.desk_reopening.proofs.CommandLaws.{due_damage, edit_due, nothing_read, takes_one}
use Rattle.desk_reopening.proofs.commands.replay_edit.Goals as goal

pub note_edit-requires-clause-venue : goal.note_edit-requires-clause-venue
note_edit-requires-clause-venue c = sym (ap (λ (v : VenueValue). put v c.args.edit) c.requires.kept.are.venue) ∙ c.in-Ok.ensures.venue

pub returns-in-Err-clause-replay : goal.returns-in-Err-clause-replay
returns-in-Err-clause-replay c =
    let H : History = history_of c.args.entries.now in
    let its : Named = named c.args.caller c.args.number (Edit c.args.base c.args.edit) in
    due_damage H its [] (edit_refusal c.args.tables.now.edits c.args.base (put c.args.tables.now.venue c.args.edit)) c.in-Err.fault H
    (λ read is. edit_due H c.args.tables.now c.args.base c.args.edit c.requires.kept.are ∙ is.is_right) c.in-Err.ensures

pub returns-clause-replay : goal.returns-clause-replay
returns-clause-replay c =
    let H : History = history_of c.args.entries.now in
    let its : Named = named c.args.caller c.args.number (Edit c.args.base c.args.edit) in
    takes_one H its [] None (history_of c.note_edit.new.entries)
    (nothing_read H (Edit c.args.base c.args.edit) [] refl (λ read is. is) (sym (edit_due H c.args.tables.now c.args.base c.args.edit c.requires.kept.are) ∙ c.in-Ok.ensures.accepted)) c.note_edit.ensures.entry
