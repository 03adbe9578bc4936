use Rattle.std.proofs.Common.{◌∙◌, List, ap, reverse, sym}
use Rattle.desk_history.specs.declared.entries.Entry.{Entry}
use Rattle.desk_history.specs.Courses.{history_of}
use Rattle.command_index.specs.Places.{place_in}
use Rattle.desk_reopening.proofs.EditionLaws.{none_makes}
use Rattle.job_desk.proofs.DeskLaws.{new_desk}
use Rattle.job_desk.proofs.desks.Desk.new.Goals as goal

pub invariant_of-result : goal.invariant_of-result
invariant_of-result c =
    let desk = new_desk c.args.chairs.items c.new-entries.result c.in_ok-tables.tables c.requires c.new-entries.ensures.items c.new-entries.ensures.len c.in_ok-tables.ensures in
    record {
      desk = desk;
      indexed = λ caller number. c.new-index.ensures caller number ∙ sym (ap (λ (items : List Entry). place_in (reverse items) caller number) c.new-entries.ensures.items);
      editions = none_makes (history_of c.new-entries.result) (ap (λ (items : List Entry). reverse items) c.new-entries.ensures.items) (c.edition_laws.ensures (history_of c.new-entries.result) desk.kept.are);
    }
