use Rattle.std.proofs.Common.{sym, ◌∙◌}
use Rattle.text_lines.specs.Fields.{fields}
use Rattle.publication.proofs.CutLaws.{marks_numbers}
use Rattle.publication.proofs.cut_forms.marks_from.Goals as goal

pub returns-in-Ok : goal.returns-in-Ok
returns-in-Ok c =
    let found = rw c.in-Some.is at c.in_ok-places.ensures in
    marks_numbers c.args.count (fields c.args.text.now) c.in-Some.places.items c.ranges.count.fits (sym found) ∙ sym (rw c.from_vec.ensures at c.marks_with.ensures) ∙ c.in-Ok.is

pub returns-in-Err : goal.returns-in-Err
returns-in-Err c =
    let found = rw c.in-Some.is at c.in_ok-places.ensures in
    marks_numbers c.args.count (fields c.args.text.now) c.in-Some.places.items c.ranges.count.fits (sym found) ∙ sym (rw c.from_vec.ensures at c.marks_with.ensures) ∙ c.in-Err.is
