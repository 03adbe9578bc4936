use Rattle.std.proofs.Common.{◌∙◌, ap, sym}
use Rattle.desk_history.specs.Courses.{history_of}
use Rattle.desk_history.specs.Histories.{brought_at}
use Rattle.job_desk.proofs.BroughtLaws.{brought_here}
use Rattle.job_desk.proofs.drawing.brought_at.Goals as goal

pub returns-in-Some : goal.returns-in-Some
returns-in-Some c =
    c.brought_in.ensures ∙ sym (brought_here c.args.entries.now.items c.in-Some.place)
    ∙ ap (brought_at (history_of c.args.entries.now)) (sym c.in-Some.is)
