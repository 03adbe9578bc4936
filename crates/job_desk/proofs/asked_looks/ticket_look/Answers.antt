use Rattle.std.proofs.Common.{◌≡◌, ◌∙◌, Some, ap, sym}
use Rattle.std.specs.Option.{option_map}
use Rattle.desk_history.specs.Courses.{history_of}
use Rattle.desk_history.specs.Histories.{History, nth_of, publications}
use Rattle.job_desk.proofs.LookLaws.{backed_matches}
use Rattle.job_desk.proofs.asked_looks.ticket_look.Goals as goal

-- what is shown of a publication matches its rules
pub pairs_look-requires : goal.pairs_look-requires
pairs_look-requires c =
    let H : History = history_of c.args.entries.now in
    let found : nth_of (publications H) c.args.number ≡ Some c.in-Some.publication = cc (c.nth.ensures.value, c.in-Some.is, c.as_slice.ensures.value, c.requires.tables.publications) in
    backed_matches c.requires.legal.0 H c.args.number c.in-Some.publication c.in-Some-evidence.shown.now c.requires.legal.1 found
    (sym c.evidence.ensures ∙ ap (option_map (λ s. s.now)) c.in-Some-evidence.is)
