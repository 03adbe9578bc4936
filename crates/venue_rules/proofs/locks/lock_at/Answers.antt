use Rattle.std.proofs.Common.{◌≡◌, ◌∙◌, Some, pos, sym, ap, ap₂, rules, FitsSigned, w32, to_z}
use Rattle.std.proofs.lemmas.Int.{to_z-of_z}
use Rattle.std.specs.Option.{option_copied}
use Rattle.roster.specs.Table.{row_of}
use Rattle.venue_rules.specs.Venues.{VenueValue, paper_key, reviewer_key}
use Rattle.venue_rules.proofs.LockLaws.{lock_with, locked}
use Rattle.venue_rules.proofs.locks.lock_at.Goals as goal

pub returns : goal.returns
returns c =
    let venue = c.args.tables.now in
    let fits : FitsSigned w32 c.args.mark.now = search rules in
    let one : c.args.mark.now ≡ pos 1 = sym (to_z-of_z w32 c.args.mark.now fits) ∙ ap (to_z w32) c.if-mark-ne1.false in
    let papers = ap (λ (v : VenueValue). v.papers) c.tables.view_is in
    let reviewers = ap (λ (v : VenueValue). v.reviewers) c.tables.view_is in
    let paper : row_of paper_key c.args.paper.now venue.papers ≡ Some c.in-Some.paper.now =
    ap (row_of paper_key c.args.paper.now) (sym papers) ∙ sym c.get.ensures ∙ ap option_copied c.in-Some.is in
    let reviewer : row_of reviewer_key c.args.reviewer.now venue.reviewers ≡ Some c.in-Some-get.reviewer.now =
    ap (row_of reviewer_key c.args.reviewer.now) (sym reviewers) ∙ sym c.get-2.ensures ∙ ap option_copied c.in-Some-get.is in
    let share = sym c.if-not-do_share.ensures in
    ap₂ lock_with c.in_ok-paper.ensures.same c.in_ok-reviewer.ensures.same
    ∙ locked venue c.args.paper.now c.args.reviewer.now c.args.mark.now c.in-Some.paper.now c.in-Some-get.reviewer.now one paper reviewer share
