use Rattle.std.proofs.Common.{◌≡◌, ◌∙◌, ◌≤◌, List, length, ap, subst, arith}
use Rattle.match_rules.specs.declared.rules.RulePair.{RulePair}
use Rattle.venue_rules.specs.Candidates.{candidates}
use Rattle.venue_rules.specs.Found.{AreFound}
use Rattle.venue_rules.specs.Venues.{VenueValue}
use Rattle.venue_rules.proofs.FoundLaws.{papers-done}
use Rattle.venue_rules.proofs.candidates.candidates.Goals as goal

pub returns : goal.returns
unfolding candidates
returns c =
    let venue = c.args.tables.now in
    let rows : c.rows-row-items.result.now ≡ venue.papers = c.rows-row-items.ensures.same ∙ ap (λ (v : VenueValue). v.papers) c.tables.view_is in
    let le : length venue.papers ≤ c.loop-i.i = omega (arith, ap length rows) in
    let before = c.loop-i.invariant.found in
    subst (λ (pairs : List RulePair). AreFound c.loop-i.found pairs) (papers-done venue c.loop-i.i venue.papers before.0 _ le before.2) before.1
