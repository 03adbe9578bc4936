use Rattle.std.proofs.Common.{◌≡◌, ◌∙◌, Some, sym, ap}
use Rattle.std.specs.Option.{option_copied}
use Rattle.score_spec.specs.PairTables.{value_of_pair}
use Rattle.venue_rules.specs.Venues.{VenueValue, IsCap}
use Rattle.venue_rules.proofs.CapLaws.{pair-held}
use Rattle.venue_rules.proofs.candidates.cap_of.Goals as goal

pub returns-in-Some-clause-within : goal.returns-in-Some-clause-within
returns-in-Some-clause-within c =
    let venue = c.args.tables.now in
    let caps : c.tables.inside.caps.now ≡ venue.caps = ap (λ (v : VenueValue). v.caps) c.tables.view_is in
    let at_venue = ap (λ table. value_of_pair table c.text.result.now c.text-2.result.now) caps in
    let at_paper = ap (λ paper. value_of_pair venue.caps paper c.text-2.result.now) c.text.ensures.same in
    let at_both = ap (λ reviewer. value_of_pair venue.caps c.args.paper.now.id reviewer) c.text-2.ensures.same in
    let found : value_of_pair venue.caps c.args.paper.now.id c.args.reviewer.now.id ≡ Some c.in-Some.cap.now =
    sym (c.get.ensures ∙ (at_venue ∙ at_paper ∙ at_both)) ∙ ap option_copied c.in-Some.is in
    pair-held IsCap venue.caps c.args.paper.now.id c.args.reviewer.now.id c.in-Some.cap.now c.requires.caps found
