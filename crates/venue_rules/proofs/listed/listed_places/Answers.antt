use Rattle.std.proofs.Common.{◌≡◌, ◌∙◌, ℕ, false, true, List, length, sym, ap, subst}
use Rattle.std.proofs.lemmas.Result.{IfOk-weaker}
use Rattle.roster.specs.Table.{Ascend}
use Rattle.roster.specs.declared.rows.ReviewerRow.{ReviewerRow}
use Rattle.venue_rules.specs.Listed.{AreListed}
use Rattle.venue_rules.specs.Venues.{VenueValue, reviewer_key}
use Rattle.venue_rules.proofs.ListedLaws.{all-listed, few-listed}
use Rattle.venue_rules.proofs.listed.listed_places.Goals as goal

pub returns-then-all_pairs : goal.returns-then-all_pairs
returns-then-all_pairs c =
    let venue = c.args.tables.now in
    let paper = c.args.paper.now in
    let settings : c.tables.inside.settings.now ≡ venue.settings = ap (λ (v : VenueValue). v.settings) c.tables.view_is in
    let rows : c.rows-reviewers.result.now ≡ venue.reviewers = c.rows-reviewers.ensures.same ∙ ap (λ (v : VenueValue). v.reviewers) c.tables.view_is in
    let all : venue.settings.all_pairs ≡ true = cc in
    let count : length c.rows-reviewers.result.now ≡ length venue.reviewers = ap length rows in
    IfOk-weaker c.places_below.result _ _ (λ places is. subst (λ (items : List ℕ). AreListed venue paper items) (sym is) (all-listed venue paper (length c.rows-reviewers.result.now) all count)) c.places_below.ensures

pub returns : goal.returns
returns c =
    let venue = c.args.tables.now in
    let paper = c.args.paper.now in
    let settings : c.tables.inside.settings.now ≡ venue.settings = ap (λ (v : VenueValue). v.settings) c.tables.view_is in
    let rows : c.rows-reviewers.result.now ≡ venue.reviewers = c.rows-reviewers.ensures.same ∙ ap (λ (v : VenueValue). v.reviewers) c.tables.view_is in
    let few : venue.settings.all_pairs ≡ false = cc in
    let up : Ascend reviewer_key venue.reviewers = subst (λ (xs : List ReviewerRow). Ascend reviewer_key xs) (ap (λ (v : VenueValue). v.reviewers) c.tables.view_is) c.rows-reviewers.ensures.ascend in
    few-listed venue paper c.in_ok-places.places.items c.put_in_order.new.places.items few up c.in_ok-places.ensures.marks c.in_ok-places.ensures.places c.in_ok-put_in_order.ensures.ascend c.in_ok-put_in_order.ensures.same
