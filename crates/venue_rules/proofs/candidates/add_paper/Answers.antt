use Rattle.std.proofs.Common.{◌≡◌, ◌∙◌, ◌<◌, ◌≤◌, List, length, get_or, refl, ap, subst, arith}
use Rattle.std.specs.Prelude.{Some, IsTrue, slice_get}
use Rattle.std.proofs.lemmas.Option.{slice_get_read}
use Rattle.match_rules.specs.declared.rules.RulePair.{RulePair}
use Rattle.venue_rules.specs.Found.{AreFound}
use Rattle.venue_rules.specs.Listed.{is_listed_at}
use Rattle.venue_rules.specs.Venues.{VenueValue}
use Rattle.venue_rules.proofs.WalkLaws.{at-place, below-place, few-places, listed-row, walk-done, walk-turn}
use Rattle.venue_rules.proofs.candidates.add_paper.Goals as goal

pub bounds-reviewers-j : goal.bounds-reviewers-j
bounds-reviewers-j c =
    let venue = c.args.tables.now in
    let rows : c.rows-reviewers.result.now ≡ venue.reviewers = c.rows-reviewers.ensures.same ∙ ap (λ (v : VenueValue). v.reviewers) c.tables.view_is in
    let p = get_or c.args.listed.now c.loop-j.j-index 0 in
    let listed : IsTrue (is_listed_at venue c.args.paper.now.row.now p) = at-place venue c.args.paper.now.place c.args.paper.now.row.now c.args.listed.now c.loop-j.j-index c.requires.listed c.loop-j-test.true in
    let below : p < length venue.reviewers = below-place venue c.args.paper.now.place c.args.paper.now.row.now p listed in
    omega (arith, ap length rows)

pub add_listed-requires-clause-listed : goal.add_listed-requires-clause-listed
add_listed-requires-clause-listed c =
    let venue = c.args.tables.now in
    let rows : c.rows-reviewers.result.now ≡ venue.reviewers = c.rows-reviewers.ensures.same ∙ ap (λ (v : VenueValue). v.reviewers) c.tables.view_is in
    let row = c.index-reviewers-j.result in
    let p = get_or c.args.listed.now c.loop-j.j-index 0 in
    let listed : IsTrue (is_listed_at venue c.args.paper.now.row.now p) = at-place venue c.args.paper.now.place c.args.paper.now.row.now c.args.listed.now c.loop-j.j-index c.requires.listed c.loop-j-test.true in
    let below : p < length venue.reviewers = below-place venue c.args.paper.now.place c.args.paper.now.row.now p listed in
    let at : slice_get venue.reviewers p ≡ Some row = slice_get_read venue.reviewers (length venue.reviewers) p row refl below (c.index-reviewers-j.is ∙ ap (λ xs. get_or xs p row) rows) in
    listed-row venue c.args.paper.now.place c.args.paper.now.row.now p row listed at

pub add_listed-requires-clause-room : goal.add_listed-requires-clause-room
add_listed-requires-clause-room c =
    let venue = c.args.tables.now in
    let rows : c.rows-reviewers.result.now ≡ venue.reviewers = c.rows-reviewers.ensures.same ∙ ap (λ (v : VenueValue). v.reviewers) c.tables.view_is in
    let few : length c.args.listed.now ≤ length venue.reviewers = few-places venue c.args.paper.now.place c.args.paper.now.row.now c.args.listed.now c.requires.listed in
    let so_far = c.loop-j.invariant.count in
    omega (arith, ap length rows, ap length c.rows-reviewers.ensures.same, c.rows-reviewers.ensures.few, c.loop-j-test.true, c.requires.room)

pub loop-j-preserved : goal.loop-j-preserved
loop-j-preserved c =
    let venue = c.args.tables.now in
    let rows : c.rows-reviewers.result.now ≡ venue.reviewers = c.rows-reviewers.ensures.same ∙ ap (λ (v : VenueValue). v.reviewers) c.tables.view_is in
    let row = c.index-reviewers-j.result in
    let p = get_or c.args.listed.now c.loop-j.j-index 0 in
    let listed : IsTrue (is_listed_at venue c.args.paper.now.row.now p) = at-place venue c.args.paper.now.place c.args.paper.now.row.now c.args.listed.now c.loop-j.j-index c.requires.listed c.loop-j-test.true in
    let below : p < length venue.reviewers = below-place venue c.args.paper.now.place c.args.paper.now.row.now p listed in
    let at : slice_get venue.reviewers p ≡ Some row = slice_get_read venue.reviewers (length venue.reviewers) p row refl below (c.index-reviewers-j.is ∙ ap (λ xs. get_or xs p row) rows) in
    let step = c.in_ok-add_listed.ensures in
    record {
      count = omega (arith, step.count, c.loop-j.invariant.count);
      found = λ pairs found.
          let before = c.loop-j.invariant.found pairs found in
          (_, step.found before.0 before.1, walk-turn venue c.args.paper.now.place c.args.paper.now.row.now c.args.listed.now c.loop-j.j-index row before.0 _ c.loop-j-test.true at before.2);
    }

pub returns-clause-count : goal.returns-clause-count
returns-clause-count c =
    let venue = c.args.tables.now in
    let rows : c.rows-reviewers.result.now ≡ venue.reviewers = c.rows-reviewers.ensures.same ∙ ap (λ (v : VenueValue). v.reviewers) c.tables.view_is in
    let few : length c.args.listed.now ≤ length venue.reviewers = few-places venue c.args.paper.now.place c.args.paper.now.row.now c.args.listed.now c.requires.listed in
    omega (arith, ap length rows, ap length c.rows-reviewers.ensures.same, c.rows-reviewers.ensures.few, c.loop-j.invariant.count, c.loop-j.auto.j-index-end)

pub returns-clause-found : goal.returns-clause-found
returns-clause-found c = λ pairs found.
    let before = c.loop-j.invariant.found pairs found in
    subst (λ (ps : List RulePair). AreFound c.loop-j.found ps) (walk-done c.args.tables.now c.args.paper.now.place c.args.paper.now.row.now c.args.listed.now c.loop-j.j-index before.0 pairs c.requires.listed c.loop-j-test.false before.2) before.1
