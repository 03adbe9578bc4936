use Rattle.std.proofs.Common.{◌≡◌, ◌∙◌, ◌<◌, length, get_or, ap, arith}
use Rattle.venue_rules.specs.Parts.{IsReviewer}
use Rattle.venue_rules.specs.Venues.{VenueValue}
use Rattle.venue_rules.specs.VenueRules.{rule_reviewer}
use Rattle.venue_rules.proofs.RowLaws.{made-more, good-more}
use Rattle.venue_rules.proofs.rules.rule_reviewers.Goals as goal

pub loop-reviewer-preserved : goal.loop-reviewer-preserved
loop-reviewer-preserved c =
    let venue = c.args.tables.now in
    let i = c.loop-reviewer.reviewer-index in
    let row = c.reviewer-item.result in
    let rows : c.rows-reviewer-items.result.now ≡ venue.reviewers = c.rows-reviewer-items.ensures.same ∙ ap (λ (v : VenueValue). v.reviewers) c.tables.view_is in
    let lt : c.loop-reviewer.reviewer-index < length venue.reviewers = omega (arith, ap length rows) in
    let is : c.reviewer-item.result ≡ get_or venue.reviewers i row = c.reviewer-item.is ∙ ap (λ xs. get_or xs i row) rows in
    let one = c.in_ok-rule_reviewer.ensures in
    record {
      same = made-more (rule_reviewer venue) venue.reviewers i row c.loop-reviewer.reviewers.items c.push.new.self.items c.in_ok-rule_reviewer.field-0 lt is c.loop-reviewer.invariant.same c.in_ok-push.ensures.items one.same;
      good = good-more (IsReviewer venue) venue.reviewers i row lt is c.loop-reviewer.invariant.good one.good;
    }
