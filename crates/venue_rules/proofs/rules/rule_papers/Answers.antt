use Rattle.std.proofs.Common.{◌≡◌, ◌∙◌, ◌<◌, length, get_or, ap, arith}
use Rattle.venue_rules.specs.Parts.{IsPaper}
use Rattle.venue_rules.specs.Venues.{VenueValue}
use Rattle.venue_rules.specs.VenueRules.{rule_paper}
use Rattle.venue_rules.proofs.RowLaws.{made-more, good-more}
use Rattle.venue_rules.proofs.rules.rule_papers.Goals as goal

pub loop-paper-preserved : goal.loop-paper-preserved
loop-paper-preserved c =
    let venue = c.args.tables.now in
    let i = c.loop-paper.paper-index in
    let row = c.paper-item.result in
    let rows : c.rows-paper-items.result.now ≡ venue.papers = c.rows-paper-items.ensures.same ∙ ap (λ (v : VenueValue). v.papers) c.tables.view_is in
    let lt : c.loop-paper.paper-index < length venue.papers = omega (arith, ap length rows) in
    let is : c.paper-item.result ≡ get_or venue.papers i row = c.paper-item.is ∙ ap (λ xs. get_or xs i row) rows in
    let one = c.in_ok-rule_paper.ensures in
    record {
      same = made-more (rule_paper venue) venue.papers i row c.loop-paper.papers.items c.push.new.self.items c.in_ok-rule_paper.field-0 lt is c.loop-paper.invariant.same c.in_ok-push.ensures.items one.same;
      good = good-more (IsPaper venue) venue.papers i row lt is c.loop-paper.invariant.good one.good;
    }
