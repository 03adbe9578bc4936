use Rattle.std.proofs.Common.{◌≡◌, ◌<◌, ◌≢◌, length, get_or, arith, sym, ap, ◌∙◌}
use Rattle.std.proofs.lemmas.List.{get_or_read}
use Rattle.match_rules.specs.declared.rules.RulePaper.{RulePaper}
use Rattle.match_rules.specs.Rules.{paper_in, paper_at, no_paper}
use Rattle.match_rules.specs.Breaks.{demand_break}
use Rattle.match_rules.proofs.Firsts.{first_below-found}
use Rattle.match_rules.proofs.Found.{demand-found}
use Rattle.match_rules.proofs.check.demand_in_piece.Goals as goal

pub returns-then-count-paper : goal.returns-then-count-paper
returns-then-count-paper c =
    let rules = c.args.rules.now in
    let p = c.loop-p.p in
    let read = get_or_read c.papers-paper-items.result.now p c.paper-item.result c.loop-p-test.true c.paper-item.is no_paper in
    let item : c.paper-item.result ≡ paper_at rules p = read ∙ ap (λ papers. paper_in papers p) c.papers-paper-items.ensures.value in
    let demand = ap (λ (paper : RulePaper). paper.demand) item in
    let within : p < length rules.papers = omega arith in
    let size = c.count_papers.ensures.size in
    let counted = c.count_papers.ensures.each p (omega arith) in
    let differs : get_or c.count_papers.new.counts p 0 ≢ (paper_at rules p).demand = λ e. c.if-count-paper.true (e ∙ sym demand) in
    sym (first_below-found (length rules.papers) p (demand_break rules c.args.k c.args.places.now) _ within c.loop-p.invariant
    (demand-found rules c.args.k p _ c.args.places.now counted differs))
