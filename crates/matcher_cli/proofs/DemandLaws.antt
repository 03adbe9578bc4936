-- The demands of papers, one after the other.
use Rattle.std.proofs.Common.{◌≡◌, ℕ, suc, ◌+◌, ◌<◌, ◌≤◌, List, length, take, ap, ◌∙◌}
use Rattle.std.proofs.Math.Seq.{take-suc}
use Rattle.match_rules.specs.declared.rules.RulePaper.{RulePaper}
use Rattle.match_rules.specs.Rules.{demand_total, no_paper, paper_in}
use Rattle.publication.proofs.Demands.{demand_total_push, demand_total_within}

-- the demands up to a paper, and with it
pub demand_next : (papers : List RulePaper) (k next : ℕ) (paper : RulePaper) → next ≡ suc k → k < length papers → paper ≡ paper_in papers k
    → demand_total (take next papers) ≡ demand_total (take k papers) + paper.demand
demand_next papers k next paper e lt is = rw (e, is) (ap demand_total (take-suc papers k no_paper lt) ∙ demand_total_push (take k papers) (paper_in papers k))

pub demand_room : (papers : List RulePaper) (k : ℕ) (paper : RulePaper) → k < length papers → paper ≡ paper_in papers k
    → demand_total (take k papers) + paper.demand ≤ demand_total papers
demand_room papers k paper lt is = rw is (demand_total_within papers k lt)
