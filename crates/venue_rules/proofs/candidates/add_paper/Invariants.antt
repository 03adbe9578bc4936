use Rattle.std.proofs.Common.{◌≡◌, ◌+◌, ◌≤◌, List, ◌++◌, drop}
use Rattle.match_rules.specs.declared.rules.RulePair.{RulePair}
use Rattle.venue_rules.specs.Found.{AreFound}
use Rattle.venue_rules.proofs.WalkLaws.{pairs_at}
use Rattle.venue_rules.proofs.candidates.add_paper.Given as goal

abbrev pub invariant-loop-j : goal.invariant-loop-j
invariant-loop-j l = record {
  count : l.found.count ≤ l.initial.found.count + l.j-index;
  found : (pairs : List RulePair) → AreFound l.initial.found pairs
      → (done : List RulePair) × AreFound l.found done
      × (done ++ pairs_at l.tables l.paper.place l.paper.row.now (drop l.j-index l.listed) ≡ pairs ++ pairs_at l.tables l.paper.place l.paper.row.now l.listed);
}
