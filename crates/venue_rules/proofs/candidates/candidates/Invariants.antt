use Rattle.std.proofs.Common.{◌≡◌, ◌*◌, ◌≤◌, List, ◌++◌, drop}
use Rattle.match_rules.specs.declared.rules.RulePair.{RulePair}
use Rattle.venue_rules.specs.Candidates.{pairs_from}
use Rattle.venue_rules.specs.Found.{AreFound}
use Rattle.venue_rules.proofs.candidates.candidates.Given as goal

abbrev pub invariant-loop-i : goal.invariant-loop-i
invariant-loop-i l = record {
  count : l.found.count ≤ l.i * 1500;
  found : (done : List RulePair) × AreFound l.found done × (done ++ pairs_from l.tables l.i (drop l.i l.tables.papers) ≡ pairs_from l.tables 0 l.tables.papers);
}
