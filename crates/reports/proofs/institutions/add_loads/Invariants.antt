use Rattle.std.proofs.Common.{◌≡◌, length, []}
use Rattle.std.specs.Prelude.{slice_index, slice_index_or}
use Rattle.match_rules.specs.GroupTable.{texts}
use Rattle.match_rules.specs.Rules.{reviewer_in}
use Rattle.reports.specs.Institutions.{is_at}
use Rattle.reports.proofs.CountLaws.{AreSums}
use Rattle.reports.proofs.institutions.add_loads.Given as goal

abbrev pub invariant-loop-r : goal.invariant-loop-r
invariant-loop-r l = record {
  size : length l.sums ≡ length l.names;
  each : AreSums (λ r i. is_at (slice_index_or (texts l.names) i []) (reviewer_in l.reviewers r)) (λ r. slice_index l.loads r) l.r l.sums;
}
