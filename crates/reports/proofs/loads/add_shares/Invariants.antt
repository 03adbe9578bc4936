use Rattle.std.proofs.Common.{◌≡◌, ◌==◌, length}
use Rattle.std.specs.Prelude.{slice_index}
use Rattle.match_rules.specs.Rules.{pair_at}
use Rattle.reports.proofs.CountLaws.{AreSums}
use Rattle.reports.proofs.loads.add_shares.Given as goal

abbrev pub invariant-loop-e : goal.invariant-loop-e
invariant-loop-e l = record {
  size : length l.loads ≡ length l.rules.reviewers;
  each : AreSums (λ e r. (pair_at l.rules e).reviewer == r) (λ e. slice_index l.shares e) l.e l.loads;
}
