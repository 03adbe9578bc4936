use Rattle.std.proofs.Common.{◌≡◌, ◌==◌, length}
use Rattle.std.specs.Prelude.{slice_index, pos, ◌*ℤ◌}
use Rattle.match_rules.specs.Rules.{pair_at}
use Rattle.reports.proofs.CountLaws.{AreTotals}
use Rattle.reports.proofs.papers.add_terms.Given as goal

abbrev pub invariant-loop-e : goal.invariant-loop-e
invariant-loop-e l = record {
  size : length l.scores ≡ length l.rules.papers;
  each : AreTotals (λ e p. (pair_at l.rules e).paper == p) (λ e. pos (slice_index l.shares e) *ℤ (pair_at l.rules e).score) l.e l.scores;
}
