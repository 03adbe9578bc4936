-- The laws of sums of `match_rules`, by the names under which crates above cite them here.
pub use Rattle.match_rules.proofs.SumLaws.{sum_below-same, sum_below-sum, sum_below-zero, sum_below-times, sum_below-at, sum_below_next}
