-- The laws of products of `match_rules`, by the names under which crates above cite them here.
pub use Rattle.match_rules.proofs.Ints.{sum_times, times_times, times_within}
