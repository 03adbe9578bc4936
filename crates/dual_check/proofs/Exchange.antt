-- The exchange of sums of `match_rules`, by the names under which crates above cite it here.
pub use Rattle.match_rules.proofs.Exchange.{sum_of, exchange, all_first, all_others}
