-- Prices bound every lottery, and where a lottery meets the bound, it is best.
use Rattle.std.proofs.Common.{◌≡◌, ℕ, List, [], ◌∷◌, refl, ap}
use Rattle.std.specs.Prelude.{pos, ◌+ℤ◌, ◌*ℤ◌, ◌≤ℤ◌}
use Rattle.match_rules.specs.declared.lottery.Piece.{Piece}
use Rattle.match_rules.specs.declared.answer.Prices.{Prices}
use Rattle.match_rules.specs.declared.answer.Sieve.{Sieve}
use Rattle.match_rules.specs.Rules.{RulesValue, AreRules, pair_at}
use Rattle.match_rules.specs.Assignments.{Fits, Best, tickets, score_of, total}
use Rattle.match_rules.specs.Evidence.{bound, price_at}
use Rattle.dual_check.proofs.Duality.{Values, total_by, no_lottery_beats_bound_by}
use Rattle.match_rules.proofs.Exchange.{sum_of}

-- the scores of the rules with printed prices
abbrev pub values_of : RulesValue → Prices → Values
values_of rules prices = record {
  score = λ e. (pair_at rules e).score;
  paper = price_at prices.papers;
  group = price_at prices.groups;
  reviewer = price_at prices.reviewers;
}

score_of-is : (rules : RulesValue) (places : List ℕ) → score_of rules places ≡ sum_of (λ e. (pair_at rules e).score) places
score_of-is rules [] = refl
score_of-is rules (e ∷ places) = ap (λ z. (pair_at rules e).score +ℤ z) (score_of-is rules places)

total-is : (rules : RulesValue) (prices : Prices) (lottery : List Piece) → total_by (values_of rules prices) lottery ≡ total rules lottery
total-is rules prices [] = refl
total-is rules prices (piece ∷ lottery) =
    let score = score_of-is rules piece.pairs in
    let others = total-is rules prices lottery in
    cc

-- what fits has at most the bound for each ticket
pub no_lottery_beats_bound : (rules : RulesValue) (sieve : Sieve) (prices : Prices) (lottery : List Piece) → AreRules rules → Fits rules sieve lottery
    → (total rules lottery *ℤ pos rules.tickets) ≤ℤ (bound rules sieve prices *ℤ pos (tickets lottery))
no_lottery_beats_bound rules sieve prices lottery are fits =
    rw total-is at (no_lottery_beats_bound_by rules sieve (values_of rules prices) lottery are fits)

-- whole tickets whose total is the bound are best
pub best_at_bound : (rules : RulesValue) (sieve : Sieve) (prices : Prices) (lottery : List Piece) → AreRules rules → Fits rules sieve lottery
    → tickets lottery ≡ rules.tickets → total rules lottery ≡ bound rules sieve prices → Best rules sieve lottery
best_at_bound rules sieve prices lottery are fits whole meets = record {
  fits = fits;
  greatest = λ other fitting. rw (whole, meets) (no_lottery_beats_bound rules sieve prices other are fitting);
}
