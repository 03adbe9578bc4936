-- The score of shares that fit is within the limit of totals.
use Rattle.std.proofs.Common.{◌≡◌, ℕ, zero, suc, ◌+◌, ◌*◌, ◌<◌, ◌≤◌, List, length, sym, ap, ◌∙◌, arith}
use Rattle.std.proofs.lemmas.Int.{ints}
use Rattle.std.proofs.Math.IntN.{pos-*ℤ-pos}
use Rattle.std.specs.Prelude.{slice_index, ℤ, pos, neg_ℤ, ◌*ℤ◌, ◌≤ℤ◌}
use Rattle.match_rules.specs.declared.answer.Sieve.TheVariants.{All as EveryPair}
use Rattle.match_rules.specs.Answers.{IsWithin, most_total}
use Rattle.match_rules.specs.Rules.{RulesValue, AreRules, demand_total, most_score, paper_at, pair_at}
use Rattle.match_rules.specs.SharesFit.{SharesFit, paper_shares, shares_score}
use Rattle.match_rules.specs.Sums.{sum_below, count_below}
use Rattle.match_rules.proofs.Ints.{times_more, times_neg}
use Rattle.bounded_network.proofs.Counts.{at_all_nodes}
use Rattle.bounded_network.proofs.Sums.{count_below-equal}

-- an amount times a number of a magnitude of at most a limit
near-term : (limit amount : ℕ) (z : ℤ) → IsWithin limit z → IsWithin (amount * limit) (pos amount *ℤ z)
near-term limit amount z near =
    let product : pos amount *ℤ pos limit ≡ pos (amount * limit) = pos-*ℤ-pos amount limit in
    let high : (pos amount *ℤ z) ≤ℤ (pos amount *ℤ pos limit) = times_more amount z (pos limit) near.1 in
    let low : (pos amount *ℤ neg_ℤ (pos limit)) ≤ℤ (pos amount *ℤ z) = times_more amount (neg_ℤ (pos limit)) z near.0 in
    let turned : pos amount *ℤ neg_ℤ (pos limit) ≡ neg_ℤ (pos amount *ℤ pos limit) = times_neg amount (pos limit) in
    (omega (arith, ints, product, low, turned), omega (arith, ints, product, high))

-- the same summed
near-sum : (n limit : ℕ) (amount : ℕ → ℕ) (score : ℕ → ℤ) → ((e : ℕ) → e < n → IsWithin limit (score e))
    → IsWithin (count_below n amount * limit) (sum_below n (λ e. pos (amount e) *ℤ score e))
near-sum zero limit amount score each = (omega (arith, ints), omega (arith, ints))
near-sum (suc n) limit amount score each =
    let before = near-sum n limit amount score (λ e lt. each e (omega arith)) in
    let last = near-term limit (amount n) (score n) (each n (omega arith)) in
    let parts : (count_below n amount + amount n) * limit ≡ count_below n amount * limit + amount n * limit = omega arith in
    (omega (arith, ints, before.0, last.0, parts), omega (arith, ints, before.1, last.1, parts))

count_below-times : (n m : ℕ) (f : ℕ → ℕ) → count_below n (λ k. m * f k) ≡ m * count_below n f
count_below-times zero m f = omega arith
count_below-times (suc n) m f = let before = count_below-times n m f in omega arith

-- all shares together are all tickets for each demanded reviewer
all-shares : (rules : RulesValue) (shares : List ℕ) → AreRules rules → SharesFit rules EveryPair shares
    → count_below (length rules.pairs) (slice_index shares) ≡ rules.tickets * demand_total rules.papers
all-shares rules shares are fit =
    sym (at_all_nodes (length rules.papers) (length rules.pairs) (λ e. (pair_at rules e).paper) (slice_index shares) (λ e lt. (are.pairs.each e lt).paper))
    ∙ count_below-equal (length rules.papers) (paper_shares rules shares) (λ p. rules.tickets * (paper_at rules p).demand) fit.papers
    ∙ count_below-times (length rules.papers) rules.tickets (λ p. (paper_at rules p).demand)

pub score-near : (rules : RulesValue) (shares : List ℕ) → AreRules rules → SharesFit rules EveryPair shares
    → IsWithin most_total (shares_score rules shares)
score-near rules shares are fit =
    let near = near-sum (length rules.pairs) most_score (slice_index shares) (λ e. (pair_at rules e).score)
    (λ e lt. ((are.pairs.each e lt).low, (are.pairs.each e lt).high)) in
    let few : count_below (length rules.pairs) (slice_index shares) ≤ 45000000 =
    omega (arith, all-shares rules shares are fit, ap (λ t. t * demand_total rules.papers) are.tickets, are.papers.in_all) in
    (omega (arith, ints, few, near.0), omega (arith, ints, few, near.1))
