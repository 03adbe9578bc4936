-- Sums by places: one item more, and bounds that let each sum fit.
use Rattle.std.proofs.Common.{◌≡◌, ℕ, zero, suc, ◌+◌, ◌*◌, ◌^◌, ◌<◌, ◌≤◌, ◌==◌, Bool, true, false, List, length, get_or, set, arith, sym, ap, ◌∙◌, get_or-set_same, get_or-set_other, length-set, inl, inr}
use Rattle.std.proofs.lemmas.Bool.{cases_eq}
use Rattle.std.proofs.lemmas.Int.{ints}
use Rattle.std.specs.Prelude.{ℤ, pos, neg_ℤ, ◌+ℤ◌, ◌*ℤ◌, ◌≤ℤ◌, slice_index}
use Rattle.match_rules.specs.Answers.{SharesMatch}
use Rattle.match_rules.specs.Rules.{RulesValue, AreRules, pair_at}
use Rattle.match_rules.proofs.Ints.{times_within}
use Rattle.match_rules.specs.Sums.{count_below, sum_below, when, int_when}
use Rattle.match_rules.proofs.SumLaws.{count_below_next, sum_below_next}

-- the sum of each place, over the items below one
abbrev pub AreSums : (ℕ → ℕ → Bool) → (ℕ → ℕ) → ℕ → List ℕ → Type 0
AreSums test amount e sums = (p : ℕ) → p < length sums → get_or sums p 0 ≡ count_below e (λ k. when (test k p) (amount k))

-- one item more, added to each place that it counts for
pub sums_added : (test : ℕ → ℕ → Bool) (amount : ℕ → ℕ) (sums news : List ℕ) (e : ℕ) → length news ≡ length sums
    → ((p : ℕ) → p < length news → get_or news p 0 ≡ get_or sums p 0 + when (test e p) (amount e))
    → AreSums test amount e sums → AreSums test amount (e + 1) news
sums_added test amount sums news e long added each p within =
    let f : ℕ → ℕ = λ k. when (test k p) (amount k) in
    let more : count_below (e + 1) f ≡ count_below e f + f e = count_below_next e f in
    let counted : get_or sums p 0 ≡ count_below e f = each p (omega arith) in
    let now = added p within in
    omega (arith, counted, now, more)

-- a list with an amount more at one place
pub added_at : (test : ℕ → Bool) (sums : List ℕ) (j x load : ℕ)
    → test j ≡ true → ((p : ℕ) → p < length sums → (p ≡ j → ⊥) → test p ≡ false) → j < length sums → x ≡ get_or sums j 0 + load
    → (p : ℕ) → p < length (set sums j x) → get_or (set sums j x) p 0 ≡ get_or sums p 0 + when (test p) load
added_at test sums j x load hits misses in_sums up p within =
    let known : p < length sums = simp length-set at within in
    elim (cases_eq p j) [
      | inl same ↦ (let hit : test p ≡ true = ap test same ∙ hits in
          let last : when (test p) load ≡ load = ap (λ b. when b load) hit in
          let now : get_or (set sums j x) p 0 ≡ x = ap (λ k. get_or (set sums j x) k 0) same ∙ get_or-set_same sums j x 0 in_sums in
          let was : get_or sums j 0 ≡ get_or sums p 0 = ap (λ k. get_or sums k 0) (sym same) in
          omega arith)
      | inr other ↦ (let miss : test p ≡ false = misses p known other in
          let last : when (test p) load ≡ 0 = ap (λ b. when b load) miss in
          let now : get_or (set sums j x) p 0 ≡ get_or sums p 0 = get_or-set_other sums j p x 0 other in
          omega arith)
    ]

-- and one without
pub added_nowhere : (test : ℕ → Bool) (sums : List ℕ) (load : ℕ) → ((p : ℕ) → p < length sums → test p ≡ false)
    → (p : ℕ) → p < length sums → get_or sums p 0 ≡ get_or sums p 0 + when (test p) load
added_nowhere test sums load misses p within =
    let last : when (test p) load ≡ 0 = ap (λ b. when b load) (misses p within) in
    omega arith

when-le : (b : Bool) (amount : ℕ) → when b amount ≤ amount
when-le true amount = omega arith
when-le false amount = omega arith

-- a sum of amounts within a limit
pub sum-fits : (test : ℕ → Bool) (amount : ℕ → ℕ) (limit n : ℕ) → ((k : ℕ) → k < n → amount k ≤ limit) → count_below n (λ k. when (test k) (amount k)) ≤ limit * n
sum-fits test amount limit zero small = omega arith
sum-fits test amount limit (suc n) small =
    let first = sum-fits test amount limit n (λ k h. small k (omega arith)) in
    let last = when-le (test n) (amount n) in
    let few = small n (omega arith) in
    omega (arith, first, last, few)

-- ---- the same with a sign

abbrev pub AreTotals : (ℕ → ℕ → Bool) → (ℕ → ℤ) → ℕ → List ℤ → Type 0
AreTotals test amount e sums = (p : ℕ) → p < length sums → get_or sums p (pos 0) ≡ sum_below e (λ k. int_when (test k p) (amount k))

pub totals_more : (test : ℕ → ℕ → Bool) (amount : ℕ → ℤ) (sums : List ℤ) (e j : ℕ) (x : ℤ)
    → test e j ≡ true → ((p : ℕ) → p < length sums → (p ≡ j → ⊥) → test e p ≡ false) → j < length sums → x ≡ get_or sums j (pos 0) +ℤ amount e
    → AreTotals test amount e sums → AreTotals test amount (e + 1) (set sums j x)
totals_more test amount sums e j x hits misses in_sums up each p within =
    let known : p < length sums = simp length-set at within in
    let f : ℕ → ℤ = λ k. int_when (test k p) (amount k) in
    let more : sum_below (e + 1) f ≡ sum_below e f +ℤ f e = sum_below_next e f in
    let counted : get_or sums p (pos 0) ≡ sum_below e f = each p known in
    elim (cases_eq p j) [
      | inl same ↦ (let hit : test e p ≡ true = ap (test e) same ∙ hits in
          let last : f e ≡ amount e = ap (λ b. int_when b (amount e)) hit in
          let now : get_or (set sums j x) p (pos 0) ≡ x = ap (λ k. get_or (set sums j x) k (pos 0)) same ∙ get_or-set_same sums j x (pos 0) in_sums in
          let was : get_or sums j (pos 0) ≡ get_or sums p (pos 0) = ap (λ k. get_or sums k (pos 0)) (sym same) in
          omega (arith, ints))
      | inr other ↦ (let miss : test e p ≡ false = misses p known other in
          let last : f e ≡ pos 0 = ap (λ b. int_when b (amount e)) miss in
          let now : get_or (set sums j x) p (pos 0) ≡ get_or sums p (pos 0) = get_or-set_other sums j p x (pos 0) other in
          omega (arith, ints))
    ]

when-low : (b : Bool) (limit : ℕ) (amount : ℤ) → neg_ℤ (pos limit) ≤ℤ amount → neg_ℤ (pos limit) ≤ℤ int_when b amount
when-low true limit amount low = low
when-low false limit amount low = omega (arith, ints)

when-high : (b : Bool) (limit : ℕ) (amount : ℤ) → amount ≤ℤ pos limit → int_when b amount ≤ℤ pos limit
when-high true limit amount high = high
when-high false limit amount high = omega (arith, ints)

pub total-low : (test : ℕ → Bool) (amount : ℕ → ℤ) (limit n : ℕ) → ((k : ℕ) → k < n → neg_ℤ (pos limit) ≤ℤ amount k)
    → neg_ℤ (pos (limit * n)) ≤ℤ sum_below n (λ k. int_when (test k) (amount k))
total-low test amount limit zero low = omega (arith, ints)
total-low test amount limit (suc n) low =
    let first = total-low test amount limit n (λ k h. low k (omega arith)) in
    let last = when-low (test n) limit (amount n) (low n (omega arith)) in
    omega (arith, ints, first, last)

pub total-high : (test : ℕ → Bool) (amount : ℕ → ℤ) (limit n : ℕ) → ((k : ℕ) → k < n → amount k ≤ℤ pos limit)
    → sum_below n (λ k. int_when (test k) (amount k)) ≤ℤ pos (limit * n)
total-high test amount limit zero high = omega (arith, ints)
total-high test amount limit (suc n) high =
    let first = total-high test amount limit n (λ k h. high k (omega arith)) in
    let last = when-high (test n) limit (amount n) (high n (omega arith)) in
    omega (arith, ints, first, last)

-- what a paper has so far fits
pub score-bounds : (rules : RulesValue) (shares : List ℕ) (j e : ℕ) → AreRules rules → SharesMatch rules shares → e < length rules.pairs
    → (neg_ℤ (pos (2 ^ 120)) ≤ℤ sum_below e (λ k. int_when ((pair_at rules k).paper == j) (pos (slice_index shares k) *ℤ (pair_at rules k).score)))
    × (sum_below e (λ k. int_when ((pair_at rules k).paper == j) (pos (slice_index shares k) *ℤ (pair_at rules k).score)) ≤ℤ pos (2 ^ 120))
score-bounds rules shares j e are matching below =
    let amount : ℕ → ℤ = λ k. pos (slice_index shares k) *ℤ (pair_at rules k).score in
    let few : length rules.pairs ≤ 250000 = are.pairs.few in
    let within : (k : ℕ) → k < e → (neg_ℤ (pos 80000000000000) ≤ℤ amount k) × (amount k ≤ℤ pos 80000000000000) =
    λ k h. let share = matching.1 k 0 (omega (arith, h, below, matching.0)) in
    let pair = are.pairs.each k (omega (arith, h, below)) in
    times_within (slice_index shares k) 10000 8000000000 (pair_at rules k).score (omega (arith, share, are.tickets)) pair.low pair.high in
    let low = total-low (λ k. (pair_at rules k).paper == j) amount 80000000000000 e (λ k h. (within k h).0) in
    let high = total-high (λ k. (pair_at rules k).paper == j) amount 80000000000000 e (λ k h. (within k h).1) in
    (omega (arith, ints, low, few, below), omega (arith, ints, high, few, below))
