-- Where some lottery fits with the locked pairs alone, no lottery that fits has a ticket for another pair: each paper has
-- all its reviewers by locked pairs.
use Rattle.std.proofs.Common.{◌≡◌, ℕ, zero, suc, ◌+◌, ◌*◌, ◌<◌, ◌≤◌, Bool, true, false, ◌==◌, eqb, cond, List, [], ◌∷◌, length, All, count_by, refl, sym, ◌∙◌, arith, inl, inr}
use Rattle.std.proofs.lemmas.Bool.{cases_lt, eq-eqb, ne_eqb}
use Rattle.std.proofs.lemmas.List.Sums.{sum_by-cons}
use Rattle.std.proofs.Math.Nat.{mul-zero, mul-le-mul_right}
use Rattle.match_rules.specs.declared.answer.Sieve.TheVariants.{All as EveryPair}
use Rattle.match_rules.specs.declared.lottery.Piece.{Piece}
use Rattle.match_rules.specs.Assignments.{Fits, Meets, holds, paper_count, times}
use Rattle.match_rules.specs.Rules.{RulesValue, AreRules, is_locked, pair_at}
use Rattle.match_rules.specs.Sums.{count_below, when}
use Rattle.match_rules.specs.Thresholds.{CanFitLocked, FitsLocked}
use Rattle.match_rules.proofs.Exchange.{all_first, all_others}

-- ---- a count of places, pair by pair

none-below : (n : ℕ) (test : ℕ → Bool) (f : ℕ → ℕ) → ((e : ℕ) → f e ≡ 0) → count_below n (λ e. when (test e) (f e)) ≡ 0
none-below zero test f none = refl
none-below (suc n) test f none =
    let before = none-below n test f none in
    let last : when (test n) (f n) ≡ 0 = rw (none n) (when-none (test n)) in
    omega arith
  where
    when-none : (b : Bool) → when b 0 ≡ 0
    when-none true = refl
    when-none false = refl

when-sum : (b : Bool) (x y : ℕ) → when b (x + y) ≡ when b x + when b y
when-sum true x y = refl
when-sum false x y = refl

sum-below : (n : ℕ) (test : ℕ → Bool) (f g : ℕ → ℕ)
    → count_below n (λ e. when (test e) (f e + g e)) ≡ count_below n (λ e. when (test e) (f e)) + count_below n (λ e. when (test e) (g e))
sum-below zero test f g = refl
sum-below (suc n) test f g =
    let before = sum-below n test f g in
    let last = when-sum (test n) (f n) (g n) in
    omega arith

-- one place, counted at itself alone
past : (n p : ℕ) (test : ℕ → Bool) → n ≤ p → count_below n (λ e. when (test e) (cond (eqb p e) 1 0)) ≡ 0
past zero p test h = refl
past (suc n) p test h =
    let before = past n p test (omega arith) in
    let other : eqb p n ≡ false = ne_eqb p n (omega arith) in
    let last : when (test n) (cond (eqb p n) 1 0) ≡ 0 = rw other (by (test n)) in
    omega arith
  where
    by : (b : Bool) → when b 0 ≡ 0
    by true = refl
    by false = refl

itself : (n p : ℕ) (test : ℕ → Bool) → p < n → count_below n (λ e. when (test e) (cond (eqb p e) 1 0)) ≡ cond (test p) 1 0
itself zero p test h = absurd (omega arith)
itself (suc n) p test h =
    elim (cases_lt p n) [
      | inl less ↦ (let before = itself n p test less in
          let other : eqb p n ≡ false = ne_eqb p n (omega arith) in
          let last : when (test n) (cond (eqb p n) 1 0) ≡ 0 = rw other (by (test n)) in
          omega arith)
      | inr more ↦ (let is : n ≡ p = omega arith in
          let before = past n p test (omega arith) in
          let last : when (test n) (cond (eqb p n) 1 0) ≡ cond (test p) 1 0 = rw is (here (test p)) in
          omega arith)
    ]
  where
    by : (b : Bool) → when b 0 ≡ 0
    by true = refl
    by false = refl

    here : (b : Bool) → when b (cond (eqb p p) 1 0) ≡ cond b 1 0
    here b = rw (eq-eqb p p refl) refl

counted : (n : ℕ) (test : ℕ → Bool) (places : List ℕ) → All (λ e. e < n) places → count_by test places ≡ count_below n (λ e. when (test e) (holds places e))
counted n test [] all = sym (none-below n test (holds []) (λ e. refl))
counted n test (p ∷ places) all =
    let below : p < n = all_first (λ e. e < n) p places all in
    let others = counted n test places (all_others (λ e. e < n) p places all) in
    let first : count_by test (p ∷ places) ≡ cond (test p) 1 0 + count_by test places = sum_by-cons (λ x. cond (test x) 1 0) p places in
    let each : count_below n (λ e. when (test e) (holds (p ∷ places) e)) ≡ count_below n (λ e. when (test e) (cond (eqb p e) 1 0 + holds places e)) =
    same-below n test (holds (p ∷ places)) (λ e. cond (eqb p e) 1 0 + holds places e) (λ e. sum_by-cons (λ x. cond (eqb x e) 1 0) p places) in
    let split = sum-below n test (λ e. cond (eqb p e) 1 0) (holds places) in
    let one = itself n p test below in
    omega arith
  where
    same-below : (n : ℕ) (test : ℕ → Bool) (f g : ℕ → ℕ) → ((e : ℕ) → f e ≡ g e) → count_below n (λ e. when (test e) (f e)) ≡ count_below n (λ e. when (test e) (g e))
    same-below zero test f g same = refl
    same-below (suc n) test f g same = rw (same-below n test f g same, same n) refl

-- ---- fewer at one place and nowhere more

when-le : (b : Bool) (x y : ℕ) → x ≤ y → when b x ≤ when b y
when-le true x y h = h
when-le false x y h = omega arith

le-below : (n : ℕ) (test : ℕ → Bool) (f g : ℕ → ℕ) → ((e : ℕ) → e < n → f e ≤ g e) → count_below n (λ e. when (test e) (f e)) ≤ count_below n (λ e. when (test e) (g e))
le-below zero test f g le = omega arith
le-below (suc n) test f g le =
    let before = le-below n test f g (λ e h. le e (omega arith)) in
    let last = when-le (test n) (f n) (g n) (le n (omega arith)) in
    omega arith

less-below : (n : ℕ) (test : ℕ → Bool) (f g : ℕ → ℕ) (at : ℕ) → ((e : ℕ) → e < n → f e ≤ g e) → at < n → test at ≡ true → f at < g at
    → count_below n (λ e. when (test e) (f e)) < count_below n (λ e. when (test e) (g e))
less-below zero test f g at le h is less = absurd (omega arith)
less-below (suc n) test f g at le h is less =
    elim (cases_lt at n) [
      | inl before ↦ (let smaller = less-below n test f g at (λ e h. le e (omega arith)) before is less in
          let last = when-le (test n) (f n) (g n) (le n (omega arith)) in
          omega arith)
      | inr last ↦ (let same : n ≡ at = omega arith in
          let before = le-below n test f g (λ e h. le e (omega arith)) in
          let here : when (test n) (f n) < when (test n) (g n) = rw same (rw is less) in
          omega arith)
    ]

-- ---- assignments

-- an assignment of locked pairs alone leaves no place for another pair
no-other : (rules : RulesValue) (locked places : List ℕ) (e : ℕ) → AreRules rules → Meets rules locked → ((k : ℕ) → k < length rules.pairs → is_locked rules k ≡ false → holds locked k ≡ 0)
    → Meets rules places → e < length rules.pairs → is_locked rules e ≡ false → holds places e ≡ 0
no-other rules locked places e are one alone two within free = by (holds places e) refl
  where
    n : ℕ
    n = length rules.pairs

    p : ℕ
    p = (pair_at rules e).paper

    test : ℕ → Bool
    test k = (pair_at rules k).paper == p

    no-more : (k : ℕ) → k < n → holds locked k ≤ holds places k
    no-more k h = cases (is_locked rules k) refl
      where
        cases : (b : Bool) → is_locked rules k ≡ b → holds locked k ≤ holds places k
        cases true is = let a = one.locked k h is in let b = two.locked k h is in omega arith
        cases false is = let a = alone k h is in omega arith

    same : count_below n (λ k. when (test k) (holds locked k)) ≡ count_below n (λ k. when (test k) (holds places k))
    same =
        let a = counted n test locked one.candidates in
        let b = counted n test places two.candidates in
        let known = (are.pairs.each e within).paper in
        let c : paper_count rules locked p ≡ paper_count rules places p = one.papers p known ∙ sym (two.papers p known) in
        sym a ∙ c ∙ b

    by : (count : ℕ) → holds places e ≡ count → holds places e ≡ 0
    by zero is = is
    by (suc k) is =
        let none = alone e within free in
        let less = less-below n test (holds locked) (holds places) e no-more within (eq-eqb p p refl) (omega arith) in
        absurd (omega (arith, same))

-- ---- lotteries

product-none : (w h : ℕ) → 1 ≤ w → w * h ≡ 0 → h ≡ 0
product-none w h some none = let more : 1 * h ≤ w * h = mul-le-mul_right h some in omega arith

times-first : (piece : Piece) (lottery : List Piece) (e : ℕ) → times (piece ∷ lottery) e ≡ piece.weight * holds piece.pairs e + times lottery e
times-first piece lottery e = sum_by-cons (λ piece. piece.weight * holds piece.pairs e) piece lottery

times-none : (e : ℕ) (lottery : List Piece) → All (λ piece. holds piece.pairs e ≡ 0) lottery → times lottery e ≡ 0
times-none e [] all = refl
times-none e (piece ∷ lottery) all =
    let first : holds piece.pairs e ≡ 0 = all_first (λ piece. holds piece.pairs e ≡ 0) piece lottery all in
    let others = times-none e lottery (all_others (λ piece. holds piece.pairs e ≡ 0) piece lottery all) in
    let product : piece.weight * holds piece.pairs e ≡ 0 = rw first (mul-zero piece.weight) in
    omega (arith, times-first piece lottery e)

-- a lottery with locked pairs alone has such an assignment
one-piece : (rules : RulesValue) (lottery : List Piece) → FitsLocked rules lottery
    → (places : List ℕ) × Meets rules places × ((k : ℕ) → k < length rules.pairs → is_locked rules k ≡ false → holds places k ≡ 0)
one-piece rules [] fits = let some : 1 ≤ 0 = fits.fits.some_ticket in absurd (omega arith)
one-piece rules (piece ∷ lottery) fits = (
  piece.pairs,
  all_first (λ piece. Meets rules piece.pairs) piece lottery fits.fits.pieces,
  λ k h free.
      let none = fits.alone k h free in
      let first = times-first piece lottery k in
      product-none piece.weight (holds piece.pairs k) (all_first (λ piece. 1 ≤ piece.weight) piece lottery fits.fits.weights) (omega arith),
)

pub others-none : (rules : RulesValue) (lottery : List Piece) (e : ℕ) → AreRules rules → CanFitLocked rules → Fits rules EveryPair lottery → e < length rules.pairs → is_locked rules e ≡ false
    → times lottery e ≡ 0
others-none rules lottery e are can fits within free =
    let locked = one-piece rules can.0 can.1 in
    times-none e lottery (λ k d h. no-other rules locked.0 _ e are locked.1 locked.2 (fits.pieces k d h) within free)
