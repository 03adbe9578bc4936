-- What enters and leaves a node, when one amount changes.
use Rattle.std.proofs.Common.{◌≡◌, ◌≢◌, ℕ, zero, suc, ◌+◌, ◌<◌, ◌≤◌, Bool, true, false, List, length, get_or-set_same, get_or-set_other, refl, sym, ap, arith, inl, inr}
use Rattle.std.specs.Prelude.{◌==◌, slice_set, slice_index}
use Rattle.std.proofs.lemmas.Bool.{cases_eq}
use Rattle.match_rules.specs.Sums.{count_below, when}
use Rattle.bounded_network.proofs.Sums.{count_below-equal}

-- one term changed
pub count_below-change : (m : ℕ) (f g : ℕ → ℕ) (a : ℕ) → a < m → ((k : ℕ) → k < m → k ≢ a → f k ≡ g k) → count_below m g + f a ≡ count_below m f + g a
count_below-change zero f g a lt same = absurd (omega arith)
count_below-change (suc m) f g a lt same = elim (cases_eq a m) [
  | inl e ↦
      let before : count_below m f ≡ count_below m g = count_below-equal m f g (λ k b. same k (omega arith) (omega arith)) in
      rw e (omega (arith, before))
  | inr ne ↦
      let last : f m ≡ g m = same m (omega arith) (λ q. ne (sym q)) in
      omega (arith, count_below-change m f g a (omega arith) (λ k b q. same k (omega arith) q), last)
]

-- what enters or leaves a node, when one amount changes
pub amount-set : (m : ℕ) (flow : List ℕ) (ends : ℕ → ℕ) (a y v : ℕ) → length flow ≡ m → a < m →
    count_below m (λ k. when (ends k == v) (slice_index (slice_set flow a y) k)) + when (ends a == v) (slice_index flow a)
    ≡ count_below m (λ k. when (ends k == v) (slice_index flow k)) + when (ends a == v) y
amount-set m flow ends a y v long lt =
    let f : ℕ → ℕ = λ k. when (ends k == v) (slice_index flow k) in
    let g : ℕ → ℕ = λ k. when (ends k == v) (slice_index (slice_set flow a y) k) in
    let a_in : a < length flow = omega arith in
    let here : g a ≡ when (ends a == v) y = ap (when (ends a == v)) (get_or-set_same flow a y 0 a_in) in
    let change = count_below-change m f g a lt (λ k b ne. ap (when (ends k == v)) (sym (rw get_or-set_other refl))) in
    omega (arith, change, here)

pub when-+ : (b : Bool) (x y : ℕ) → when b (x + y) ≡ when b x + when b y
when-+ true x y = refl
when-+ false x y = omega arith

-- at most the number itself
pub when_at_most : (b : Bool) (x : ℕ) → when b x ≤ x
when_at_most true x = omega arith
when_at_most false x = omega arith
