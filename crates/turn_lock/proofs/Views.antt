-- Sums over the views, and what a list of views has after a change of one.
use Rattle.std.proofs.Common.{◌≡◌, ◌≢◌, ℕ, zero, suc, ◌+◌, ◌≤◌, List, [], ◌∷◌, ◌++◌, set, refl, ap, sym, subst, arith, ◌⊎◌, inl, inr, ⊎_elim}
use Rattle.std.proofs.lemmas.List.Sums.{sum_by-cons}
use Rattle.std.specs.List.{sum_by}
use mathlib.Core.Option.{some, some-injective, some-ne-none}
use lib.ListN.{get_elem?}
use Rattle.atomic_table.proofs.Lists.{at_set}

one_or_none : (n : ℕ) → (1 ≤ n) ⊎ (n ≡ 0)
one_or_none zero = inr refl
one_or_none (suc n) = inl (omega arith)

sum_by-nil : {A : Type 0} (f : A → ℕ) → sum_by f [] ≡ 0
sum_by-nil f = refl

module _ {A : Type 0} (f : A → ℕ) where
  pub sum_after : (xs : List A) (i : ℕ) (v w : A) → get_elem? xs i ≡ some v → sum_by f (set xs i w) + f v ≡ sum_by f xs + f w
  sum_after [] i v w at = absurd (some-ne-none v (sym at))
  sum_after (x ∷ xs) zero v w at = let same : f x ≡ f v = ap f (some-injective x v at) in omega (arith, sum_by-cons f x xs, sum_by-cons f w xs)
  sum_after (x ∷ xs) (suc i) v w at = let r = sum_after xs i v w at in omega (arith, sum_by-cons f x xs, sum_by-cons f x (set xs i w))

  pub sum_snoc : (xs : List A) (w : A) → sum_by f (xs ++ w ∷ []) ≡ sum_by f xs + f w
  sum_snoc [] w = omega (arith, sum_by-cons f w [])
  sum_snoc (x ∷ xs) w = let r = sum_snoc xs w in omega (arith, sum_by-cons f x xs, sum_by-cons f x (xs ++ w ∷ []))

  -- one term is at most the sum
  pub sum_at : (xs : List A) (i : ℕ) (v : A) → get_elem? xs i ≡ some v → f v ≤ sum_by f xs
  sum_at [] i v at = absurd (some-ne-none v (sym at))
  sum_at (x ∷ xs) zero v at = let same : f x ≡ f v = ap f (some-injective x v at) in omega (arith, sum_by-cons f x xs)
  sum_at (x ∷ xs) (suc i) v at = let r = sum_at xs i v at in omega (arith, sum_by-cons f x xs)

  -- so are two
  pub sum_at_two : (xs : List A) (i j : ℕ) (v w : A) → i ≢ j → get_elem? xs i ≡ some v → get_elem? xs j ≡ some w → f v + f w ≤ sum_by f xs
  sum_at_two [] i j v w ne a b = absurd (some-ne-none v (sym a))
  sum_at_two (x ∷ xs) zero zero v w ne a b = absurd (ne refl)
  sum_at_two (x ∷ xs) zero (suc j) v w ne a b = let same : f x ≡ f v = ap f (some-injective x v a) in let r = sum_at xs j w b in omega (arith, sum_by-cons f x xs)
  sum_at_two (x ∷ xs) (suc i) zero v w ne a b = let same : f x ≡ f w = ap f (some-injective x w b) in let r = sum_at xs i v a in omega (arith, sum_by-cons f x xs)
  sum_at_two (x ∷ xs) (suc i) (suc j) v w ne a b = let r = sum_at_two xs i j v w (λ e. ne (ap suc e)) a b in omega (arith, sum_by-cons f x xs)

  -- where the sum is more than 0, so is one term
  pub some_term : (xs : List A) → 1 ≤ sum_by f xs → (i : ℕ) × (v : A) × (get_elem? xs i ≡ some v) × (1 ≤ f v)
  some_term [] h = absurd (omega (arith, sum_by-nil f, h))
  some_term (x ∷ xs) h = ⊎_elim
      (λ (here : 1 ≤ f x). (0, x, refl, here))
      (λ (none_here : f x ≡ 0). let r = some_term xs (omega (arith, sum_by-cons f x xs, h)) in (suc r.0, r.1, r.2, r.3))
      (one_or_none (f x))

module _ {A : Type 0} (F F' : ℕ → A → Type 0) where
  -- where the change keeps what is true of every other view, and the new one is right, all are
  pub each_after : (xs : List A) (i : ℕ) (w : A) → ((j : ℕ) (u : A) → get_elem? xs j ≡ some u → F j u) → F' i w → ((j : ℕ) (u : A) → j ≢ i → F j u → F' j u)
      → (j : ℕ) (u : A) → get_elem? (set xs i w) j ≡ some u → F' j u
  each_after xs i w each here others j u at = ⊎_elim
      (λ t. subst (λ (z : ℕ × A). F' z.0 z.1) (λ k. (sym t.0 k, t.1 k)) here)
      (λ t. others j u t.0 (each j u t.1))
      (at_set xs i j w u at)

pub set_at : {A : Type 0} (xs : List A) (i : ℕ) (v w : A) → get_elem? xs i ≡ some v → get_elem? (set xs i w) i ≡ some w
set_at [] i v w at = absurd (some-ne-none v (sym at))
set_at (x ∷ xs) zero v w at = refl
set_at (x ∷ xs) (suc i) v w at = set_at xs i v w at
