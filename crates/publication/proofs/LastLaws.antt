-- The last of the items before one.
use Rattle.std.proofs.Common.{◌≡◌, ℕ, zero, suc, ◌+◌, ◌-◌, ◌<◌, Bool, true, List, length, get_or, take, Some, Ordering, refl, ap, ◌∙◌, arith}
use Rattle.std.specs.Ordering.{is_lt}
use Rattle.std.specs.declared.cmp.Ordering.TheVariants.{Less, Equal, Greater}
use Rattle.std.proofs.lemmas.List.{get_or-take, length-take}
use Rattle.std.proofs.lemmas.Option.{slice_get-get_or}
use Rattle.publication.specs.RulesReading.{last_of, behind_last}

-- the last of the first items
pub last_of_take : {A : Type 0} (xs : List A) (k : ℕ) (d : A) → k < length xs → last_of (take (k + 1) xs) ≡ Some (get_or xs k d)
last_of_take {A} xs k d lt =
    let n : length (take (k + 1) xs) ≡ k + 1 = omega (arith, length-take (k + 1) xs) in
    let place : length (take (k + 1) xs) - 1 ≡ k = omega (arith, n) in
    rw place (slice_get-get_or (take (k + 1) xs) k d (omega (arith, n)) ∙ ap (λ (x : A). Some x) (get_or-take (k + 1) xs k d (omega arith)))

-- what a test of the last item and the next says of items that stand side by side
pub behind_at : {A : Type 0} (test : A → A → Bool) (xs : List A) (k : ℕ) (d : A) → k < length xs → behind_last (λ x. test x (get_or xs (k + 1) d)) (take (k + 1) xs) ≡ test (get_or xs k d) (get_or xs (k + 1) d)
behind_at test xs k d lt = rw (last_of_take xs k d lt) refl

-- such a test holds at each place where it holds of all items that stand side by side
pub behind_each : {A : Type 0} (test : A → A → Bool) (xs : List A) (d : A) → ((k : ℕ) → k + 1 < length xs → test (get_or xs k d) (get_or xs (k + 1) d) ≡ true)
    → (k : ℕ) → k < length xs → behind_last (λ x. test x (get_or xs k d)) (take k xs) ≡ true
behind_each test xs d h zero lt = refl
behind_each test xs d h (suc k) lt =
    let one : suc k ≡ k + 1 = omega arith in
    rw one (behind_at test xs k d (omega arith) ∙ h k (omega arith))

pub less_is : (o : Ordering) → is_lt o ≡ true → o ≡ Less
less_is Less e = refl
less_is Equal e = absurd cc
less_is Greater e = absurd cc
