-- What holds of an item of a list holds of that of a changed list at its place.
use Rattle.std.proofs.Common.{◌≡◌, ℕ, ◌-◌, Bool, true, false, cond, eqb, List, [], ◌∷◌, ◌++◌, map, set, Option, None, Some, refl, subst, zero, suc}
use Rattle.std.specs.List.{slice_get}
use Rattle.desk_history.specs.Histories.{nth_of, with_at, with_nth}
use Rattle.desk_laws.proofs.EvidenceLaws.{none_some}

abbrev pub IfThere : {A : Type 0} → Option A → (A → Type 0) → Type 0
IfThere None P = ⊥
IfThere (Some x) P = P x

-- what holds of an item of the one list holds of that of the other at its place
abbrev pub Keeps : {A : Type 0} → (A → Type 0) → List A → List A → Type 0
Keeps P xs ys = (i : ℕ) → IfThere (slice_get xs i) P → IfThere (slice_get ys i) P

pub get_map : {A : Type 0} (P : A → Type 0) (f : A → A) → ((x : A) → P x → P (f x)) → (xs : List A) (i : ℕ) → IfThere (slice_get xs i) P → IfThere (slice_get (map f xs) i) P
get_map P f step [] i there = absurd there
get_map P f step (x ∷ xs) zero there = step x there
get_map P f step (x ∷ xs) (suc i) there = get_map P f step xs i there

pub get_append : {A : Type 0} (P : A → Type 0) (xs ys : List A) (i : ℕ) → IfThere (slice_get xs i) P → IfThere (slice_get (xs ++ ys) i) P
get_append P [] ys i there = absurd there
get_append P (x ∷ xs) ys zero there = there
get_append P (x ∷ xs) ys (suc i) there = get_append P xs ys i there

get_set : {A : Type 0} (P : A → Type 0) (xs : List A) (place : ℕ) (y : A) (i : ℕ) → (IfThere (slice_get xs place) P → P y) → IfThere (slice_get xs i) P → IfThere (slice_get (set xs place y) i) P
get_set P [] place y i step there = absurd there
get_set P (x ∷ xs) zero y zero step there = step there
get_set P (x ∷ xs) zero y (suc i) step there = there
get_set P (x ∷ xs) (suc place) y zero step there = there
get_set P (x ∷ xs) (suc place) y (suc i) step there = get_set P xs place y i step there

got_set : {A : Type 0} (P : A → Type 0) (xs : List A) (place : ℕ) (x y : A) → slice_get xs place ≡ Some x → P y → IfThere (slice_get (set xs place y) place) P
got_set P [] place x y found p = none_some x found
got_set P (z ∷ xs) zero x y found p = p
got_set P (z ∷ xs) (suc place) x y found p = got_set P xs place x y found p

nth_test : {A : Type 0} (P : A → Type 0) (xs ys : List A) (test : Bool) (i : ℕ) → (IfThere (slice_get xs i) P → IfThere (slice_get ys i) P) → IfThere (cond test None (slice_get xs i)) P → IfThere (cond test None (slice_get ys i)) P
nth_test P xs ys true i step there = there
nth_test P xs ys false i step there = step there

pub nth_keep : {A : Type 0} (P : A → Type 0) (xs ys : List A) (number : ℕ) → Keeps P xs ys → IfThere (nth_of xs number) P → IfThere (nth_of ys number) P
nth_keep P xs ys number keeps there = nth_test P xs ys (eqb number 0) (number - 1) (keeps (number - 1)) there

pub nth_set : {A : Type 0} (P : A → Type 0) (xs : List A) (test : Bool) (i : ℕ) (x y : A) → cond test None (slice_get xs i) ≡ Some x → P y → IfThere (cond test None (slice_get (set xs i y) i)) P
nth_set P xs true i x y found p = none_some x found
nth_set P xs false i x y found p = got_set P xs i x y found p

pub found_get : {A : Type 0} (xs : List A) (test : Bool) (i : ℕ) (x : A) → cond test None (slice_get xs i) ≡ Some x → slice_get xs i ≡ Some x
found_get xs true i x found = none_some x found
found_get xs false i x found = found

with_at_keep : {A : Type 0} (P : A → Type 0) (xs : List A) (place : ℕ) (change : A → A) (found : Option A) → ((x : A) → found ≡ Some x → slice_get xs place ≡ Some x) → ((x : A) → P x → P (change x)) → Keeps P xs (with_at xs place change found)
with_at_keep P xs place change None is step = λ i there. there
with_at_keep P xs place change (Some x) is step = λ i there. get_set P xs place (change x) i (λ p. step x (subst (λ o. IfThere o P) (is x refl) p)) there

pub with_nth_keep : {A : Type 0} (P : A → Type 0) (xs : List A) (number : ℕ) (change : A → A) → ((x : A) → P x → P (change x)) → Keeps P xs (with_nth xs number change)
with_nth_keep P xs number change step = with_at_keep P xs (number - 1) change (nth_of xs number) (λ x e. found_get xs (eqb number 0) (number - 1) x e) step
