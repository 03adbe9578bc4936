-- Two lists whose items at the same place are related.
use Rattle.std.proofs.Common.{◌≡◌, ℕ, ◌-◌, Bool, true, false, cond, eqb, List, [], ◌∷◌, ◌++◌, length, map, All, Option, None, Some, refl, subst, arith, ap, sym, zero, suc}
use Rattle.std.specs.Prelude.{⊤}
use Rattle.std.specs.List.{slice_get}
use Rattle.desk_history.specs.Histories.{nth_of, with_at, with_held, with_nth}
use Rattle.desk_history.specs.declared.jobs.Job.{Job}
use Rattle.desk_laws.proofs.EvidenceLaws.{none_some, or_else}

-- the items at each place are related, and there are as many of the one as of the other
abbrev pub Pairs : {A B : Type 0} → (A → B → Type 0) → List A → List B → Type 0
Pairs P [] [] = ⊤
Pairs P (x ∷ xs) (y ∷ ys) = P x y × Pairs P xs ys
Pairs P [] (y ∷ ys) = ⊥
Pairs P (x ∷ xs) [] = ⊥

pub pairs_then : {A B : Type 0} (P Q : A → B → Type 0) (xs : List A) (ys : List B) → ((x : A) (y : B) → P x y → Q x y) → Pairs P xs ys → Pairs Q xs ys
pairs_then P Q [] [] step all = tt
pairs_then P Q (x ∷ xs) (y ∷ ys) step all = (step x y all.0, pairs_then P Q xs ys step all.1)
pairs_then P Q [] (y ∷ ys) step all = absurd all
pairs_then P Q (x ∷ xs) [] step all = absurd all

pub pairs_map : {A B : Type 0} (S : A → Type 0) (P Q : A → B → Type 0) (f : A → A) (g : B → B) → ((x : A) (y : B) → S x → P x y → Q (f x) (g y)) → (xs : List A) (ys : List B) → All S xs → Pairs P xs ys → Pairs Q (map f xs) (map g ys)
pairs_map S P Q f g step [] [] each all = tt
pairs_map S P Q f g step (x ∷ xs) (y ∷ ys) each all =
    (step x y (each 0 x (omega arith)) all.0, pairs_map S P Q f g step xs ys (λ k d lt. each (suc k) d (omega (arith, lt))) all.1)
pairs_map S P Q f g step [] (y ∷ ys) each all = absurd all
pairs_map S P Q f g step (x ∷ xs) [] each all = absurd all

pub pairs_append : {A B : Type 0} (P : A → B → Type 0) (xs : List A) (ys : List B) (x : A) (y : B) → Pairs P xs ys → P x y → Pairs P (xs ++ x ∷ []) (ys ++ y ∷ [])
pairs_append P [] [] x y all p = (p, tt)
pairs_append P (a ∷ xs) (b ∷ ys) x y all p = (all.0, pairs_append P xs ys x y all.1 p)
pairs_append P [] (b ∷ ys) x y all p = absurd all
pairs_append P (a ∷ xs) [] x y all p = absurd all

pub pairs_length : {A B : Type 0} (P : A → B → Type 0) (xs : List A) (ys : List B) → Pairs P xs ys → length ys ≡ length xs
pairs_length P [] [] all = refl
pairs_length P (x ∷ xs) (y ∷ ys) all = ap suc (pairs_length P xs ys all.1)
pairs_length P [] (y ∷ ys) all = absurd all
pairs_length P (x ∷ xs) [] all = absurd all

-- The item at a place

-- what was found is there, and is related
pub record Beside {A B : Type 0} (P : A → B → Type 0) (found : Option B) (x : A) : Type 0 where
  pub item : B
  pub there : found ≡ Some item
  pub related : P x item

pairs_get : {A B : Type 0} (P : A → B → Type 0) (xs : List A) (ys : List B) (i : ℕ) (x : A) → slice_get xs i ≡ Some x → Pairs P xs ys → Beside P (slice_get ys i) x
pairs_get P [] [] i x found all = none_some x found
pairs_get P (a ∷ xs) (b ∷ ys) zero x found all = record { item = b; there = refl; related = subst (λ t. P t b) (ap (or_else x) found) all.0 }
pairs_get P (a ∷ xs) (b ∷ ys) (suc i) x found all = pairs_get P xs ys i x found all.1
pairs_get P [] (b ∷ ys) i x found all = absurd all
pairs_get P (a ∷ xs) [] i x found all = absurd all

pairs_test : {A B : Type 0} (P : A → B → Type 0) (test : Bool) (xs : List A) (ys : List B) (i : ℕ) (x : A) → cond test None (slice_get xs i) ≡ Some x → Pairs P xs ys → Beside P (cond test None (slice_get ys i)) x
pairs_test P true xs ys i x found all = none_some x found
pairs_test P false xs ys i x found all = pairs_get P xs ys i x found all

-- the item of the other list beside one of this number
pub pairs_nth : {A B : Type 0} (P : A → B → Type 0) (xs : List A) (ys : List B) (number : ℕ) (x : A) → nth_of xs number ≡ Some x → Pairs P xs ys → Beside P (nth_of ys number) x
pairs_nth P xs ys number x found all = pairs_test P (eqb number 0) xs ys (number - 1) x found all

-- A change at a place of both lists

with_at_next : {A : Type 0} (x : A) (xs : List A) (i : ℕ) (f : A → A) (found : Option A) → with_at (x ∷ xs) (suc i) f found ≡ x ∷ with_at xs i f found
with_at_next x xs i f None = refl
with_at_next x xs i f (Some y) = refl

pairs_at : {A B : Type 0} (P : A → B → Type 0) (f : A → A) (g : B → B) (xs : List A) (ys : List B) (i : ℕ) → ((x : A) (y : B) → slice_get xs i ≡ Some x → P x y → P (f x) (g y)) → Pairs P xs ys
    → Pairs P (with_at xs i f (slice_get xs i)) (with_at ys i g (slice_get ys i))
pairs_at P f g [] [] i step all = tt
pairs_at P f g (x ∷ xs) (y ∷ ys) zero step all = (step x y refl all.0, all.1)
pairs_at {A} {B} P f g (x ∷ xs) (y ∷ ys) (suc i) step all =
    subst (λ (us : List A). Pairs P us (with_at (y ∷ ys) (suc i) g (slice_get ys i))) (sym (with_at_next x xs i f (slice_get xs i)))
    (subst (λ (vs : List B). Pairs P (x ∷ with_at xs i f (slice_get xs i)) vs) (sym (with_at_next y ys i g (slice_get ys i)))
    (all.0, pairs_at P f g xs ys i step all.1))
pairs_at P f g [] (y ∷ ys) i step all = absurd all
pairs_at P f g (x ∷ xs) [] i step all = absurd all

pairs_at_test : {A B : Type 0} (P : A → B → Type 0) (f : A → A) (g : B → B) (test : Bool) (xs : List A) (ys : List B) (i : ℕ) → ((x : A) (y : B) → cond test None (slice_get xs i) ≡ Some x → P x y → P (f x) (g y)) → Pairs P xs ys
    → Pairs P (with_at xs i f (cond test None (slice_get xs i))) (with_at ys i g (cond test None (slice_get ys i)))
pairs_at_test P f g true xs ys i step all = all
pairs_at_test P f g false xs ys i step all = pairs_at P f g xs ys i step all

pub pairs_with_nth : {A B : Type 0} (P : A → B → Type 0) (f : A → A) (g : B → B) (xs : List A) (ys : List B) (number : ℕ) → ((x : A) (y : B) → nth_of xs number ≡ Some x → P x y → P (f x) (g y)) → Pairs P xs ys
    → Pairs P (with_nth xs number f) (with_nth ys number g)
pairs_with_nth P f g xs ys number step all = pairs_at_test P f g (eqb number 0) xs ys (number - 1) step all

-- A change in the one list alone

left_at : {A B : Type 0} (P : A → B → Type 0) (f : A → A) (xs : List A) (ys : List B) (i : ℕ) → ((x : A) (y : B) → P x y → P (f x) y) → Pairs P xs ys → Pairs P (with_at xs i f (slice_get xs i)) ys
left_at P f [] [] i step all = tt
left_at P f (x ∷ xs) (y ∷ ys) zero step all = (step x y all.0, all.1)
left_at {A} P f (x ∷ xs) (y ∷ ys) (suc i) step all =
    subst (λ (us : List A). Pairs P us (y ∷ ys)) (sym (with_at_next x xs i f (slice_get xs i))) (all.0, left_at P f xs ys i step all.1)
left_at P f [] (y ∷ ys) i step all = absurd all
left_at P f (x ∷ xs) [] i step all = absurd all

left_test : {A B : Type 0} (P : A → B → Type 0) (f : A → A) (test : Bool) (xs : List A) (ys : List B) (i : ℕ) → ((x : A) (y : B) → P x y → P (f x) y) → Pairs P xs ys → Pairs P (with_at xs i f (cond test None (slice_get xs i))) ys
left_test P f true xs ys i step all = all
left_test P f false xs ys i step all = left_at P f xs ys i step all

pub left_with_nth : {A B : Type 0} (P : A → B → Type 0) (f : A → A) (xs : List A) (ys : List B) (number : ℕ) → ((x : A) (y : B) → P x y → P (f x) y) → Pairs P xs ys → Pairs P (with_nth xs number f) ys
left_with_nth P f xs ys number step all = left_test P f (eqb number 0) xs ys (number - 1) step all

pub left_with_held : (P : Job → Job → Type 0) (f : Job → Job) (xs ys : List Job) (number : Option ℕ) → ((x y : Job) → P x y → P (f x) y) → Pairs P xs ys → Pairs P (with_held xs number f) ys
left_with_held P f xs ys None step all = all
left_with_held P f xs ys (Some number) step all = left_with_nth P f xs ys number step all
