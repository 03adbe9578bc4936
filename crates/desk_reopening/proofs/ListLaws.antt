-- Lists, taken from the front, and first reasons.
use Rattle.std.proofs.Common.{◌≡◌, ◌+◌, ◌≤◌, ◌∷◌, ◌++◌, [], ◌∙◌, ℕ, Bool, true, false, List, Option, Some, None, ap, length, refl, sym, take, zero, suc, arith, add-one, subst}
use Rattle.std.proofs.lemmas.Bool.{false≢true}
use Rattle.std.specs.List.{slice_get}

-- Options

abbrev is_there : {A : Type 0} → Option A → Bool
is_there None = false
is_there (Some x) = true

pub none_some : {A : Type 0} {P : Type 0} (x : A) (e : (let none : Option A = None in none ≡ Some x)) → P
none_some x e = absurd (false≢true (ap is_there e))

abbrev pub or_else : {A : Type 0} → A → Option A → A
or_else d None = d
or_else d (Some x) = x

-- Lists

pub take_next : {A : Type 0} (xs : List A) (n : ℕ) (x : A) → slice_get xs n ≡ Some x → take (suc n) xs ≡ take n xs ++ x ∷ []
take_next [] n x e = none_some x e
take_next (y ∷ xs) zero x e = ap (λ v. v ∷ []) (ap (or_else y) e)
take_next (y ∷ xs) (suc n) x e = ap (λ vs. y ∷ vs) (take_next xs n x e)

pub take_end : {A : Type 0} (xs : List A) (n : ℕ) → slice_get xs n ≡ None → take n xs ≡ xs
take_end [] zero e = refl
take_end [] (suc n) e = refl
take_end (y ∷ xs) zero e = none_some y (sym e)
take_end (y ∷ xs) (suc n) e = ap (λ vs. y ∷ vs) (take_end xs n e)

pub length_next : {A : Type 0} (xs : List A) (x : A) → length (xs ++ x ∷ []) ≡ suc (length xs)
length_next [] x = refl
length_next (y ∷ xs) x = ap suc (length_next xs x)
