-- What stands in a front of a list stands in the list, at the same place.
use Rattle.std.proofs.Common.{◌≡◌, ℕ, zero, suc, List, [], ◌∷◌, Some, slice_get}
use mathlib.Core.List.{IsPrefix}

pub front_get : {A : Type 0} (xs ys : List A) (k : ℕ) (x : A) → IsPrefix xs ys → slice_get xs k ≡ Some x → slice_get ys k ≡ Some x
front_get [] ys k x p h = absurd cc
front_get (y ∷ xs) [] k x p h = absurd (cc (p.1))
front_get (y ∷ xs) (z ∷ ys) zero x p h = cc (p.1, h)
front_get (y ∷ xs) (z ∷ ys) (suc k) x p h = front_get xs ys k x (p.0, cc (p.1)) h
