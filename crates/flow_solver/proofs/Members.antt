-- Who waits in a queue, as it changes.
use Rattle.std.proofs.Common.{◌≡◌, ℕ, zero, suc, ◌+◌, ◌<◌, ◌⊎◌, List, [], ◌∷◌, ◌++◌, length, take, refl, sym, ap, inl, inr, arith}
use Rattle.std.specs.Prelude.{slice_index_or}
use Rattle.std.specs.List.{Contains}
use Rattle.std.specs.List.Sorted.{IsPermutation}
use Rattle.std.proofs.lemmas.List.Elements.{Contains-append_right, Contains-append_cases, Contains-get_or, Contains-push_cases}
use Rattle.std.proofs.lemmas.List.{take_more}
use Rattle.std.proofs.lemmas.List.Sorted.{Contains-permutation}
use Rattle.std.specs.declared.cmp.Reverse.{Reverse}
use Rattle.flow_solver.specs.Queue.{Waits}

one_holds : {X : Type 0} (x y : X) → Contains (x ∷ []) y → x ≡ y
one_holds x y (zero, lt, e) = e
one_holds x y (suc k, lt, e) = absurd (omega arith)

-- what is added waits
pub Waits-added : (old new : List (Reverse ℕ × ℕ)) (d v : ℕ) → IsPermutation ((record { 0 = d }, v) ∷ old) new → Waits new d v
Waits-added old new d v moved =
    let x : Reverse ℕ × ℕ = (record { 0 = d }, v) in
    Contains-permutation (x ∷ old) new x moved (0, omega arith, refl)

-- what waited waits
pub Waits-kept : (old new : List (Reverse ℕ × ℕ)) (x : Reverse ℕ × ℕ) (d v : ℕ) → IsPermutation (x ∷ old) new → Waits old d v → Waits new d v
Waits-kept old new x d v moved waits =
    let y : Reverse ℕ × ℕ = (record { 0 = d }, v) in
    Contains-permutation (x ∷ old) new y moved (Contains-append_right (x ∷ []) old y waits)

-- of a list with one more, an element is that one, or one of the rest
pub Waits-cases : (old new : List (Reverse ℕ × ℕ)) (x : Reverse ℕ × ℕ) (d v : ℕ) → IsPermutation new (x ∷ old) → Waits new d v → Waits old d v ⊎ ((d ≡ x.0.0) × (v ≡ x.1))
Waits-cases old new x d v moved waits =
    let y : Reverse ℕ × ℕ = (record { 0 = d }, v) in
    let here : Contains (x ∷ old) y = Contains-permutation new (x ∷ old) y moved waits in
    elim (Contains-append_cases (x ∷ []) old y here) [
      | inl first ↦ let e : x ≡ y = one_holds x y first in inr (ap (λ (z : Reverse ℕ × ℕ). z.0.0) (sym e), ap (λ (z : Reverse ℕ × ℕ). z.1) (sym e))
      | inr rest ↦ inl rest
    ]

-- what stands at a place of a queue
abbrev pub entry_at : List (Reverse ℕ × ℕ) → ℕ → (Reverse ℕ × ℕ)
entry_at items place = slice_index_or items place (record { 0 = 0 }, 0)

-- it waits
pub Waits-at : (items : List (Reverse ℕ × ℕ)) (place : ℕ) → place < length items → Waits items (entry_at items place).0.0 (entry_at items place).1
Waits-at items place b = Contains-get_or items place (record { 0 = 0 }, 0) b

-- of what stands up to a place and there, a node is one of that before, or the one there
pub Waits-take_more : (items : List (Reverse ℕ × ℕ)) (place : ℕ) (d v : ℕ) → place < length items
    → Waits (take (place + 1) items) d v → Waits (take place items) d v ⊎ ((entry_at items place).1 ≡ v)
Waits-take_more items place d v b waits =
    let y : Reverse ℕ × ℕ = (record { 0 = d }, v) in
    let more : Contains (take place items ++ (entry_at items place ∷ [])) y = rw (take_more items place (record { 0 = 0 }, 0) b) at waits in
    elim (Contains-push_cases (take place items) (entry_at items place) y more) [
      | inl before ↦ inl before
      | inr here ↦ inr (ap (λ (z : Reverse ℕ × ℕ). z.1) here)
    ]
