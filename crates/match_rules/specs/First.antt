-- The first answer of several.
use Rattle.std.specs.Prelude.{ℕ, zero, suc, Option, Some, None}

-- the first, or else the second
abbrev pub first_of_two : {X : Type 0} → Option X → Option X → Option X
first_of_two None second = second
first_of_two (Some x) second = Some x

-- the first of f 0, .., f (n - 1) that is there
abbrev pub first_below : {X : Type 0} → ℕ → (ℕ → Option X) → Option X
first_below zero f = None
first_below (suc n) f = first_of_two (first_below n f) (f n)
