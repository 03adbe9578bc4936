-- Texts that wait in a line buffer before a sink takes them.
use Rattle.std.specs.Prelude.{◌≡◌, ℕ, List, ◌∷◌, ◌++◌, decimal, Option, IsSome, Result, MatchResult}
use Rattle.edge_io.specs.Told.{told, TellsNoMore, GrowsByFront}

-- the sink took a front of the piece, and the rest of it is left
abbrev pub Leaves : List ℕ → List ℕ → List ℕ → List ℕ → Type 0
Leaves old new piece rest = (front : List ℕ) × (piece ≡ front ++ rest) × (new ≡ old ++ front)

-- of what waited and the text behind it the sink took a front, and the rest waits; at an error it took a front of them
pub record Puts {T E : Type 0} (old : Option (List ℕ)) (waited : List ℕ) (new : Option (List ℕ)) (waits : List ℕ) (result : Result T E) (text : List ℕ) : Type 0 where
  pub untold : TellsNoMore old new
  pub bytes : IsSome new → MatchResult result (λ _. Leaves (told old) (told new) (waited ++ text) waits) (λ _. GrowsByFront (told old) (told new) (waited ++ text))

-- a further field of a line: a space and a number
abbrev pub next_field : ℕ → List ℕ
next_field number = 32 ∷ decimal number
