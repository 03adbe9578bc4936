-- What a read and a write do to bytes that an object of the outside may tell, and may stop telling.
-- Each clause on the bytes stands under the premise that they are told after the call; so they were told before it.
use Rattle.std.specs.Prelude.{◌≡◌, ℕ, List, [], ◌++◌, take, Option, None, Some, IsSome, Result, MatchResult, IfOk}

-- the bytes, or none where they aren't told
abbrev pub told : Option (List ℕ) → List ℕ
told None = []
told (Some bytes) = bytes

-- what isn't told at one moment isn't told later
abbrev pub TellsNoMore : Option (List ℕ) → Option (List ℕ) → Type 0
TellsNoMore old new = IsSome new → IsSome old

-- a read took the bytes from the front of those left, none exactly at the end, and took none at an error
pub record TakesLeft {E : Type 0} (old new : Option (List ℕ)) (result : Result ℕ E) (room : List ℕ) : Type 0 where
  pub untold : TellsNoMore old new
  pub bytes : IsSome new → MatchResult result (λ n. told old ≡ take n room ++ told new) (λ _. told new ≡ told old)
  pub end : IsSome new → IfOk result (λ n. n ≡ 0 → told old ≡ [])
  pub at_end : IsSome new → IfOk result (λ n. told old ≡ [] → n ≡ 0)

-- the first n bytes of the room or piece were added, and none at an error
pub record Adds {E : Type 0} (old new : Option (List ℕ)) (result : Result ℕ E) (room : List ℕ) : Type 0 where
  pub untold : TellsNoMore old new
  pub bytes : IsSome new → MatchResult result (λ n. told new ≡ told old ++ take n room) (λ _. told new ≡ told old)

-- new is old and behind it a front of the piece
abbrev pub GrowsByFront : List ℕ → List ℕ → List ℕ → Type 0
GrowsByFront old new piece = (front rest : List ℕ) × (piece ≡ front ++ rest) × (new ≡ old ++ front)

-- behind the old bytes stands a front of the text, where the bytes are told
abbrev pub WroteFront : Option (List ℕ) → Option (List ℕ) → List ℕ → Type 0
WroteFront old new text = IsSome new → GrowsByFront (told old) (told new) text

-- the whole piece was added, and at an error a front of it
pub record AddsAll {T E : Type 0} (old new : Option (List ℕ)) (result : Result T E) (piece : List ℕ) : Type 0 where
  pub untold : TellsNoMore old new
  pub bytes : IsSome new → MatchResult result (λ _. told new ≡ told old ++ piece) (λ _. GrowsByFront (told old) (told new) piece)
