-- Lines of fields between commas, and texts one behind the other.
use Rattle.std.specs.Prelude.{◌≡◌, ℕ, zero, suc, ◌<◌, ℤ, pos, List, [], ◌++◌, length, slice_index_or}
use Rattle.std.specs.List.{join_with_byte}

-- the line of these fields
unfoldable pub with_commas : List (List ℕ) → List ℕ
with_commas parts = join_with_byte 44 parts

-- f 0 ++ .. ++ f (n - 1)
abbrev pub texts_below : ℕ → (ℕ → List ℕ) → List ℕ
texts_below zero f = []
texts_below (suc n) f = texts_below n f ++ f n

-- each score is that of its place
pub record AreScores (scores : List ℤ) (number : ℕ) (score : ℕ → ℤ) : Type 0 where
  pub size : length scores ≡ number
  pub each : (place : ℕ) → place < length scores → slice_index_or scores place (pos 0) ≡ score place
