-- Texts as lines, each with its line feed.
use Rattle.std.specs.Prelude.{ℕ, List, [], ◌∷◌, ◌++◌}

-- one line of a text
unfoldable pub line_of : List ℕ → List ℕ
line_of line = line ++ 10 ∷ []

-- a line for each item, as it is spelled
unfoldable pub lines_of : {A : Type 0} → (A → List ℕ) → List A → List ℕ
lines_of spell [] = []
lines_of spell (x ∷ xs) = line_of (spell x) ++ lines_of spell xs

-- P holds of each item, with the items before it known
abbrev pub AllAlong : {A : Type 0} → (List A → A → Type 0) → List A → List A → Type 0
AllAlong P before [] = Unit {0}
AllAlong P before (x ∷ xs) = P before x × AllAlong P (before ++ x ∷ []) xs
