-- The fields of a head, and those of a name.
use Rattle.std.specs.Prelude.{ℕ, Bool, List, [], ◌∷◌, Option, None, Some, map, filter}
use Rattle.std.specs.Str.{str_eq_ignore_ascii_case}

-- a field: its name, and its value without the white space around it
pub record FieldValue : Type 0 where
  pub name : List ℕ
  pub value : List ℕ

-- the field has this name, without regard to the case of ASCII letters
abbrev pub is_named : List ℕ → FieldValue → Bool
is_named name field = str_eq_ignore_ascii_case field.name name

-- the values of the fields of this name, in their order
abbrev pub values_of : List ℕ → List FieldValue → List (List ℕ)
values_of name fields = map (λ field. field.value) (filter (is_named name) fields)

-- the one item of a list of one
abbrev pub only : List (List ℕ) → Option (List ℕ)
only [] = None
only (value ∷ []) = Some value
only (value ∷ other ∷ more) = None
