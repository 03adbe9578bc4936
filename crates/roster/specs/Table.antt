-- Tables: rows in ascending order of their keys, seen as finite maps from keys to rows.
use Rattle.std.specs.Prelude.{◌≡◌, ℕ, ◌+◌, if◌then◌else◌, List, [], ◌∷◌, ◌++◌, length, Option, Some, None, Result, MatchResult}
use Rattle.std.specs.Option.{option_map}
use Rattle.std.specs.Ordering.{nat_cmp, is_eq}
use Rattle.std.specs.Cmp.Lexicographic.{slice_cmp}
use Rattle.std.specs.declared.cmp.Ordering.{Ordering}
use Rattle.std.specs.declared.cmp.Ordering.TheVariants.{Less, Equal, Greater}

-- the order of ids, by their bytes
abbrev pub id_cmp : List ℕ → List ℕ → Ordering
id_cmp a b = slice_cmp nat_cmp a b

abbrev pub by_order : {A : Type 0} → Ordering → A → A → A → A
by_order Less less equal greater = less
by_order Equal less equal greater = equal
by_order Greater less equal greater = greater

-- each row's key is above this one
abbrev pub AllAbove : {R : Type 0} → (R → List ℕ) → List ℕ → List R → Type 0
AllAbove key id [] = Unit {0}
AllAbove key id (row ∷ rows) = (id_cmp id (key row) ≡ Less) × AllAbove key id rows

-- each key is below those after it
abbrev pub Ascend : {R : Type 0} → (R → List ℕ) → List R → Type 0
Ascend key [] = Unit {0}
Ascend key (row ∷ rows) = AllAbove key (key row) rows × Ascend key rows

-- the row that has the key
abbrev pub row_of : {R : Type 0} → (R → List ℕ) → List ℕ → List R → Option R
row_of key id [] = None
row_of key id (row ∷ rows) = if is_eq (id_cmp (key row) id) then Some row else row_of key id rows

-- how many rows stand before it
abbrev pub place_of : {R : Type 0} → (R → List ℕ) → List ℕ → List R → Option ℕ
place_of key id [] = None
place_of key id (row ∷ rows) = if is_eq (id_cmp (key row) id) then Some 0 else option_map (λ n. n + 1) (place_of key id rows)

-- the rows with this one for its key
abbrev pub put_row : {R : Type 0} → (R → List ℕ) → R → List R → List R
put_row key new [] = new ∷ []
put_row key new (row ∷ rows) = by_order (id_cmp (key row) (key new)) (row ∷ put_row key new rows) (new ∷ rows) (new ∷ row ∷ rows)

-- each row's key is below this one
abbrev pub AllBelow : {R : Type 0} → (R → List ℕ) → List ℕ → List R → Type 0
AllBelow key id [] = Unit {0}
AllBelow key id (row ∷ rows) = (id_cmp (key row) id ≡ Less) × AllBelow key id rows

-- the rows have one with the key here, behind smaller ones
pub record IsAt {R : Type 0} (key : R → List ℕ) (id : List ℕ) (rows : List R) (place : ℕ) : Type 0 where
  pub front : List R
  pub row : R
  pub back : List R
  pub split : rows ≡ front ++ row ∷ back
  pub count : place ≡ length front
  pub below : AllBelow key id front
  pub here : id_cmp (key row) id ≡ Equal

-- the key would go here, between smaller and greater ones
pub record IsGap {R : Type 0} (key : R → List ℕ) (id : List ℕ) (rows : List R) (place : ℕ) : Type 0 where
  pub front : List R
  pub back : List R
  pub split : rows ≡ front ++ back
  pub count : place ≡ length front
  pub below : AllBelow key id front
  pub above : AllAbove key id back

abbrev pub IsPlaceFor : {R : Type 0} → (R → List ℕ) → List ℕ → List R → Result ℕ ℕ → Type 0
IsPlaceFor key id rows found = MatchResult found (IsAt key id rows) (IsGap key id rows)
