-- What contracts see of a pass, and the words for what a turn adds to the past.
use Rattle.std.specs.Prelude.{ℕ, ◌-◌, List, length, Option, nat_lt, if◌then◌else◌}
use Rattle.std.specs.List.{range_with_len}
use Rattle.atomic_table.specs.Seated.{TableId}

-- A pass of the lock `lock` has seen a past. It may take `turns` more turns and took `taken`, which added entries at the
-- places `made`. While it holds the turn, `held` is the past of the value that it took.
pub record PassValue (E : Type 0) : Type 0 where
  pub lock : TableId
  pub seen : List E
  pub turns : ℕ
  pub taken : ℕ
  pub made : List ℕ
  pub held : Option (List E)

-- the places that a past has and an earlier one has not
abbrev pub new_places : {E : Type 0} → List E → List E → List ℕ
new_places earlier later = range_with_len (length earlier) (length later - length earlier)

-- the longer of two lists, the first where they are as long
abbrev pub longer : {E : Type 0} → List E → List E → List E
longer xs ys = if nat_lt (length xs) (length ys) then ys else xs
