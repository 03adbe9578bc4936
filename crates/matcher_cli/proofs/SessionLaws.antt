-- The chairs of a session.
use Rattle.std.proofs.Common.{◌≡◌, ◌-◌, List, [], ◌∷◌, drop, length, map, refl, take, arith}
use Rattle.std.proofs.lemmas.List.{take_all}

-- what is made of all behind the first is behind the first of what is made of all
pub map_behind : {A B : Type 0} (f : A → B) (xs : List A) → map f (take (length xs - 1) (drop 1 xs)) ≡ drop 1 (map f xs)
map_behind f [] = refl
map_behind f (x ∷ xs) = rw (take_all (length (x ∷ xs) - 1) xs (omega arith)) refl
