-- A list that is copied item by item.
use Rattle.std.proofs.Common.{◌≡◌, ℕ, ◌+◌, ◌<◌, List, [], ◌∷◌, ◌++◌, length, take, get_or, sym, ap, ◌∙◌}
use Rattle.std.proofs.lemmas.List.{take_more}

-- the copy of one item more
pub copied : {X : Type 0} (xs done : List X) (i : ℕ) (item copy : X) → i < length xs → item ≡ get_or xs i item → copy ≡ item → done ≡ take i xs → done ++ copy ∷ [] ≡ take (i + 1) xs
copied xs done i item copy lt is same so_far = rw (so_far, same) (ap (λ x. take i xs ++ x ∷ []) is ∙ sym (take_more xs i item lt))
