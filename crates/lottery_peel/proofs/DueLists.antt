-- Lists of arcs, as vectors keep them.
use Rattle.std.proofs.Common.{◌≡◌, ℕ, ◌<◌, List, [], ◌∷◌, ◌++◌, map, length, Vec, sym, ap, ◌∙◌}
use Rattle.std.specs.Prelude.{slice_index_or, slice_set}
use Rattle.std.proofs.lemmas.List.{get_or-map, map-set}

module _ {Z : Type 0} where
  abbrev pub items_of : Vec ℕ Z → List ℕ
  items_of arcs = arcs.items

  -- an arc is added to the list of a ticket
  pub pushed-at : (lists : List (Vec ℕ Z)) (ticket arc : ℕ) (was new : Vec ℕ Z) → ticket < length lists → was ≡ slice_index_or lists ticket was → new.items ≡ was.items ++ (arc ∷ [])
      → map items_of (slice_set lists ticket new) ≡ slice_set (map items_of lists) ticket (slice_index_or (map items_of lists) ticket [] ++ (arc ∷ []))
  pushed-at lists ticket arc was new lt here is =
      let old : was.items ≡ slice_index_or (map items_of lists) ticket [] = ap items_of here ∙ sym (get_or-map items_of lists ticket was [] lt) in
      map-set items_of lists ticket new ∙ ap (λ xs. slice_set (map items_of lists) ticket xs) (is ∙ ap (λ xs. xs ++ (arc ∷ [])) old)
