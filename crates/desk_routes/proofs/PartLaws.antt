-- The parts of a target, cut off one after the other.
use Rattle.std.proofs.Common.{◌≡◌, ℕ, ◌<◌, Bool, true, false, List, [], ◌∷◌, length, Option, None, Some, refl, arith, lit<}
use Rattle.std.specs.Prelude.{MatchOption, ◌==◌, if◌then◌else◌}
use Rattle.std.specs.List.{position_or_len}
use Rattle.std.proofs.lemmas.List.Splits.{slice_split_none, slice_split_first, length-slice_split}
use Rattle.std.proofs.lemmas.List.Sums.{fails_before_first}
use Rattle.std.proofs.lemmas.Str.Pattern.{IsSplitOnceResult, split_once_first}
use Rattle.desk_routes.specs.Targets.{is_stroke, parts_of, place_in, behind_stroke}
use Rattle.desk_routes.specs.declared.places.Place.{Place}
use Rattle.desk_routes.specs.declared.places.Routes.{Routes}
use denote.Ref.{Bor}

pub parts_by_split : (text : List ℕ) (r : Option (Bor (List ℕ) × Bor (List ℕ))) → IsSplitOnceResult 47 text r → MatchOption r (parts_of text ≡ text ∷ []) (λ p. parts_of text ≡ p.0.now ∷ parts_of p.1.now)
unfolding parts_of
parts_by_split text None h =
    let none : position_or_len is_stroke text ≡ length text = split_once_first 47 text None h (lit< tt) in
    slice_split_none is_stroke text (λ k d lt. fails_before_first is_stroke text k d (omega (arith, none, lt)))
parts_by_split text (Some p) h =
    let e = split_once_first 47 text (Some p) h (lit< tt) in
    rw (e.1, e.2) (slice_split_first is_stroke text 0 e.0)

parts_some : (text : List ℕ) → 0 < length (parts_of text)
unfolding parts_of
parts_some text = omega (arith, length-slice_split is_stroke text)

place_by : (routes : Routes) (a b c d : List ℕ) (parts : List (List ℕ)) → 0 < length parts → place_in routes (a ∷ b ∷ c ∷ d ∷ parts) ≡ None
place_by routes a b c d [] some = absurd (omega arith)
place_by routes a b c d (e ∷ parts) some = refl

-- five parts and more are for nothing
pub place_of_more : (routes : Routes) (a b c d text : List ℕ) → place_in routes (a ∷ b ∷ c ∷ d ∷ parts_of text) ≡ None
place_of_more routes a b c d text = place_by routes a b c d (parts_of text) (parts_some text)

either : (test : Bool) (place : Option Place) → (if test then place else place) ≡ place
either true place = refl
either false place = refl

-- a text of one part is for nothing
pub behind_nothing : (routes : Routes) (text : List ℕ) → behind_stroke routes (text ∷ []) ≡ None
behind_nothing routes text = either (length text == 0) None
