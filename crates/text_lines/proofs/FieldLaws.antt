-- Fields cut at the spaces, and joined again.
use Rattle.std.proofs.Common.{◌≡◌, ℕ, ◌<◌, List, [], ◌∷◌, length, Option, None, Some, refl, arith, lit<}
use Rattle.std.specs.Prelude.{MatchOption}
use Rattle.std.specs.List.{position_or_len}
use Rattle.std.proofs.lemmas.List.Splits.{slice_split_none, slice_split_first, length-slice_split, join_with_byte-slice_split}
use Rattle.std.proofs.lemmas.List.Sums.{fails_before_first}
use Rattle.std.proofs.lemmas.Str.Pattern.{IsSplitOnceResult, split_once_first}
use Rattle.std.specs.Option.{option_map}
use Rattle.text_lines.specs.Fields.{is_space, fields, with_spaces, one_of, one_or_two_of}
use denote.Ref.{Bor}

pub fields_by_split : (line : List ℕ) (r : Option (Bor (List ℕ) × Bor (List ℕ))) → IsSplitOnceResult 32 line r → MatchOption r (fields line ≡ line ∷ []) (λ p. fields line ≡ p.0.now ∷ fields p.1.now)
unfolding fields
fields_by_split line None h =
    let none : position_or_len is_space line ≡ length line = split_once_first 32 line None h (lit< tt) in
    slice_split_none is_space line (λ k d lt. fails_before_first is_space line k d (omega (arith, none, lt)))
fields_by_split line (Some p) h =
    let e = split_once_first 32 line (Some p) h (lit< tt) in
    rw (e.1, e.2) (slice_split_first is_space line 0 e.0)

pub fields_some : (line : List ℕ) → 0 < length (fields line)
unfolding fields
fields_some line = omega (arith, length-slice_split is_space line)

pub one_of_more : (a : List ℕ) (parts : List (List ℕ)) → 0 < length parts → one_of (a ∷ parts) ≡ None
one_of_more a [] h = absurd (omega arith)
one_of_more a (b ∷ parts) h = refl

pub one_or_two_of_more : (a : List ℕ) (parts : List (List ℕ)) → 0 < length parts → one_or_two_of (a ∷ parts) ≡ option_map (λ (last : List ℕ). (a, Some last)) (one_of parts)
one_or_two_of_more a [] h = absurd (omega arith)
one_or_two_of_more a (b ∷ parts) h = refl

-- the fields of a line spell it
pub with_spaces-fields : (line : List ℕ) → with_spaces (fields line) ≡ line
unfolding fields with_spaces
with_spaces-fields line = join_with_byte-slice_split 32 line
