-- The lines so far.
use Rattle.std.proofs.Common.{◌≡◌, ℕ, ◌+◌, ◌<◌, List, [], ◌∷◌, ◌++◌, length, take, get_or, refl, sym, ap, ◌∙◌}
use Rattle.std.specs.List.{flat_map, range_with_len}
use Rattle.std.proofs.lemmas.List.{append-nil, take_more}
use Rattle.std.proofs.lemmas.List.Concat.{flat_map-append}
use Rattle.text_lines.specs.Texts.{line_of, lines_of}
use Rattle.made_conference.proofs.PairLaws.{flat_map_range_more}

-- a line for each item is the lines of all
pub lines_are : {A : Type 0} (spell : A → List ℕ) (xs : List A) → lines_of spell xs ≡ flat_map (λ x. line_of (spell x)) xs
unfolding lines_of
lines_are spell [] = refl
lines_are spell (x ∷ xs) = ap (λ (bs : List ℕ). line_of (spell x) ++ bs) (lines_are spell xs)

-- no line of no number, and one more line
pub lines_none : (spell : ℕ → List ℕ) → lines_of spell (range_with_len 0 0) ≡ []
unfolding lines_of
lines_none spell = refl

pub lines_more : (spell : ℕ → List ℕ) (n : ℕ) → lines_of spell (range_with_len 0 (n + 1)) ≡ lines_of spell (range_with_len 0 n) ++ line_of (spell n)
lines_more spell n =
    lines_are spell (range_with_len 0 (n + 1)) ∙ flat_map_range_more (λ (k : ℕ). line_of (spell k)) n
    ∙ ap (λ (bs : List ℕ). bs ++ line_of (spell n)) (sym (lines_are spell (range_with_len 0 n)))

-- a text with one more line
pub text_more : (spell : ℕ → List ℕ) (n : ℕ) (old new piece : List ℕ) → old ≡ lines_of spell (range_with_len 0 n) → piece ≡ line_of (spell n) → new ≡ old ++ piece
    → new ≡ lines_of spell (range_with_len 0 (n + 1))
text_more spell n old new piece before is added =
    added ∙ ap (λ (bs : List ℕ). bs ++ piece) before ∙ ap (λ (bs : List ℕ). lines_of spell (range_with_len 0 n) ++ bs) is ∙ sym (lines_more spell n)

-- the same over the items of a list
pub items_none : {A : Type 0} (spell : A → List ℕ) (xs : List A) → lines_of spell (take 0 xs) ≡ []
unfolding lines_of
items_none spell xs = refl

pub text_of_more : {A : Type 0} (spell : A → List ℕ) (xs : List A) (i : ℕ) (d : A) (old new piece : List ℕ) → i < length xs → old ≡ lines_of spell (take i xs)
    → piece ≡ line_of (spell (get_or xs i d)) → new ≡ old ++ piece → new ≡ lines_of spell (take (i + 1) xs)
text_of_more {A} spell xs i d old new piece lt before is added =
    let line : A → List ℕ = λ (x : A). line_of (spell x) in
    let front : lines_of spell (take i xs) ≡ flat_map line (take i xs) = lines_are spell (take i xs) in
    let next : flat_map line (take (i + 1) xs) ≡ flat_map line (take i xs) ++ line_of (spell (get_or xs i d)) =
    ap (flat_map line) (take_more xs i d lt) ∙ flat_map-append line (take i xs) (get_or xs i d ∷ []) ∙ ap (λ (bs : List ℕ). flat_map line (take i xs) ++ bs) (append-nil (line_of (spell (get_or xs i d)))) in
    added ∙ ap (λ (bs : List ℕ). bs ++ piece) (before ∙ front) ∙ ap (λ (bs : List ℕ). flat_map line (take i xs) ++ bs) is ∙ sym (lines_are spell (take (i + 1) xs) ∙ next)
