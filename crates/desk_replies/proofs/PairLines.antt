-- Lines that are put behind a text one by one.
use Rattle.std.proofs.Common.{◌≡◌, ℕ, ◌+◌, ◌<◌, ◌≤◌, List, [], ◌∷◌, ◌++◌, length, get_or, drop, sym, ap, ◌∙◌, append_assoc, add-one}
use Rattle.std.proofs.lemmas.List.{append-nil, drop_all}
use Rattle.std.proofs.Math.Seq.{drop-cons}
use Rattle.text_lines.specs.Texts.{line_of, lines_of}

-- the text so far, with the lines that are still to come, is the whole text
pub next_line : {A : Type 0} (spell : A → List ℕ) (xs : List A) (i : ℕ) (x d : A) (text whole : List ℕ) → i < length xs → x ≡ get_or xs i d
    → text ++ lines_of spell (drop i xs) ≡ whole → (text ++ line_of (spell x)) ++ lines_of spell (drop (i + 1) xs) ≡ whole
unfolding lines_of
next_line spell xs i x d text whole below is so_far =
    let others : drop i xs ≡ get_or xs i d ∷ drop (i + 1) xs = rw add-one (drop-cons xs i d below) in
    let first : drop i xs ≡ x ∷ drop (i + 1) xs = others ∙ ap (λ y. y ∷ drop (i + 1) xs) (sym is) in
    append_assoc text (line_of (spell x)) (lines_of spell (drop (i + 1) xs)) ∙ ap (λ ys. text ++ lines_of spell ys) (sym first) ∙ so_far

pub all_lines : {A : Type 0} (spell : A → List ℕ) (xs : List A) (i : ℕ) (text whole : List ℕ) → length xs ≤ i
    → text ++ lines_of spell (drop i xs) ≡ whole → text ≡ whole
unfolding lines_of
all_lines spell xs i text whole end so_far =
    sym (append-nil text) ∙ ap (λ ys. text ++ lines_of spell ys) (sym (drop_all i xs end)) ∙ so_far
