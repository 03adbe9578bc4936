-- Rows made one after another.
use Rattle.std.proofs.Common.{◌≡◌, ℕ, ◌+◌, ◌<◌, List, [], ◌∷◌, ◌++◌, length, get_or, map, take, All, sym, ap, ap₂, ◌∙◌, subst}
use Rattle.std.proofs.lemmas.List.{map-append}
use Rattle.std.proofs.lemmas.List.{take_more}
use Rattle.std.proofs.lemmas.List.Elements.{All-more}

pub made-more : {A B : Type 0} (f : A → B) (rows : List A) (i : ℕ) (row : A) (made now : List B) (one : B) → i < length rows → row ≡ get_or rows i row
    → made ≡ map f (take i rows) → now ≡ made ++ one ∷ [] → one ≡ f row → now ≡ map f (take (i + 1) rows)
made-more f rows i row made now one lt is so_far pushed same =
    pushed ∙ ap₂ (λ xs x. xs ++ x ∷ []) so_far (same ∙ ap f is) ∙ sym (map-append f (take i rows) (get_or rows i row ∷ [])) ∙ ap (map f) (sym (take_more rows i row lt))

pub good-more : {A : Type 0} (P : A → Type 0) (rows : List A) (i : ℕ) (row : A) → i < length rows → row ≡ get_or rows i row → All P (take i rows) → P row → All P (take (i + 1) rows)
good-more P rows i row lt is so_far good = All-more P rows i row lt so_far (subst P is good)
