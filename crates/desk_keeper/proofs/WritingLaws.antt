-- A head line is its first word and its other fields, with a space before each.
use Rattle.std.proofs.Common.{◌≡◌, ℕ, List, [], ◌∷◌, ◌++◌, sym, ap, ◌∙◌, append_assoc}
use Rattle.std.proofs.lemmas.List.{append-nil}
use Rattle.text_lines.specs.Fields.{with_spaces}
use Rattle.text_lines.specs.Texts.{line_of}
use Rattle.desk_keeper.specs.Writing.{spaced}

spaces_are : (w : List ℕ) (ws : List (List ℕ)) → with_spaces (w ∷ ws) ≡ w ++ spaced ws
unfolding with_spaces
spaces_are w [] = sym (append-nil w)
spaces_are w (x ∷ ws) = ap (λ (line : List ℕ). w ++ (32 ∷ line)) (spaces_are x ws)

regroup : (row word caller number own : List ℕ) → (((row ++ word) ++ caller) ++ number) ++ own ≡ row ++ (word ++ (caller ++ (number ++ own)))
regroup row word caller number own = simp append_assoc

pub head_put : (row a b d e word caller number : List ℕ) (own : List (List ℕ)) → a ≡ row ++ word → b ≡ a ++ 32 ∷ caller → d ≡ b ++ 32 ∷ number → e ≡ d ++ spaced own
    → e ≡ row ++ with_spaces (word ∷ caller ∷ number ∷ own)
head_put row a b d e word caller number own p q r s =
    let parts : e ≡ (((row ++ word) ++ (32 ∷ caller)) ++ (32 ∷ number)) ++ spaced own = cc in
    parts ∙ regroup row word (32 ∷ caller) (32 ∷ number) (spaced own) ∙ ap (λ (line : List ℕ). row ++ line) (sym (spaces_are word (caller ∷ number ∷ own)))

pub row_put : (a b row head body : List ℕ) → a ≡ head → b ≡ a ++ 10 ∷ [] → row ≡ b ++ body → row ≡ line_of head ++ body
unfolding line_of
row_put a b row head body p q r = cc
