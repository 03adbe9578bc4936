-- A chair's name is an id of ASCII characters.
use Rattle.std.proofs.Common.{◌≡◌, ℕ, zero, suc, ◌<◌, Bool, true, false, not, List, [], ◌∷◌, inl, inr, refl, sym, ap, subst, ◌∙◌, arith}
use Rattle.std.specs.Prelude.{◌&&◌}
use Rattle.std.specs.Char.{is_ascii}
use Rattle.std.specs.List.{list_all}
use Rattle.std.specs.Str.{IsAscii}
use Rattle.std.proofs.lemmas.Bool.{and_parts, cases_eq, false_from_ne_true, false≢true}
use Rattle.std.proofs.lemmas.Bool.Decides.{nat_tests}
use Rattle.std.proofs.lemmas.List.Sums.{AllPass-from_list_all}
use Rattle.std.proofs.lemmas.Str.{chars-IsAscii, IsUtf8-from_ascii, is_utf8-from_IsUtf8}
use Rattle.std.proofs.lemmas.Str.Ascii.{IsAscii-from_all}
use Rattle.match_rules.specs.Id.{is_id, is_id_char}
use Rattle.desk_keeper.specs.Names.{is_chair_byte, is_chair_name}
use Rattle.desk_keeper.proofs.FieldSpells.{all_weaker}

ascii_at : (b : ℕ) → is_ascii b ≡ true → b < 128
ascii_at b h = grind (arith, nat_tests)

-- both tests answer the same of each byte of ASCII, one after the other
is_same : Bool → Bool → Bool
is_same true answer = answer
is_same false answer = not answer

are_same_below : ℕ → Bool
unfolding is_same
are_same_below zero = true
are_same_below (suc n) = is_same (is_chair_byte n) (is_id_char n) && are_same_below n

same_below : (n b : ℕ) → are_same_below n ≡ true → b < n → is_same (is_chair_byte b) (is_id_char b) ≡ true
unfolding are_same_below
same_below zero b all lt = absurd (omega arith)
same_below (suc n) b all lt =
    let parts = and_parts (is_same (is_chair_byte n) (is_id_char n)) (are_same_below n) all in
    elim (cases_eq b n) [
      | inl same ↦ subst (λ (c : ℕ). is_same (is_chair_byte c) (is_id_char c) ≡ true) (sym same) parts.0
      | inr other ↦ same_below n b parts.1 (omega (arith, other))
    ]

same_is : (x y : Bool) → is_same x y ≡ true → x ≡ y
unfolding is_same
same_is true true h = refl
same_is true false h = absurd cc
same_is false true h = absurd cc
same_is false false h = refl

same_byte : (b : ℕ) → b < 128 → is_chair_byte b ≡ is_id_char b
unfolding are_same_below is_same
same_byte b small = same_is (is_chair_byte b) (is_id_char b) (same_below 128 b refl small)

chair_ascii : (b : ℕ) → is_chair_byte b ≡ true → is_ascii b ≡ true
chair_ascii b h = grind (arith, nat_tests)

same_bytes : (name : List ℕ) → list_all is_ascii name ≡ true → list_all is_chair_byte name ≡ list_all is_id_char name
same_bytes [] ascii = refl
same_bytes (b ∷ name) ascii =
    let parts = and_parts (is_ascii b) (list_all is_ascii name) ascii in
    rw (same_byte b (ascii_at b parts.0), same_bytes name parts.1) refl

pub chair_is : (name : List ℕ) → is_chair_name name ≡ (is_id name && list_all is_ascii name)
unfolding is_chair_name is_id
chair_is name = by_ascii (list_all is_ascii name) refl
  where
    settled : (l y : Bool) → (l && y) ≡ ((l && (true && y)) && true)
    settled true true = refl
    settled true false = refl
    settled false y = refl

    never : (l z : Bool) → (l && false) ≡ (z && false)
    never true true = refl
    never true false = refl
    never false true = refl
    never false false = refl

    put : (l x u y a : Bool) → u ≡ true → a ≡ true → x ≡ y → (l && x) ≡ ((l && (u && y)) && a)
    put l x u y a p q r = rw (p, q, r) (settled l y)

    put_none : (l x z a : Bool) → x ≡ false → a ≡ false → (l && x) ≡ (z && a)
    put_none l x z a p q = rw (p, q) (never l z)

    is_plain_ascii : (bs : List ℕ) → list_all is_ascii bs ≡ true → IsAscii bs
    is_plain_ascii bs e = IsAscii-from_all bs (λ k d lt. ascii_at _ (AllPass-from_list_all is_ascii bs e k d lt))

    by_ascii : (t : Bool) → list_all is_ascii name ≡ t → is_chair_name name ≡ (is_id name && list_all is_ascii name)
    by_ascii true e =
        let ascii = is_plain_ascii name e in
        put _ _ _ _ _ (is_utf8-from_IsUtf8 name (IsUtf8-from_ascii name ascii)) e (same_bytes name e ∙ ap (list_all is_id_char) (sym (chars-IsAscii name ascii)))
    by_ascii false e =
        put_none _ _ _ _ (false_from_ne_true (list_all is_chair_byte name) (λ all. false≢true (sym e ∙ all_weaker is_chair_byte is_ascii chair_ascii name all))) e
