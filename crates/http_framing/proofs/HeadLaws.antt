-- Where the first empty line ends.
use Rattle.std.proofs.Common.{◌≡◌, ℕ, ◌+◌, ◌<◌, ◌&&◌, Bool, true, false, cond, eqb, ltb, List, length, get_or, drop, Option, None, Some, refl, ap, ◌∙◌, arith}
use Rattle.std.specs.Option.{option_map}
use Rattle.std.proofs.lemmas.Bool.{eqb-true}
use Rattle.std.proofs.lemmas.List.{drop_more}
use Rattle.http_framing.specs.Heads.{head_length, line_end}

-- a length that is counted from so many bytes before
abbrev pub past : ℕ → Option ℕ → Option ℕ
past i found = option_map (λ n. i + n) found

pub past_none : (found : Option ℕ) → found ≡ past 0 found
past_none None = refl
past_none (Some n) = ap Some (omega arith)

pub past_more : (i : ℕ) (found : Option ℕ) → past i (option_map (λ n. 1 + n) found) ≡ past (i + 1) found
past_more i None = refl
past_more i (Some n) = ap Some (omega arith)

-- what the byte at a place tells
pub head_length_at : (xs : List ℕ) (i : ℕ) → i < length xs
    → head_length (drop i xs) ≡ cond (eqb (get_or xs i 0) 10 && ltb 0 (line_end (drop (i + 1) xs))) (Some (1 + line_end (drop (i + 1) xs))) (option_map (λ n. 1 + n) (head_length (drop (i + 1) xs)))
head_length_at xs i lt = rw (drop_more xs i 0 lt) refl

-- no empty line begins at a place
pub goes_on : (xs : List ℕ) (i : ℕ) → i < length xs → (get_or xs i 0 ≡ 10 → line_end (drop (i + 1) xs) ≡ 0)
    → head_length xs ≡ past i (head_length (drop i xs)) → head_length xs ≡ past (i + 1) (head_length (drop (i + 1) xs))
goes_on xs i lt none so = by_byte (eqb (get_or xs i 0) 10) refl
  where
    by_byte : (z : Bool) → eqb (get_or xs i 0) 10 ≡ z → head_length xs ≡ past (i + 1) (head_length (drop (i + 1) xs))
    by_byte true e =
        let no : line_end (drop (i + 1) xs) ≡ 0 = none (eqb-true _ _ e) in
        let here : head_length (drop i xs) ≡ option_map (λ n. 1 + n) (head_length (drop (i + 1) xs)) = head_length_at xs i lt ∙ rw (e, no) refl in
        so ∙ ap (past i) here ∙ past_more i (head_length (drop (i + 1) xs))
    by_byte false e =
        let here : head_length (drop i xs) ≡ option_map (λ n. 1 + n) (head_length (drop (i + 1) xs)) = head_length_at xs i lt ∙ rw e refl in
        so ∙ ap (past i) here ∙ past_more i (head_length (drop (i + 1) xs))
