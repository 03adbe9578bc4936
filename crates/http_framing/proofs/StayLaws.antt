-- Where a head begins and ends stays as it is when bytes come behind.
use Rattle.std.proofs.Common.{◌≡◌, ℕ, zero, suc, ◌+◌, ◌<◌, ◌≤◌, ◌&&◌, not, Bool, true, false, inl, inr, eqb, ltb, List, [], ◌∷◌, ◌++◌, length, take, drop, Option, None, Some, refl, ap, sym, ◌∙◌, arith, length-drop}
use Rattle.std.specs.Option.{option_map}
use Rattle.std.specs.Prelude.{unwrap_or}
use Rattle.std.proofs.lemmas.Bool.{and_parts, and_cases, and_left, and_right, ltb-true, ltb-false, le-ltb, cond-false, ne_eqb}
use Rattle.std.proofs.lemmas.List.{length-take, take-append-le, drop-append-le}
use Rattle.std.proofs.lemmas.List.Folds.{prefix_len-append}
use Rattle.http_framing.specs.declared.blanks.TheConstants.{MOST_HEAD_BYTES}
use Rattle.http_framing.specs.Heads.{blank_length, head_bytes, head_end, head_length, is_line_byte, line_end, skip_blank}

blank_stays : (bytes more : List ℕ) → blank_length bytes < length bytes → blank_length (bytes ++ more) ≡ blank_length bytes
blank_stays bytes more some =
    prefix_len-append (λ byte. not (not (is_line_byte byte))) bytes more ∙ cond-false _ _ _ (ne_eqb (blank_length bytes) (length bytes) (omega arith))

-- more is there than what was dropped
inside : (n : ℕ) (bytes rest : List ℕ) (byte : ℕ) → drop n bytes ≡ byte ∷ rest → n < length bytes
inside n bytes rest byte e = omega (arith, length-drop n bytes, ap length e)

-- the blank bytes in front of a head
pub skip_stays : (bytes more rest : List ℕ) (byte : ℕ) → skip_blank bytes ≡ byte ∷ rest
    → (blank_length (bytes ++ more) ≡ blank_length bytes) × (skip_blank (bytes ++ more) ≡ byte ∷ (rest ++ more))
skip_stays bytes more rest byte e =
    let some = inside (blank_length bytes) bytes rest byte e in
    let same = blank_stays bytes more some in
    (same, ap (λ (n : ℕ). drop n (bytes ++ more)) same ∙ drop-append-le (blank_length bytes) bytes more (omega (arith, some)) ∙ ap (λ (t : List ℕ). t ++ more) e)

line_end_stays : (xs more : List ℕ) → 0 < line_end xs → line_end (xs ++ more) ≡ line_end xs
line_end_stays [] more some = absurd (omega arith)
line_end_stays (a ∷ []) more some = by_feed (eqb a 10) refl
  where
    by_feed : (z : Bool) → eqb a 10 ≡ z → line_end (a ∷ more) ≡ line_end (a ∷ [])
    by_feed true e = rw e refl
    by_feed false e =
        let none : line_end (a ∷ []) ≡ 0 = rw e (rw (and_right (eqb a 13) false refl) refl) in
        absurd (omega (arith, none, some))
line_end_stays (a ∷ b ∷ xs) more some = refl

line_end_fits : (xs : List ℕ) → line_end xs ≤ length xs
line_end_fits [] = omega arith
line_end_fits (a ∷ []) = by_feed (eqb a 10) refl
  where
    by_feed : (z : Bool) → eqb a 10 ≡ z → line_end (a ∷ []) ≤ 1
    by_feed true e = rw e (omega arith)
    by_feed false e = rw e (rw (and_right (eqb a 13) false refl) (omega arith))
line_end_fits (a ∷ b ∷ xs) = by_feed (eqb a 10) (eqb a 13 && eqb b 10) refl refl
  where
    by_feed : (z w : Bool) → eqb a 10 ≡ z → (eqb a 13 && eqb b 10) ≡ w → line_end (a ∷ b ∷ xs) ≤ length (a ∷ b ∷ xs)
    by_feed true w e f = rw e (omega arith)
    by_feed false true e f = rw e (rw f (omega arith))
    by_feed false false e f = rw e (rw f (omega arith))

-- no line end is there, and an empty line comes later
no_line_end_stays : (xs more : List ℕ) (n : ℕ) → line_end xs ≡ 0 → head_length xs ≡ Some n → line_end (xs ++ more) ≡ 0
no_line_end_stays [] more n none e = absurd cc
no_line_end_stays (a ∷ []) more n none e =
    let nothing : head_length (a ∷ []) ≡ None = rw (and_right (eqb a 10) false refl) refl in
    absurd (cc (nothing, e))
no_line_end_stays (a ∷ b ∷ xs) more n none e = none

-- the head ends at the same place, which is behind two bytes or more
abbrev StaysAt : List ℕ → List ℕ → ℕ → Type 0
StaysAt xs more n = (head_length (xs ++ more) ≡ Some n) × (2 ≤ n) × (n ≤ length xs)

ends_here : (a : ℕ) (xs more : List ℕ) (n : ℕ) → (eqb a 10 && ltb 0 (line_end xs)) ≡ true → head_length (a ∷ xs) ≡ Some n → StaysAt (a ∷ xs) more n
ends_here a xs more n t e =
    let some : 0 < line_end xs = ltb-true _ _ (and_parts (eqb a 10) (ltb 0 (line_end xs)) t).1 in
    let same = line_end_stays xs more some in
    let found : Some (1 + line_end xs) ≡ Some n = rw t at e in
    let is : 1 + line_end xs ≡ n = cc in
    (rw same (rw t found), omega (arith, is, some), omega (arith, is, line_end_fits xs))

test_stays : (a : ℕ) (xs more : List ℕ) (n : ℕ) → (eqb a 10 && ltb 0 (line_end xs)) ≡ false → head_length xs ≡ Some n → (eqb a 10 && ltb 0 (line_end (xs ++ more))) ≡ false
test_stays a xs more n t e =
    elim (and_cases (eqb a 10) (ltb 0 (line_end xs)) t) [
      | inl other ↦ and_left (eqb a 10) _ other
      | inr none ↦ and_right (eqb a 10) _ (le-ltb 0 (line_end (xs ++ more)) (omega (arith, no_line_end_stays xs more n (omega (arith, ltb-false 0 (line_end xs) none)) e)))
    ]

ends_later : (a : ℕ) (xs more : List ℕ) (n m : ℕ) → (eqb a 10 && ltb 0 (line_end xs)) ≡ false → head_length xs ≡ Some m → StaysAt xs more m
    → head_length (a ∷ xs) ≡ Some n → StaysAt (a ∷ xs) more n
ends_later a xs more n m t h s e =
    let found : option_map (λ n. 1 + n) (head_length xs) ≡ Some n = rw t at e in
    let one : Some (1 + m) ≡ Some n = rw h at found in
    let is : 1 + m ≡ n = cc in
    (rw (test_stays a xs more m t h) (rw s.0 one), omega (arith, is, s.1), omega (arith, is, s.2))

pub length_stays : (xs more : List ℕ) (n : ℕ) → head_length xs ≡ Some n → StaysAt xs more n
length_stays [] more n e = absurd cc
length_stays (a ∷ xs) more n e = by_end (λ m h. length_stays xs more m h) (eqb a 10 && ltb 0 (line_end xs)) refl
  where
    by_rest : ((m : ℕ) → head_length xs ≡ Some m → StaysAt xs more m) → (eqb a 10 && ltb 0 (line_end xs)) ≡ false → (o : Option ℕ) → head_length xs ≡ o → StaysAt (a ∷ xs) more n
    by_rest later t None h =
        let found : option_map (λ n. 1 + n) (head_length xs) ≡ Some n = rw t at e in
        let none : None ≡ Some n = rw h at found in
        absurd cc
    by_rest later t (Some m) h = ends_later a xs more n m t h (later m h) e

    by_end : ((m : ℕ) → head_length xs ≡ Some m → StaysAt xs more m) → (z : Bool) → (eqb a 10 && ltb 0 (line_end xs)) ≡ z → StaysAt (a ∷ xs) more n
    by_end later true t = ends_here a xs more n t e
    by_end later false t = by_rest later t (head_length xs) refl

front_more : (k : ℕ) (xs ys : List ℕ) → (zs : List ℕ) × (take k (xs ++ ys) ≡ take k xs ++ zs)
front_more zero xs ys = ([], refl)
front_more (suc k) [] ys = (take (suc k) ys, refl)
front_more (suc k) (x ∷ xs) ys =
    let f = front_more k xs ys in
    (f.0, ap (λ (t : List ℕ). x ∷ t) f.1)

end_at : (k : ℕ) (rest more : List ℕ) (n : ℕ) → head_length (take k rest) ≡ Some n → (head_length (take k (rest ++ more)) ≡ Some n) × (2 ≤ n) × (n ≤ length rest)
end_at k rest more n e =
    let f = front_more k rest more in
    let s = length_stays (take k rest) f.0 n e in
    (ap head_length f.1 ∙ s.0, s.1, omega (arith, s.2, length-take k rest))

-- the end of a head that has ended
pub end_stays : (rest more : List ℕ) (n : ℕ) → head_end rest ≡ Some n → (head_end (rest ++ more) ≡ Some n) × (2 ≤ n) × (n ≤ length rest)
end_stays rest more n e = end_at MOST_HEAD_BYTES rest more n e

-- where the bytes that a head may have are all there
pub no_end_stays : (rest more : List ℕ) → MOST_HEAD_BYTES ≤ length rest → head_end (rest ++ more) ≡ head_end rest
no_end_stays rest more le = ap head_length (take-append-le MOST_HEAD_BYTES rest more le)

bytes_at : (bytes rest : List ℕ) (o : Option ℕ) → skip_blank bytes ≡ rest → head_end rest ≡ o → head_bytes bytes ≡ take (unwrap_or o 0) rest
bytes_at bytes rest o s e = ap (λ (r : List ℕ). take (unwrap_or (head_end r) 0) r) s ∙ ap (λ (o : Option ℕ). take (unwrap_or o 0) rest) e

-- the bytes of a head that has ended
pub bytes_stay : (bytes more rest : List ℕ) (byte end : ℕ) → skip_blank bytes ≡ byte ∷ rest → head_end (byte ∷ rest) ≡ Some end
    → head_bytes (bytes ++ more) ≡ head_bytes bytes
bytes_stay bytes more rest byte end s e =
    let later = end_stays (byte ∷ rest) more end e in
    bytes_at (bytes ++ more) (byte ∷ (rest ++ more)) (Some end) (skip_stays bytes more rest byte s).1 later.0
    ∙ take-append-le end (byte ∷ rest) more later.2
    ∙ sym (bytes_at bytes (byte ∷ rest) (Some end) s e)

-- no bytes of a head
pub no_bytes_stay : (bytes more rest : List ℕ) (byte : ℕ) → skip_blank bytes ≡ byte ∷ rest → head_end (byte ∷ rest) ≡ None → MOST_HEAD_BYTES ≤ length (byte ∷ rest)
    → head_bytes (bytes ++ more) ≡ head_bytes bytes
no_bytes_stay bytes more rest byte s e le =
    bytes_at (bytes ++ more) (byte ∷ (rest ++ more)) None (skip_stays bytes more rest byte s).1 (no_end_stays (byte ∷ rest) more le ∙ e)
    ∙ sym (bytes_at bytes (byte ∷ rest) None s e)
