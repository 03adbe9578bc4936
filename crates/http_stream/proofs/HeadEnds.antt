-- The end of a head doesn't change by the bytes behind it.
use Rattle.std.proofs.Common.{◌≡◌, ℕ, suc, inl, inr, ◌+◌, ◌-◌, ◌<◌, ◌≤◌, ◌&&◌, Bool, true, false, cond, eqb, ltb, List, [], ◌∷◌, ◌++◌, length, take, Option, None, Some, refl, ap, sym, ◌∙◌, arith}
use Rattle.std.specs.Option.{option_map}
use Rattle.std.proofs.lemmas.Bool.{and_parts, cases_lt}
use Rattle.std.proofs.lemmas.List.{length-take, take-append-le, take_all, take_at, drop_at}
use Rattle.std.proofs.Math.Seq.{take-append-add}
use borrow.Author.Tests.{ltb-true}
use Rattle.http_framing.specs.declared.blanks.TheConstants.{MOST_HEAD_BYTES}
use Rattle.http_framing.specs.Heads.{begins_with, head_end, head_length, line_end}

-- what stands behind one more byte
some_more : (found : Option ℕ) (n : ℕ) → option_map (λ n. 1 + n) found ≡ Some n → (m : ℕ) × (found ≡ Some m) × (n ≡ 1 + m)
some_more None n h = absurd (cc)
some_more (Some m) n h = (m, refl, sym (cc))

line_end_most : (xs : List ℕ) → line_end xs ≤ length xs
line_end_most [] = omega arith
line_end_most (x ∷ xs) = by_feed (eqb x 10) (eqb x 13) refl refl
  where
    by_feed : (z r : Bool) → eqb x 10 ≡ z → eqb x 13 ≡ r → line_end (x ∷ xs) ≤ suc (length xs)
    by_feed true r e f = let here : line_end (x ∷ xs) ≡ 1 = rw e refl in omega arith
    by_feed false false e f = let here : line_end (x ∷ xs) ≡ 0 = rw (e, f) refl in omega arith
    by_feed false true e f = by_next xs refl
      where
        by_next : (ys : List ℕ) → xs ≡ ys → line_end (x ∷ xs) ≤ suc (length xs)
        by_next [] g = let here : line_end (x ∷ xs) ≡ 0 = rw (g, e, f) refl in omega arith
        by_next (y ∷ ys) g = by_second (eqb y 10) refl
          where
            by_second : (s : Bool) → eqb y 10 ≡ s → line_end (x ∷ xs) ≤ suc (length xs)
            by_second true k = let here : line_end (x ∷ xs) ≡ 2 = rw (g, e, f, k) refl in let long : length xs ≡ suc (length ys) = ap length g in omega arith
            by_second false k = let here : line_end (x ∷ xs) ≡ 0 = rw (g, e, f, k) refl in omega arith

-- a line end that stands there stays
line_end_stays : (xs ys : List ℕ) → 0 < line_end xs → line_end (xs ++ ys) ≡ line_end xs
line_end_stays [] ys h = absurd (omega arith)
line_end_stays (x ∷ y ∷ xs) ys h = refl
line_end_stays (x ∷ []) ys h = by_feed (eqb x 10) (eqb x 13) refl refl
  where
    by_feed : (z r : Bool) → eqb x 10 ≡ z → eqb x 13 ≡ r → line_end (x ∷ ys) ≡ line_end (x ∷ [])
    by_feed true r e f = rw e refl
    by_feed false true e f = let here : line_end (x ∷ []) ≡ 0 = rw (e, f) refl in absurd (omega arith)
    by_feed false false e f = let here : line_end (x ∷ []) ≡ 0 = rw (e, f) refl in absurd (omega arith)

-- the test for an empty line in front
abbrev ends_here : ℕ → List ℕ → Bool
ends_here x xs = eqb x 10 && ltb 0 (line_end xs)

head_length_here : (x : ℕ) (xs : List ℕ) → ends_here x xs ≡ true → head_length (x ∷ xs) ≡ Some (1 + line_end xs)
head_length_here x xs e = rw e refl

head_length_later : (x : ℕ) (xs : List ℕ) → ends_here x xs ≡ false → head_length (x ∷ xs) ≡ option_map (λ n. 1 + n) (head_length xs)
head_length_later x xs e = rw e refl

pub head_length_long : (xs : List ℕ) (n : ℕ) → head_length xs ≡ Some n → (2 ≤ length xs) × (n ≤ length xs)
head_length_long [] n h = absurd (cc)
head_length_long (x ∷ xs) n h = by_test (ends_here x xs) refl (head_length_long xs)
  where
    by_test : (z : Bool) → ends_here x xs ≡ z → ((m : ℕ) → head_length xs ≡ Some m → (2 ≤ length xs) × (m ≤ length xs))
        → (2 ≤ suc (length xs)) × (n ≤ suc (length xs))
    by_test true e more =
        let here : Some n ≡ Some (1 + line_end xs) = sym h ∙ head_length_here x xs e in
        let is : n ≡ 1 + line_end xs = cc in
        let some : 0 < line_end xs = ltb-true 0 (line_end xs) ((and_parts (eqb x 10) (ltb 0 (line_end xs)) e).1) in
        let most = line_end_most xs in
        (omega arith, omega arith)
    by_test false e more =
        let later = some_more (head_length xs) n (sym (head_length_later x xs e) ∙ h) in
        let long = more later.0 later.1 in
        (omega (arith, long.0), omega (arith, long.1, later.2))

line_end_long : (xs ys : List ℕ) → 2 ≤ length xs → line_end (xs ++ ys) ≡ line_end xs
line_end_long [] ys h = absurd (omega arith)
line_end_long (x ∷ []) ys h = absurd (omega arith)
line_end_long (x ∷ y ∷ xs) ys h = refl

head_length_stays : (xs ys : List ℕ) (n : ℕ) → head_length xs ≡ Some n → head_length (xs ++ ys) ≡ Some n
head_length_stays [] ys n h = absurd (cc)
head_length_stays (x ∷ xs) ys n h = by_test (ends_here x xs) refl (head_length_stays xs ys)
  where
    by_test : (z : Bool) → ends_here x xs ≡ z → ((m : ℕ) → head_length xs ≡ Some m → head_length (xs ++ ys) ≡ Some m)
        → head_length (x ∷ (xs ++ ys)) ≡ Some n
    by_test true e more =
        let some : 0 < line_end xs = ltb-true 0 (line_end xs) ((and_parts (eqb x 10) (ltb 0 (line_end xs)) e).1) in
        let same : line_end (xs ++ ys) ≡ line_end xs = line_end_stays xs ys some in
        let here : head_length (x ∷ (xs ++ ys)) ≡ Some (1 + line_end (xs ++ ys)) = head_length_here x (xs ++ ys) (rw same e) in
        here ∙ ap (λ k. Some (1 + k)) same ∙ sym (head_length_here x xs e) ∙ h
    by_test false e more =
        let later = some_more (head_length xs) n (sym (head_length_later x xs e) ∙ h) in
        let long = head_length_long xs later.0 later.1 in
        let same : line_end (xs ++ ys) ≡ line_end xs = line_end_long xs ys long.0 in
        let rest : head_length (xs ++ ys) ≡ Some later.0 = more later.0 later.1 in
        head_length_later x (xs ++ ys) (rw same e) ∙ ap (λ (o : Option ℕ). option_map (λ n. 1 + n) o) rest ∙ ap Some (sym later.2)

within_stays : (most : ℕ) (xs ys : List ℕ) (n : ℕ) → head_length (take most xs) ≡ Some n → head_length (take most (xs ++ ys)) ≡ Some n
within_stays most xs ys n h = elim (cases_lt (length xs) most) [
  | inl short ↦
      let all : take most xs ≡ xs = take_all most xs (omega arith) in
      let more : take most (xs ++ ys) ≡ xs ++ take (most - length xs) ys =
      let count : most ≡ length xs + (most - length xs) = omega arith in
      ap (λ k. take k (xs ++ ys)) count ∙ take-append-add xs ys (most - length xs) in
      rw more (head_length_stays xs (take (most - length xs) ys) n (rw all at h))
  | inr long ↦ rw (take-append-le most xs ys (omega arith)) h
]

within_long : (most : ℕ) (xs : List ℕ) (n : ℕ) → head_length (take most xs) ≡ Some n → (2 ≤ length xs) × (n ≤ length xs)
within_long most xs n h =
    let long = head_length_long (take most xs) n h in
    (omega (arith, long.0, length-take most xs), omega (arith, long.1, length-take most xs))

pub head_end_stays : (xs ys : List ℕ) (n : ℕ) → head_end xs ≡ Some n → head_end (xs ++ ys) ≡ Some n
head_end_stays xs ys n h = within_stays MOST_HEAD_BYTES xs ys n h

-- a head is there with all its bytes
pub head_end_long : (xs : List ℕ) (n : ℕ) → head_end xs ≡ Some n → (2 ≤ length xs) × (n ≤ length xs)
head_end_long xs n h = within_long MOST_HEAD_BYTES xs n h
