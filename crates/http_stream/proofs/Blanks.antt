-- The blank bytes in front of a head, where more bytes come behind and where they are dropped.
use Rattle.std.proofs.Common.{◌≡◌, ℕ, zero, suc, ◌+◌, ◌<◌, ◌≤◌, Bool, true, false, cond, not, List, [], ◌∷◌, ◌++◌, length, drop, refl, ap, sym, ◌∙◌, arith}
use Rattle.std.specs.List.{prefix_len}
use Rattle.http_framing.specs.Heads.{blank_length, is_line_byte}

prefix_drop : (test : ℕ → Bool) (k : ℕ) (xs : List ℕ) → k ≤ prefix_len test xs → prefix_len test xs ≡ k + prefix_len test (drop k xs)
prefix_drop test zero xs h = omega arith
prefix_drop test (suc k) [] h = absurd (omega arith)
prefix_drop test (suc k) (x ∷ xs) h = by_test (test x) refl (λ few. prefix_drop test k xs few)
  where
    by_test : (z : Bool) → test x ≡ z → (k ≤ prefix_len test xs → prefix_len test xs ≡ k + prefix_len test (drop k xs))
        → prefix_len test (x ∷ xs) ≡ suc k + prefix_len test (drop k xs)
    by_test true e more =
        let here : prefix_len test (x ∷ xs) ≡ 1 + prefix_len test xs = rw e refl in
        let rest = more (omega arith) in
        omega arith
    by_test false e more =
        let here : prefix_len test (x ∷ xs) ≡ 0 = rw e refl in
        absurd (omega arith)

prefix_grows : (test : ℕ → Bool) (xs ys : List ℕ) → prefix_len test xs ≤ prefix_len test (xs ++ ys)
prefix_grows test [] ys = omega arith
prefix_grows test (x ∷ xs) ys = by_test (test x) refl (prefix_grows test xs ys)
  where
    by_test : (z : Bool) → test x ≡ z → prefix_len test xs ≤ prefix_len test (xs ++ ys)
        → prefix_len test (x ∷ xs) ≤ prefix_len test (x ∷ (xs ++ ys))
    by_test true e more =
        let here : prefix_len test (x ∷ xs) ≡ 1 + prefix_len test xs = rw e refl in
        let there : prefix_len test (x ∷ (xs ++ ys)) ≡ 1 + prefix_len test (xs ++ ys) = rw e refl in
        omega arith
    by_test false e more =
        let here : prefix_len test (x ∷ xs) ≡ 0 = rw e refl in
        omega arith

prefix_within : (test : ℕ → Bool) (xs : List ℕ) → prefix_len test xs ≤ length xs
prefix_within test [] = omega arith
prefix_within test (x ∷ xs) = by_test (test x) refl (prefix_within test xs)
  where
    by_test : (z : Bool) → test x ≡ z → prefix_len test xs ≤ length xs → prefix_len test (x ∷ xs) ≤ suc (length xs)
    by_test true e more =
        let here : prefix_len test (x ∷ xs) ≡ 1 + prefix_len test xs = rw e refl in
        omega arith
    by_test false e more =
        let here : prefix_len test (x ∷ xs) ≡ 0 = rw e refl in
        omega arith

prefix_ends : (test : ℕ → Bool) (xs ys : List ℕ) → prefix_len test xs < length xs → prefix_len test (xs ++ ys) ≡ prefix_len test xs
prefix_ends test [] ys h = absurd (omega arith)
prefix_ends test (x ∷ xs) ys h = by_test (test x) refl (λ few. prefix_ends test xs ys few)
  where
    by_test : (z : Bool) → test x ≡ z → (prefix_len test xs < length xs → prefix_len test (xs ++ ys) ≡ prefix_len test xs)
        → prefix_len test (x ∷ (xs ++ ys)) ≡ prefix_len test (x ∷ xs)
    by_test true e more =
        let here : prefix_len test (x ∷ xs) ≡ 1 + prefix_len test xs = rw e refl in
        let there : prefix_len test (x ∷ (xs ++ ys)) ≡ 1 + prefix_len test (xs ++ ys) = rw e refl in
        let rest = more (omega arith) in
        omega arith
    by_test false e more =
        let here : prefix_len test (x ∷ xs) ≡ 0 = rw e refl in
        let there : prefix_len test (x ∷ (xs ++ ys)) ≡ 0 = rw e refl in
        omega arith

abbrev is_blank : ℕ → Bool
is_blank byte = not (not (is_line_byte byte))

pub blank_drop : (k : ℕ) (xs : List ℕ) → k ≤ blank_length xs → blank_length xs ≡ k + blank_length (drop k xs)
blank_drop k xs h = prefix_drop is_blank k xs h

pub blank_grows : (xs ys : List ℕ) → blank_length xs ≤ blank_length (xs ++ ys)
blank_grows xs ys = prefix_grows is_blank xs ys

pub blank_within : (xs : List ℕ) → blank_length xs ≤ length xs
blank_within xs = prefix_within is_blank xs

-- a byte that isn't blank stays the first such byte
pub blank_ends : (xs ys : List ℕ) → blank_length xs < length xs → blank_length (xs ++ ys) ≡ blank_length xs
blank_ends xs ys h = prefix_ends is_blank xs ys h
