-- A head of the grammar ends with the first empty line of its bytes.
use Rattle.std.proofs.Common.{◌≡◌, ℕ, zero, suc, ◌+◌, ◌<◌, ◌≤◌, ◌&&◌, Bool, true, false, cond, inl, inr, eqb, ltb, List, [], ◌∷◌, ◌++◌, length, take, Option, None, Some, refl, ap, sym, subst, ◌∙◌, arith, append_assoc, append-nil, length-append}
use Rattle.std.specs.List.{flat_map}
use Rattle.std.specs.Option.{option_map}
use Rattle.std.specs.Prelude.{unwrap_or}
use Rattle.std.proofs.lemmas.Bool.{and_cases, and_left, and_right, ltb-false, le-ltb}
use Rattle.std.proofs.lemmas.List.{length-take, nil_from_length, take-take}
use Rattle.httparse.specs.Grammar.{Field, LineEnd, crlf, lf, ReadsRequest, RequestHead, print_blank, print_end, print_field, print_request, print_version}
use Rattle.http_framing.specs.declared.blanks.TheConstants.{MOST_HEAD_BYTES}
use Rattle.httparse.specs.Ascii.{colon, space}
use Rattle.http_framing.specs.Heads.{begins_with, head_bytes, head_end, head_length, line_end, skip_blank}
use Rattle.http_framing.proofs.StayLaws.{length_stays}

-- ---- the bytes up to and with the first empty line have their own end there

line_end_cut : (xs : List ℕ) → line_end (take (line_end xs) xs) ≡ line_end xs
line_end_cut [] = refl
line_end_cut (a ∷ []) = by_feed (eqb a 10) refl
  where
    by_feed : (z : Bool) → eqb a 10 ≡ z → line_end (take (line_end (a ∷ [])) (a ∷ [])) ≡ line_end (a ∷ [])
    by_feed true e = rw e (rw e refl)
    by_feed false e =
        let none : line_end (a ∷ []) ≡ 0 = rw e (rw (and_right (eqb a 13) false refl) refl) in
        rw none refl
line_end_cut (a ∷ b ∷ xs) = by_feed (eqb a 10) (eqb a 13 && eqb b 10) refl refl
  where
    by_feed : (z w : Bool) → eqb a 10 ≡ z → (eqb a 13 && eqb b 10) ≡ w → line_end (take (line_end (a ∷ b ∷ xs)) (a ∷ b ∷ xs)) ≡ line_end (a ∷ b ∷ xs)
    by_feed true w e f =
        let one : line_end (a ∷ b ∷ xs) ≡ 1 = rw e refl in
        rw one (rw e refl)
    by_feed false true e f =
        let two : line_end (a ∷ b ∷ xs) ≡ 2 = rw e (rw f refl) in
        rw two (rw e (rw f refl))
    by_feed false false e f =
        let none : line_end (a ∷ b ∷ xs) ≡ 0 = rw e (rw f refl) in
        rw none refl

no_line_end_cut : (xs : List ℕ) (n : ℕ) → 2 ≤ n → line_end xs ≡ 0 → line_end (take n xs) ≡ 0
no_line_end_cut xs zero some none = absurd (omega arith)
no_line_end_cut xs (suc zero) some none = absurd (omega arith)
no_line_end_cut [] (suc (suc n)) some none = refl
no_line_end_cut (a ∷ []) (suc (suc n)) some none = none
no_line_end_cut (a ∷ b ∷ xs) (suc (suc n)) some none = none

cut_here : (a : ℕ) (xs : List ℕ) (n : ℕ) → (eqb a 10 && ltb 0 (line_end xs)) ≡ true → head_length (a ∷ xs) ≡ Some n → head_length (take n (a ∷ xs)) ≡ Some n
cut_here a xs n t e =
    let found : Some (1 + line_end xs) ≡ Some n = rw t at e in
    let is : n ≡ suc (line_end xs) = omega (arith, same_some (1 + line_end xs) n found) in
    let same = line_end_cut xs in
    rw is (rw same (rw t (ap Some (omega arith))))
  where
    same_some : (x y : ℕ) → Some x ≡ Some y → x ≡ y
    same_some x y e = cc

cut_test : (a : ℕ) (xs : List ℕ) (n : ℕ) → 2 ≤ n → (eqb a 10 && ltb 0 (line_end xs)) ≡ false → (eqb a 10 && ltb 0 (line_end (take n xs))) ≡ false
cut_test a xs n some t =
    elim (and_cases (eqb a 10) (ltb 0 (line_end xs)) t) [
      | inl other ↦ and_left (eqb a 10) _ other
      | inr none ↦ and_right (eqb a 10) _ (le-ltb 0 (line_end (take n xs)) (omega (arith, no_line_end_cut xs n some (omega (arith, ltb-false 0 (line_end xs) none)))))
    ]

cut_later : (a : ℕ) (xs : List ℕ) (n m : ℕ) → (eqb a 10 && ltb 0 (line_end xs)) ≡ false → head_length xs ≡ Some m → head_length (take m xs) ≡ Some m
    → head_length (a ∷ xs) ≡ Some n → head_length (take n (a ∷ xs)) ≡ Some n
cut_later a xs n m t h cut e =
    let found : option_map (λ n. 1 + n) (head_length xs) ≡ Some n = rw t at e in
    let one : Some (1 + m) ≡ Some n = rw h at found in
    let is : 1 + m ≡ n = cc in
    let size : n ≡ suc m = omega (arith, is) in
    let some = (length_stays xs [] m h).1 in
    rw size (rw (cut_test a xs m some t) (rw cut (ap Some (omega arith))))

pub length_cut : (xs : List ℕ) (n : ℕ) → head_length xs ≡ Some n → head_length (take n xs) ≡ Some n
length_cut [] n e = absurd cc
length_cut (a ∷ xs) n e = by_end (λ m h. length_cut xs m h) (eqb a 10 && ltb 0 (line_end xs)) refl
  where
    by_rest : ((m : ℕ) → head_length xs ≡ Some m → head_length (take m xs) ≡ Some m) → (eqb a 10 && ltb 0 (line_end xs)) ≡ false → (o : Option ℕ) → head_length xs ≡ o → head_length (take n (a ∷ xs)) ≡ Some n
    by_rest later t None h =
        let found : option_map (λ n. 1 + n) (head_length xs) ≡ Some n = rw t at e in
        let none : None ≡ Some n = rw h at found in
        absurd cc
    by_rest later t (Some m) h = cut_later a xs n m t h (later m h) e

    by_end : ((m : ℕ) → head_length xs ≡ Some m → head_length (take m xs) ≡ Some m) → (z : Bool) → (eqb a 10 && ltb 0 (line_end xs)) ≡ z → head_length (take n (a ∷ xs)) ≡ Some n
    by_end later true t = cut_here a xs n t e
    by_end later false t = by_rest later t (head_length xs) refl

-- ---- a head of the grammar has an empty line at its end

-- an empty line ends there at the latest
abbrev EndsBy : List ℕ → ℕ → Type 0
EndsBy xs most = (n : ℕ) × (head_length xs ≡ Some n) × (n ≤ most)

some_end : (last : LineEnd) → 0 < length (print_end last)
some_end crlf = omega arith
some_end lf = omega arith

short : (z w : Bool) → cond z 1 (cond w 2 0) ≤ 2
short true w = omega arith
short false true = omega arith
short false false = omega arith

line_end_short : (xs : List ℕ) → line_end xs ≤ 2
line_end_short [] = omega arith
line_end_short (a ∷ xs) = short (eqb a 10) (eqb a 13 && begins_with 10 xs)

ends_by : (p : List ℕ) (last : LineEnd) (rest : List ℕ) → EndsBy (p ++ 10 ∷ (print_end last ++ rest)) (length p + 1 + length (print_end last))
ends_by [] crlf rest = (3, refl, omega arith)
ends_by [] lf rest = (2, refl, omega arith)
ends_by (b ∷ p) last rest = by_end (ends_by p last rest) (eqb b 10 && ltb 0 (line_end (p ++ 10 ∷ (print_end last ++ rest)))) refl
  where
    by_end : EndsBy (p ++ 10 ∷ (print_end last ++ rest)) (length p + 1 + length (print_end last)) → (z : Bool) → (eqb b 10 && ltb 0 (line_end (p ++ 10 ∷ (print_end last ++ rest)))) ≡ z
        → EndsBy (b ∷ (p ++ 10 ∷ (print_end last ++ rest))) (length (b ∷ p) + 1 + length (print_end last))
    by_end later true t = (1 + line_end (p ++ 10 ∷ (print_end last ++ rest)), rw t refl, omega (arith, line_end_short (p ++ 10 ∷ (print_end last ++ rest)), some_end last))
    by_end (n, e, le) false t = (1 + n, rw t (rw e refl), omega (arith, le))

-- the lines of a head end with a line feed
feed_last : (x : List ℕ) (e : LineEnd) (fields : List Field) → (p : List ℕ) × ((x ++ print_end e) ++ flat_map print_field fields ≡ p ++ 10 ∷ [])
feed_last x crlf [] = (x ++ 13 ∷ [], append-nil (x ++ 13 ∷ 10 ∷ []) ∙ sym (append_assoc x (13 ∷ []) (10 ∷ [])))
feed_last x lf [] = (x, append-nil (x ++ 10 ∷ []))
feed_last x e (f ∷ fs) =
    let A = x ++ print_end e in
    let nr = f.name ++ colon ∷ f.raw in
    let later = feed_last (A ++ nr) f.end fs in
    (later.0, sym (append_assoc A (nr ++ print_end f.end) (flat_map print_field fs)) ∙ ap (λ (t : List ℕ). t ++ flat_map print_field fs) (sym (append_assoc A nr (print_end f.end))) ∙ later.1)

request_ends : (h : RequestHead) → (p : List ℕ) × (print_request h ≡ p ++ 10 ∷ print_end h.last)
unfolding print_request
request_ends h =
    let x = print_blank h.blank ++ h.method ++ space ∷ h.target ++ space ∷ print_version h.minor in
    let f = feed_last x h.line_end h.fields in
    (f.0, sym (append_assoc (x ++ print_end h.line_end) (flat_map print_field h.fields) (print_end h.last)) ∙ ap (λ (t : List ℕ). t ++ print_end h.last) f.1 ∙ append_assoc f.0 (10 ∷ []) (print_end h.last))

same_some : (x y : ℕ) → Some x ≡ Some y → x ≡ y
same_some x y e = cc

-- where the first empty line ends the bytes, a head in front of them is all of them
whole_head : (bytes rest : List ℕ) (h : RequestHead) → head_length bytes ≡ Some (length bytes) → ReadsRequest bytes h rest → rest ≡ []
whole_head bytes rest h e reads =
    let q = request_ends h in
    let is : bytes ≡ q.0 ++ 10 ∷ (print_end h.last ++ rest) = reads.1 ∙ ap (λ (t : List ℕ). t ++ rest) q.1 ∙ append_assoc q.0 (10 ∷ print_end h.last) rest in
    let found = ends_by q.0 h.last rest in
    let size : length bytes ≡ found.0 = same_some (length bytes) found.0 (sym e ∙ ap head_length is ∙ found.1) in
    nil_from_length rest (omega (arith, size, found.2, ap length is, length-append q.0 (10 ∷ (print_end h.last ++ rest)), length-append (print_end h.last) rest))

nothing : (rest : List ℕ) (h : RequestHead) → ReadsRequest [] h rest → rest ≡ []
nothing rest h reads = nil_from_length rest (omega (arith, ap length reads.1, length-append (print_request h) rest))

cut_at : (k n : ℕ) (xs : List ℕ) → head_length (take k xs) ≡ Some n → head_length (take n xs) ≡ Some (length (take n xs))
cut_at k n xs e =
    let size = (length_stays (take k xs) [] n e).2 in
    let same : take n (take k xs) ≡ take n xs = take-take n k xs (omega (arith, size, length-take k xs)) in
    let all : n ≡ length (take n xs) = omega (arith, size, length-take k xs, length-take n xs) in
    ap head_length (sym same) ∙ length_cut (take k xs) n e ∙ ap (λ (m : ℕ). Some m) all

-- a head of the grammar in front of the bytes up to and with the first empty line is all of them
pub head_is_all : (bytes rest : List ℕ) (h : RequestHead) → ReadsRequest (head_bytes bytes) h rest → rest ≡ []
head_is_all bytes rest h = by_end (head_end (skip_blank bytes)) refl
  where
    by_end : (o : Option ℕ) → head_end (skip_blank bytes) ≡ o → ReadsRequest (head_bytes bytes) h rest → rest ≡ []
    by_end None e reads =
        let none : head_bytes bytes ≡ [] = ap (λ (o : Option ℕ). take (unwrap_or o 0) (skip_blank bytes)) e in
        nothing rest h (subst (λ (t : List ℕ). ReadsRequest t h rest) none reads)
    by_end (Some n) e reads =
        let there : head_bytes bytes ≡ take n (skip_blank bytes) = ap (λ (o : Option ℕ). take (unwrap_or o 0) (skip_blank bytes)) e in
        whole_head (take n (skip_blank bytes)) rest h (cut_at MOST_HEAD_BYTES n (skip_blank bytes) e) (subst (λ (t : List ℕ). ReadsRequest t h rest) there reads)
