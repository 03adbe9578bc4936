-- A text has one first fault, or none.
use Rattle.std.proofs.Common.{◌≡◌, ℕ, ◌+◌, ◌<◌, ◌≤◌, ◌⊎◌, List, [], ◌∷◌, ◌++◌, length, take, Option, None, Some, inl, inr, refl, sym, ap, ◌∙◌, append_assoc, arith}
use Rattle.std.specs.List.{after_first}
use Rattle.std.proofs.lemmas.List.{append-nil, drop_at, length-append, length-take}
use Rattle.std.proofs.Math.Seq.{take-append-add}
use Rattle.text_lines.specs.declared.fault.TextFault.{TextFault}
use Rattle.text_lines.specs.declared.fault.TextFault.TheVariants.{Truncated, Trailing, BadLine}
use Rattle.text_lines.specs.declared.lines.TheConstants.{LONGEST_LINE}
use Rattle.text_lines.specs.FirstFault.{Due, HasFault, HasFeed, IsFaultAt, IsPlain, IsRight, AllRight, first_line, line_number}
use Rattle.text_lines.specs.LineTests.{LineTests, code_of}
use Rattle.text_lines.specs.Reading.{is_feed}
use Rattle.text_lines.specs.Texts.{line_of, lines_of}
use Rattle.text_lines.proofs.LineLaws.{feed_at, feed_ahead}

-- ---- the first line of bytes that begin with one

feed_behind : (line rest : List ℕ) → IsPlain line → feed_at (line_of line ++ rest) ≡ length line
unfolding line_of
feed_behind line rest plain =
    rw (append_assoc line (10 ∷ []) rest) (omega (arith, feed_ahead line (10 ∷ rest) plain))

has_feed : (line rest : List ℕ) → IsPlain line → HasFeed (line_of line ++ rest)
unfolding line_of
has_feed line rest plain = omega (arith, feed_behind line rest plain, length-append (line ++ 10 ∷ []) rest, length-append line (10 ∷ []))

first_is : (line rest : List ℕ) → IsPlain line → first_line (line_of line ++ rest) ≡ line
unfolding line_of
first_is line rest plain =
    let at = feed_behind line rest plain in
    rw (at, append_assoc line (10 ∷ []) rest) (ap (λ (n : ℕ). take n (line ++ 10 ∷ rest)) (omega arith) ∙ take-append-add line (10 ∷ rest) 0 ∙ append-nil line)

rest_is : (line rest : List ℕ) → IsPlain line → after_first is_feed (line_of line ++ rest) ≡ rest
unfolding line_of
rest_is line rest plain =
    let at = feed_behind line rest plain in
    rw at (drop_at (line ++ 10 ∷ []) rest (length line + 1) (omega (arith, length-append line (10 ∷ []))))

-- ---- what a right line rules out

right_plain : (tests : Option LineTests) (line : List ℕ) → IsRight tests line → IsPlain line
right_plain None line right = absurd right
right_plain (Some tests) line right = right.0

not_here : {P : Type 0} (tests : Option LineTests) (line rest : List ℕ) (number : ℕ) (fault : Option TextFault) → IsRight tests line → IsFaultAt tests number (line_of line ++ rest) fault → P
not_here None line rest number fault right found = absurd right
not_here (Some tests) line rest number None right found = absurd found
not_here (Some tests) line rest number (Some Trailing) right found = absurd found
not_here (Some tests) line rest number (Some Truncated) right found = absurd (omega (arith, found.0, has_feed line rest right.0))
not_here (Some tests) line rest number (Some (BadLine wrong code)) right found =
    let none : code_of tests (first_line (line_of line ++ rest)) ≡ None = rw (first_is line rest right.0) right.1 in
    absurd (cc (none, found.1))

-- ---- two faults of the same bytes

not_short : (bytes : List ℕ) → IsPlain bytes × (length bytes ≤ LONGEST_LINE) → HasFeed bytes ⊎ LONGEST_LINE < length (first_line bytes) → ⊥
not_short bytes p (inl fed) = omega (arith, p.0, fed)
not_short bytes p (inr long) = omega (arith, p.1, long, length-take (feed_at bytes) bytes)

same_end : (tests : Option LineTests) (number : ℕ) (bytes : List ℕ) (a b : Option TextFault) → IsFaultAt tests number bytes a → IsFaultAt tests number bytes b → a ≡ b
same_end None number bytes None None p q = refl
same_end None number bytes None (Some Trailing) p q = absurd (omega (arith, q, ap length p))
same_end None number bytes None (Some Truncated) p q = absurd q
same_end None number bytes None (Some (BadLine n c)) p q = absurd q
same_end None number bytes (Some Trailing) None p q = absurd (omega (arith, p, ap length q))
same_end None number bytes (Some Trailing) (Some Trailing) p q = refl
same_end None number bytes (Some Trailing) (Some Truncated) p q = absurd q
same_end None number bytes (Some Trailing) (Some (BadLine n c)) p q = absurd q
same_end None number bytes (Some Truncated) b p q = absurd p
same_end None number bytes (Some (BadLine n c)) b p q = absurd p
same_end (Some tests) number bytes None b p q = absurd p
same_end (Some tests) number bytes (Some Trailing) b p q = absurd p
same_end (Some tests) number bytes (Some Truncated) None p q = absurd q
same_end (Some tests) number bytes (Some Truncated) (Some Trailing) p q = absurd q
same_end (Some tests) number bytes (Some Truncated) (Some Truncated) p q = refl
same_end (Some tests) number bytes (Some Truncated) (Some (BadLine n c)) p q = absurd (not_short bytes p q.2)
same_end (Some tests) number bytes (Some (BadLine n c)) None p q = absurd q
same_end (Some tests) number bytes (Some (BadLine n c)) (Some Trailing) p q = absurd q
same_end (Some tests) number bytes (Some (BadLine n c)) (Some Truncated) p q = absurd (not_short bytes q p.2)
same_end (Some tests) number bytes (Some (BadLine n c)) (Some (BadLine m d)) p q =
    let code : c ≡ d = cc (p.1, q.1) in
    rw (p.0, q.0, code) refl

same_fault : (due : Due) (before others : List (List ℕ)) (rest left : List ℕ) (number count : ℕ) (a b : Option TextFault) → (before ≡ others → number ≡ count) → lines_of (λ line. line) before ++ rest ≡ lines_of (λ line. line) others ++ left
    → AllRight due before → AllRight due others → IsFaultAt (due before) number rest a → IsFaultAt (due others) count left b → a ≡ b
unfolding lines_of
same_fault due [] [] rest left number count a b same parts r s p q =
    same_end (due []) number rest a b p (rw (same refl, parts) q)
same_fault due [] (m ∷ ms) rest left number count a b same parts r s p q =
    let all : rest ≡ line_of m ++ (lines_of (λ line. line) ms ++ left) = parts ∙ append_assoc (line_of m) (lines_of (λ line. line) ms) left in
    not_here (due []) m (lines_of (λ line. line) ms ++ left) number a s.0 (rw all at p)
same_fault due (l ∷ ls) [] rest left number count a b same parts r s p q =
    let all : left ≡ line_of l ++ (lines_of (λ line. line) ls ++ rest) = sym parts ∙ append_assoc (line_of l) (lines_of (λ line. line) ls) rest in
    not_here (due []) l (lines_of (λ line. line) ls ++ rest) count b r.0 (rw all at q)
same_fault due (l ∷ ls) (m ∷ ms) rest left number count a b same parts r s p q =
    let xs = lines_of (λ line. line) ls ++ rest in
    let ys = lines_of (λ line. line) ms ++ left in
    let all : line_of l ++ xs ≡ line_of m ++ ys = sym (append_assoc (line_of l) (lines_of (λ line. line) ls) rest) ∙ parts ∙ append_assoc (line_of m) (lines_of (λ line. line) ms) left in
    let plain = right_plain (due []) l r.0 in
    let other = right_plain (due []) m s.0 in
    let first : m ≡ l = sym (first_is m ys other) ∙ ap first_line (sym all) ∙ first_is l xs plain in
    let rests : xs ≡ ys = sym (rest_is l xs plain) ∙ ap (after_first is_feed) all ∙ rest_is m ys other in
    same_fault (λ lines. due (l ∷ lines)) ls ms rest left number count a b (λ e. same (rw (e, first) refl)) rests r.1 (rw first at s.1) p (rw first at q)

pub one_fault : (due : Due) (bytes : List ℕ) (a b : Option TextFault) → HasFault due bytes a → HasFault due bytes b → a ≡ b
one_fault due bytes a b p q = same_fault due p.before q.before p.rest q.rest (line_number p.before) (line_number q.before) a b (ap line_number) (sym p.parts ∙ q.parts) p.right q.right p.found q.found
