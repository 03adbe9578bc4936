-- What lines are read as they were spelled: what is read is spelled so, and what is spelled so is read as itself.
use Rattle.std.proofs.Common.{◌≡◌, ℕ, zero, suc, ◌<◌, ◌≤◌, Bool, true, false, cond, eqb, ltb, List, [], ◌∷◌, ◌++◌, length, get_or, take, Result, Ok, Err, refl, sym, ap, subst, ◌∙◌, append_assoc, arith}
use Rattle.std.specs.List.{before_first, after_first}
use Rattle.std.specs.Str.{IsUtf8, is_utf8}
use Rattle.std.proofs.lemmas.Bool.{eqb-true, eqb-false}
use Rattle.std.proofs.lemmas.List.{append-nil}
use Rattle.std.proofs.lemmas.List.Sums.{split_at_first, passes_at_first}
use Rattle.text_lines.specs.declared.lines.TheConstants.{LONGEST_LINE}
use Rattle.text_lines.specs.declared.fault.LineCode.{LineCode}
use Rattle.text_lines.specs.declared.fault.LineCode.TheVariants.{TooLong, NotUtf8}
use Rattle.text_lines.specs.declared.fault.TextFault.{TextFault}
use Rattle.text_lines.specs.declared.fault.TextFault.TheVariants.{Truncated, BadLine}
use Rattle.text_lines.specs.Reading.{◌>>=◌, Cursor, AllFrom, line_at, is_feed, following, due, as_text, at_line, items_at}
use Rattle.text_lines.specs.Texts.{line_of, lines_of, AllAlong}
use Rattle.text_lines.proofs.LineLaws.{IsPlain, line_found, feed_at, feed_at-le}
use Rattle.text_lines.proofs.DueLaws.{due_ok}

-- the value of a step that did not fail
pub bind_ok : {A B E : Type 0} (r : Result A E) (f : A → Result B E) (y : B) → (r >>= f) ≡ Ok y → (x : A) × (r ≡ Ok x) × (f x ≡ Ok y)
bind_ok (Ok x) f y e = (x, refl, e)
bind_ok (Err d) f y e = absurd cc

abbrev done : {A E : Type 0} → A → Result A E
done x = Ok x

pub ok_is : {A E : Type 0} (x y : A) → done {A = A} {E = E} x ≡ Ok y → x ≡ y
ok_is {A} {E} x y e = cc

-- a test that passed, or that did not stop
pub guard_ok : {A E : Type 0} (b : Bool) (d : E) (r : Result A E) (y : A) → cond b r (Err d) ≡ Ok y → (b ≡ true) × (r ≡ Ok y)
guard_ok true d r y e = (refl, e)
guard_ok false d r y e = absurd cc

pub guard_not : {A E : Type 0} (b : Bool) (d : E) (r : Result A E) (y : A) → cond b (Err d) r ≡ Ok y → (b ≡ false) × (r ≡ Ok y)
guard_not true d r y e = absurd cc
guard_not false d r y e = (refl, e)

-- ---- one line

pub line_takes : (at rest : Cursor) (line : List ℕ) → line_at at ≡ Ok (line, rest) → at.bytes ≡ line_of line ++ rest.bytes
unfolding line_at line_of
line_takes at rest line e =
    let place = feed_at at.bytes in
    let after : Cursor = record { number = following at.number; bytes = after_first is_feed at.bytes } in
    let found : Result (List ℕ × Cursor) TextFault = Ok (before_first is_feed at.bytes, after) in
    let short = guard_not (ltb LONGEST_LINE place) (BadLine at.number TooLong) (cond (eqb place (length at.bytes)) (Err Truncated) found) (line, rest) e in
    let there = guard_not (eqb place (length at.bytes)) Truncated found (line, rest) short.1 in
    let same = ok_is {E = TextFault} (before_first is_feed at.bytes, after) (line, rest) there.1 in
    let lt : place < length at.bytes = omega (arith, eqb-false place (length at.bytes) there.0, feed_at-le at.bytes) in
    let feed : get_or at.bytes place 0 ≡ 10 = eqb-true (get_or at.bytes place 0) 10 (passes_at_first is_feed at.bytes 0 lt) in
    let split = split_at_first is_feed at.bytes 0 lt in
    let line-is : before_first is_feed at.bytes ≡ line = ap (λ (p : List ℕ × Cursor). p.0) same in
    let rest-is : after_first is_feed at.bytes ≡ rest.bytes = ap (λ (p : List ℕ × Cursor). p.1.bytes) same in
    split ∙ rw (feed, line-is, rest-is) (sym (append_assoc line (10 ∷ []) rest.bytes))

-- a line that may stand in a text
pub record IsLine (line : List ℕ) : Type 0 where
  pub plain : IsPlain line
  pub short : length line ≤ LONGEST_LINE
  pub text : IsUtf8 line

pub line_again : (number : ℕ) (line rest : List ℕ) → IsLine line → line_at (record { number = number; bytes = line_of line ++ rest }) ≡ Ok (line, record { number = following number; bytes = rest })
unfolding line_of
line_again number line rest is =
    let found = line_found number line (10 ∷ []) rest is.plain (omega arith) (omega (arith, is.short)) in
    rw append_assoc (rw append-nil at found)

pub due_takes : {A : Type 0} (read : List ℕ → Result A LineCode) (at rest : Cursor) (x : A) → due read at ≡ Ok (x, rest) → (line : List ℕ) × (read line ≡ Ok x) × (at.bytes ≡ line_of line ++ rest.bytes)
unfolding due
due_takes {A} read at rest x e =
    let a = bind_ok (line_at at) (λ line. at_line at.number (as_text read line.0) >>= λ y. Ok (y, line.1)) (x, rest) e in
    let b = bind_ok (at_line at.number (as_text read a.0.0)) (λ y. Ok (y, a.0.1)) (x, rest) a.2 in
    let same = ok_is {E = TextFault} (b.0, a.0.1) (x, rest) b.2 in
    let value : b.0 ≡ x = ap (λ (p : A × Cursor). p.0) same in
    let place : a.0.1 ≡ rest = ap (λ (p : A × Cursor). p.1) same in
    let text = guard_ok (is_utf8 a.0.0) NotUtf8 (read a.0.0) b.0 (as_text_ok at.number (as_text read a.0.0) b.0 b.1) in
    (a.0.0, text.1 ∙ ap (λ (v : A). Ok v) value, subst (λ (c : Cursor). at.bytes ≡ line_of a.0.0 ++ c.bytes) place (line_takes at a.0.1 a.0.0 a.1))
  where
    as_text_ok : {B : Type 0} (number : ℕ) (r : Result B LineCode) (y : B) → at_line number r ≡ Ok y → r ≡ Ok y
    as_text_ok number (Ok z) y e = cc
    as_text_ok number (Err d) y e = absurd cc

pub due_again : {A : Type 0} (read : List ℕ → Result A LineCode) (number : ℕ) (line rest : List ℕ) (x : A) → IsLine line → read line ≡ Ok x
    → due read (record { number = number; bytes = line_of line ++ rest }) ≡ Ok (x, record { number = following number; bytes = rest })
due_again read number line rest x is good =
    due_ok read _ _ line x (line_again number line rest is) is.text good

-- ---- lines of one form

-- how lines of a form are read and how items are spelled belong together
pub record Spells {A : Type 0} (read : List A → List ℕ → Result A LineCode) (fits : List A → A → Type 0) (spell : A → List ℕ) : Type 0 where
  pub sound : (before : List A) (line : List ℕ) (x : A) → read before line ≡ Ok x → fits before x × (line ≡ spell x)
  pub complete : (before : List A) (x : A) → fits before x → read before (spell x) ≡ Ok x
  pub lines : (before : List A) (x : A) → fits before x → IsLine (spell x)

pub item_takes : {A : Type 0} (read : List A → List ℕ → Result A LineCode) (fits : List A → A → Type 0) (spell : A → List ℕ) (spells : Spells read fits spell) (before : List A) (at rest : Cursor) (x : A)
    → due (read before) at ≡ Ok (x, rest) → fits before x × (at.bytes ≡ line_of (spell x) ++ rest.bytes)
item_takes read fits spell spells before at rest x e =
    let t = due_takes (read before) at rest x e in
    let s = spells.sound before t.0 x t.1 in
    (s.0, t.2 ∙ ap (λ (line : List ℕ). line_of line ++ rest.bytes) s.1)

pub item_again : {A : Type 0} (read : List A → List ℕ → Result A LineCode) (fits : List A → A → Type 0) (spell : A → List ℕ) (spells : Spells read fits spell) (before : List A) (number : ℕ) (rest : List ℕ) (x : A)
    → fits before x → due (read before) (record { number = number; bytes = line_of (spell x) ++ rest }) ≡ Ok (x, record { number = following number; bytes = rest })
item_again read fits spell spells before number rest x good =
    due_again (read before) number (spell x) rest x (spells.lines before x good) (spells.complete before x good)

-- what so many lines are read as
pub record TakesItems {A : Type 0} (fits : List A → A → Type 0) (spell : A → List ℕ) (n : ℕ) (before read_now xs : List A) (bytes rest : List ℕ) : Type 0 where
  pub behind : read_now ≡ before ++ xs
  pub count : length xs ≡ n
  pub along : AllAlong fits before xs
  pub parts : bytes ≡ lines_of spell xs ++ rest

pub items_takes : {A : Type 0} (read : List A → List ℕ → Result A LineCode) (fits : List A → A → Type 0) (spell : A → List ℕ) (spells : Spells read fits spell) (n : ℕ) (before read_now : List A) (at rest : Cursor)
    → items_at read n before at ≡ Ok (read_now, rest) → (xs : List A) × TakesItems fits spell n before read_now xs at.bytes rest.bytes
unfolding items_at lines_of
items_takes {A} read fits spell spells zero before read_now at rest e =
    let same = ok_is {E = TextFault} (before, at) (read_now, rest) e in
    let items : before ≡ read_now = ap (λ (p : List A × Cursor). p.0) same in
    let place : at ≡ rest = ap (λ (p : List A × Cursor). p.1) same in
    ([], record { behind = sym items ∙ sym (append-nil before); count = refl; along = tt; parts = ap (λ (c : Cursor). c.bytes) place })
items_takes {A} read fits spell spells (suc n) before read_now at rest e =
    let a = bind_ok (due (read before) at) (λ x. items_at read n (before ++ x.0 ∷ []) x.1) (read_now, rest) e in
    let first = item_takes read fits spell spells before at a.0.1 a.0.0 a.1 in
    let others = items_takes read fits spell spells n (before ++ a.0.0 ∷ []) read_now a.0.1 rest a.2 in
    let t = others.1 in (
      a.0.0 ∷ others.0,
      record {
        behind = t.behind ∙ append_assoc before (a.0.0 ∷ []) others.0;
        count = ap suc t.count;
        along = (first.0, t.along);
        parts = first.1 ∙ ap (λ (bs : List ℕ). line_of (spell a.0.0) ++ bs) t.parts ∙ sym (append_assoc (line_of (spell a.0.0)) (lines_of spell others.0) rest.bytes);
      },
    )

pub items_again : {A : Type 0} (read : List A → List ℕ → Result A LineCode) (fits : List A → A → Type 0) (spell : A → List ℕ) (spells : Spells read fits spell) (before xs : List A) (number : ℕ) (rest : List ℕ)
    → AllAlong fits before xs → (m : ℕ) × (items_at read (length xs) before (record { number = number; bytes = lines_of spell xs ++ rest }) ≡ Ok (before ++ xs, record { number = m; bytes = rest }))
unfolding items_at lines_of
items_again {A} read fits spell spells before [] number rest along =
    let here : Cursor = record { number = number; bytes = rest } in
    let end : Result (List A × Cursor) TextFault = Ok (before ++ [], here) in
    (number, subst (λ (xs : List A). items_at read 0 before here ≡ Ok (xs, here)) (sym (append-nil before)) refl)
items_again {A} read fits spell spells before (x ∷ xs) number rest along =
    let first = item_again read fits spell spells before number (lines_of spell xs ++ rest) x along.0 in
    let others = items_again read fits spell spells (before ++ x ∷ []) xs (following number) rest along.1 in
    (others.0, rw append_assoc (rw first (others.1 ∙ ap (λ (ys : List A). Ok (ys, record { number = others.0; bytes = rest })) (append_assoc before (x ∷ []) xs))))

-- what was read from lines fits
pub along_from : {A : Type 0} (read : List A → List ℕ → Result A LineCode) (fits : List A → A → Type 0) (spell : A → List ℕ) (spells : Spells read fits spell) (before xs : List A) → AllFrom read before xs → AllAlong fits before xs
along_from read fits spell spells before [] all = tt
along_from read fits spell spells before (x ∷ xs) all =
    ((spells.sound before all.0.0 x all.0.1).0, along_from read fits spell spells (before ++ x ∷ []) xs all.1)

-- ---- a fact of each item with those before it, and by places

pub along_at : {A : Type 0} (P : List A → A → Type 0) (before xs : List A) (d : A) (k : ℕ) → AllAlong P before xs → k < length xs → P (before ++ take k xs) (get_or xs k d)
along_at P before [] d k all lt = absurd (omega arith)
along_at {A} P before (x ∷ xs) d zero all lt = subst (λ (b : List A). P b x) (sym (append-nil before)) all.0
along_at {A} P before (x ∷ xs) d (suc k) all lt =
    subst (λ (b : List A). P b (get_or xs k d)) (append_assoc before (x ∷ []) (take k xs)) (along_at P (before ++ x ∷ []) xs d k all.1 (omega arith))

pub along_from_at : {A : Type 0} (P : List A → A → Type 0) (before xs : List A) (d : A) → ((k : ℕ) → k < length xs → P (before ++ take k xs) (get_or xs k d)) → AllAlong P before xs
along_from_at P before [] d at = tt
along_from_at {A} P before (x ∷ xs) d at =
    (subst (λ (b : List A). P b x) (append-nil before) (at 0 (omega arith)), along_from_at P (before ++ x ∷ []) xs d (λ k lt. subst (λ (b : List A). P b (get_or xs k d)) (sym (append_assoc before (x ∷ []) (take k xs))) (at (suc k) (omega arith))))
