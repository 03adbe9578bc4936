-- The first fault of a text is the one that reading line by line meets.
use Rattle.std.proofs.Common.{◌≡◌, ℕ, zero, suc, ◌+◌, ◌-◌, ◌^◌, ◌<◌, ◌≤◌, Bool, true, false, eqb, ltb, min, List, [], ◌∷◌, ◌++◌, length, drop, Option, None, Some, Result, Ok, Err, inl, inr, refl, sym, ap, subst, ◌∙◌, append_assoc, arith}
use Rattle.std.specs.List.{before_first, after_first}
use Rattle.std.specs.Str.{is_utf8}
use Rattle.std.proofs.lemmas.Bool.{cases_eq, eqb-true, eqb-false, ltb-true, ltb-false, le-leb, lt-leb}
use Rattle.std.proofs.lemmas.List.{length-take, nil_from_length, take-append-drop}
use Rattle.text_lines.specs.declared.lines.TheConstants.{LONGEST_LINE}
use Rattle.text_lines.specs.declared.fault.LineCode.{LineCode}
use Rattle.text_lines.specs.declared.fault.LineCode.TheVariants.{TooLong, NotUtf8}
use Rattle.text_lines.specs.declared.fault.TextFault.{TextFault}
use Rattle.text_lines.specs.declared.fault.TextFault.TheVariants.{Truncated, Trailing, BadLine}
use Rattle.text_lines.specs.FirstFault.{Due, HasFault, HasFeed, IsFaultAt, IsPlain, IsRight, AllRight, first_line, line_number, line_then, lines_then, no_line}
use Rattle.text_lines.specs.LineTests.{LineTests, code_of, first_of, unless}
use Rattle.text_lines.specs.Reading.{◌>>=◌, Cursor, line_at, is_feed, following, due, as_text, at_line, items_at, end_at}
use Rattle.text_lines.specs.Texts.{line_of, lines_of}
use Rattle.text_lines.proofs.LineLaws.{feed_at, feed_at-le, feed_stops}
use Rattle.text_lines.proofs.TextLaws.{line_takes}

pub by_test : {P : Type 0} (b : Bool) → (b ≡ true → P) → (b ≡ false → P) → P
by_test true h k = h refl
by_test false h k = k refl

-- ---- faults behind some lines, with the number of the line that is due

abbrev number_behind : ℕ → List (List ℕ) → ℕ
number_behind number [] = number
number_behind number (line ∷ lines) = number_behind (following number) lines

pub record FaultFrom (due : Due) (at : Cursor) (fault : Option TextFault) : Type 0 where
  pub before : List (List ℕ)
  pub rest : List ℕ
  pub parts : at.bytes ≡ lines_of (λ line. line) before ++ rest
  pub right : AllRight due before
  pub found : IsFaultAt (due before) (number_behind at.number before) rest fault

fault_here : (due : Due) (at : Cursor) (fault : Option TextFault) → IsFaultAt (due []) at.number at.bytes fault → FaultFrom due at fault
unfolding lines_of
fault_here due at fault found = record { before = []; rest = at.bytes; parts = refl; right = tt; found = found }

fault_behind : (due : Due) (at rest : Cursor) (line : List ℕ) (fault : Option TextFault) → IsRight (due []) line → at.bytes ≡ line_of line ++ rest.bytes → rest.number ≡ following at.number
    → FaultFrom (λ others. due (line ∷ others)) rest fault → FaultFrom due at fault
unfolding lines_of
fault_behind due at rest line fault right parts number w = record {
  before = line ∷ w.before;
  rest = w.rest;
  parts = parts ∙ ap (λ (t : List ℕ). line_of line ++ t) w.parts ∙ sym (append_assoc (line_of line) (lines_of (λ l. l) w.before) w.rest);
  right = (right, w.right);
  found = subst (λ (n : ℕ). IsFaultAt (due (line ∷ w.before)) (number_behind n w.before) w.rest fault) number w.found;
}

-- ---- a reader goes along with what is due

abbrev pub Outcome : {A : Type 0} → Result (A × Cursor) TextFault → Cursor → (A → Due) → Due → Type 0
Outcome (Ok p) at then due = (fault : Option TextFault) → FaultFrom (then p.0) p.1 fault → FaultFrom due at fault
Outcome (Err fault) at then due = FaultFrom due at (Some fault)

abbrev pub Tracks : {A : Type 0} → (Cursor → Result (A × Cursor) TextFault) → ((A → Due) → Due) → Type 0
Tracks {A} read shape = (then : A → Due) (at : Cursor) → Outcome (read at) at then (shape then)

pub tracks_done : {A : Type 0} (x : A) → Tracks (λ at. Ok (x, at)) (λ then. then x)
tracks_done x then at = λ fault w. w

goes_on : {A : Type 0} (at rest : Cursor) (then : A → Due) (mid due : Due) → ((fault : Option TextFault) → FaultFrom mid rest fault → FaultFrom due at fault) → (q : Result (A × Cursor) TextFault)
    → Outcome q rest then mid → Outcome q at then due
goes_on at rest then mid due back (Ok p) h = λ fault w. back fault (h fault w)
goes_on at rest then mid due back (Err fault) h = back (Some fault) h

after_step : {A B : Type 0} (g : A → Cursor → Result (B × Cursor) TextFault) (mid : A → Due) (then : B → Due) (at : Cursor) (due : Due) → ((x : A) (next : Cursor) → Outcome (g x next) next then (mid x))
    → (q : Result (A × Cursor) TextFault) → Outcome q at mid due → Outcome (q >>= λ p. g p.0 p.1) at then due
after_step g mid then at due k (Ok p) h = goes_on at p.1 then (mid p.0) due h (g p.0 p.1) (k p.0 p.1)
after_step g mid then at due k (Err fault) h = h

pub tracks_then : {A B : Type 0} (r : Cursor → Result (A × Cursor) TextFault) (s : (A → Due) → Due) (g : A → Cursor → Result (B × Cursor) TextFault) (t : A → (B → Due) → Due)
    → Tracks r s → ((x : A) → Tracks (g x) (t x)) → Tracks (λ at. r at >>= λ p. g p.0 p.1) (λ then. s (λ x. t x then))
tracks_then r s g t h k then at = after_step g (λ x. t x then) then at (s (λ x. t x then)) (λ x next. k x then next) (r at) (h (λ x. t x then) at)

-- the same, where what is read makes no difference to what is due behind it
abbrev pub Follows : {A : Type 0} → (Cursor → Result (A × Cursor) TextFault) → (Due → Due) → Type 0
Follows {A} read shape = (then : Due) (at : Cursor) → Outcome (read at) at (λ (x : A). then) (shape then)

pub follows_done : {A : Type 0} (x : A) → Follows (λ at. Ok (x, at)) (λ then. then)
follows_done x then at = λ fault w. w

pub follows_from : {A : Type 0} (r : Cursor → Result (A × Cursor) TextFault) (s : (A → Due) → Due) → Tracks r s → Follows r (λ then. s (λ x. then))
follows_from r s h then at = h (λ x. then) at

pub follows_tracked : {A B : Type 0} (r : Cursor → Result (A × Cursor) TextFault) (s : (A → Due) → Due) (g : A → Cursor → Result (B × Cursor) TextFault) (t : A → Due → Due)
    → Tracks r s → ((x : A) → Follows (g x) (t x)) → Follows (λ at. r at >>= λ p. g p.0 p.1) (λ then. s (λ x. t x then))
follows_tracked r s g t h k then at = after_step g (λ x. t x then) (λ y. then) at (s (λ x. t x then)) (λ x next. k x then next) (r at) (h (λ x. t x then) at)

pub follows_then : {A B : Type 0} (r : Cursor → Result (A × Cursor) TextFault) (s : Due → Due) (g : A → Cursor → Result (B × Cursor) TextFault) (t : Due → Due)
    → Follows r s → ((x : A) → Follows (g x) t) → Follows (λ at. r at >>= λ p. g p.0 p.1) (λ then. s (t then))
follows_then r s g t h k then at = after_step g (λ x. t then) (λ y. then) at (s (t then)) (λ x next. k x then next) (r at) (h (t then) at)

-- ---- the line that is due

abbrev LineCase : Cursor → Result (List ℕ × Cursor) TextFault → Type 0
LineCase at (Ok p) = (at.bytes ≡ line_of p.0 ++ p.1.bytes) × (p.1.number ≡ following at.number) × (first_line at.bytes ≡ p.0) × HasFeed at.bytes × (length p.0 ≤ LONGEST_LINE)
LineCase at (Err Trailing) = ⊥
LineCase at (Err Truncated) = IsPlain at.bytes × (length at.bytes ≤ LONGEST_LINE)
LineCase at (Err (BadLine number code)) = (number ≡ at.number) × (code ≡ TooLong) × (LONGEST_LINE < length (first_line at.bytes))

first_line_length : (bytes : List ℕ) → length (first_line bytes) ≡ feed_at bytes
first_line_length bytes = omega (arith, length-take (feed_at bytes) bytes, feed_at-le bytes)

line_case : (at : Cursor) → LineCase at (line_at at)
unfolding line_at
line_case at =
    let place = feed_at at.bytes in
    let size = first_line_length at.bytes in
    by_test (ltb LONGEST_LINE place) (λ long. rw long (refl, refl, omega (arith, size, ltb-true _ _ long))) (λ short.
    by_test (eqb place (length at.bytes)) (λ ended. rw (short, ended) (eqb-true _ _ ended, omega (arith, ltb-false _ _ short, eqb-true _ _ ended))) (λ goes.
    let rest : Cursor = record { number = following at.number; bytes = after_first is_feed at.bytes } in
    let there : line_at at ≡ Ok (before_first is_feed at.bytes, rest) = rw (short, goes) refl in
    rw (short, goes) (line_takes at rest (before_first is_feed at.bytes) there, refl, refl, omega (arith, feed_at-le at.bytes, eqb-false _ _ goes), omega (arith, size, ltb-false _ _ short))))

-- ---- what a line reads as, and the first code that applies to it

abbrev pub IsAgreed : {A : Type 0} → Result A LineCode → Option LineCode → A → Type 0
IsAgreed (Ok x) code item = (code ≡ None) × (item ≡ x)
IsAgreed (Err wrong) code item = code ≡ Some wrong

-- a line is read as the item, where no code applies to it
abbrev pub Agrees : {A : Type 0} → (List ℕ → Result A LineCode) → LineTests → (List ℕ → A) → Type 0
Agrees read tests item = (line : List ℕ) → IsAgreed (read line) (first_of (tests line)) (item line)

line_plain : (bytes : List ℕ) → IsPlain (first_line bytes)
line_plain bytes =
    let first = first_line bytes in
    let size = first_line_length bytes in
    elim (cases_eq (feed_at first) (length first)) [
      | inl same ↦ same
      | inr other ↦
          let stops = feed_stops first (drop (feed_at bytes) bytes) (omega (arith, feed_at-le first, other)) in
          let all : feed_at bytes ≡ feed_at first = ap feed_at (sym (take-append-drop (feed_at bytes) bytes)) ∙ stops in
          absurd (omega (arith, all, size, feed_at-le first, other))
    ]

short_code : (tests : LineTests) (line : List ℕ) → length line ≤ LONGEST_LINE → code_of tests line ≡ unless (is_utf8 line) NotUtf8 (first_of (tests line))
short_code tests line short = rw (le-leb (length line) LONGEST_LINE short) refl

long_code : (tests : LineTests) (line : List ℕ) → LONGEST_LINE < length line → code_of tests line ≡ Some TooLong
long_code tests line long = rw (lt-leb (length line) LONGEST_LINE long) refl

read_case : {A : Type 0} (tests : LineTests) (f : List ℕ → A) (then : A → Due) (at rest : Cursor) (line : List ℕ) → LineCase at (Ok (line, rest)) → is_utf8 line ≡ true
    → (r : Result A LineCode) → IsAgreed r (first_of (tests line)) (f line) → Outcome (at_line at.number r >>= λ x. Ok (x, rest)) at then (line_then tests (λ l. then (f l)))
read_case tests f then at rest line c text (Ok x) agreed = λ fault w.
    let plain : IsPlain line = subst (λ (l : List ℕ). IsPlain l) c.2 (line_plain at.bytes) in
    let right : code_of tests line ≡ None = short_code tests line c.4 ∙ rw text agreed.0 in
    fault_behind (line_then tests (λ l. then (f l))) at rest line fault (plain, right) c.0 c.1 (rw agreed.1 w)
read_case tests f then at rest line c text (Err wrong) agreed =
    let code : code_of tests (first_line at.bytes) ≡ Some wrong = rw c.2 (short_code tests line c.4 ∙ rw text agreed) in
    fault_here (line_then tests (λ l. then (f l))) at (Some (BadLine at.number wrong)) (refl, code, inl c.3)

due_case : {A : Type 0} (read : List ℕ → Result A LineCode) (tests : LineTests) (f : List ℕ → A) (then : A → Due) (at : Cursor) → Agrees read tests f
    → (q : Result (List ℕ × Cursor) TextFault) → LineCase at q
    → Outcome (q >>= λ line. at_line at.number (as_text read line.0) >>= λ x. Ok (x, line.1)) at then (line_then tests (λ l. then (f l)))
due_case read tests f then at agrees (Err Trailing) c = absurd c
due_case read tests f then at agrees (Err Truncated) c = fault_here (line_then tests (λ l. then (f l))) at (Some Truncated) c
due_case read tests f then at agrees (Err (BadLine number code)) c =
    let long : code_of tests (first_line at.bytes) ≡ Some code = long_code tests (first_line at.bytes) c.2 ∙ ap Some (sym c.1) in
    fault_here (line_then tests (λ l. then (f l))) at (Some (BadLine number code)) (c.0, long, inr c.2)
due_case read tests f then at agrees (Ok p) c =
    by_test (is_utf8 p.0) (λ text. rw text (read_case tests f then at p.1 p.0 c text (read p.0) (agrees p.0))) (λ other.
    let code : code_of tests (first_line at.bytes) ≡ Some NotUtf8 = rw c.2 (short_code tests p.0 c.4 ∙ rw other refl) in
    rw other (fault_here (line_then tests (λ l. then (f l))) at (Some (BadLine at.number NotUtf8)) (refl, code, inl c.3)))

pub tracks_due : {A : Type 0} (read : List ℕ → Result A LineCode) (tests : LineTests) (f : List ℕ → A) → Agrees read tests f → Tracks (due read) (λ then. line_then tests (λ line. then (f line)))
unfolding due
tracks_due read tests f agrees then at = due_case read tests f then at agrees (line_at at) (line_case at)

-- ---- many lines

pub tracks_items : {A : Type 0} (read : List A → List ℕ → Result A LineCode) (tests : List A → LineTests) (f : List ℕ → A) → ((before : List A) → Agrees (read before) (tests before) f)
    → (n : ℕ) (before : List A) → Tracks (items_at read n before) (λ then. lines_then tests f n before then)
unfolding items_at
tracks_items read tests f agrees zero before = tracks_done before
tracks_items {A} read tests f agrees (suc n) before =
    tracks_then (due (read before)) (λ then. line_then (tests before) (λ line. then (f line))) (λ x. items_at read n (before ++ x ∷ [])) (λ x then. lines_then tests f n (before ++ x ∷ []) then)
    (tracks_due (read before) (tests before) f (agrees before)) (λ x. tracks_items read tests f agrees n (before ++ x ∷ []))

-- ---- the end

-- the fault that reading met
abbrev pub fault_in : {A : Type 0} → Result A TextFault → Option TextFault
fault_in (Ok x) = None
fault_in (Err fault) = Some fault

pub end_found : {A : Type 0} (x : A) (at : Cursor) → FaultFrom no_line at (fault_in (end_at at >>= λ end. Ok x))
unfolding end_at
end_found x at =
    by_test (eqb (length at.bytes) 0) (λ none. rw none (fault_here no_line at None (nil_from_length at.bytes (eqb-true (length at.bytes) 0 none)))) (λ some.
    rw some (fault_here no_line at (Some Trailing) (omega (arith, eqb-false (length at.bytes) 0 some))))

pub found_behind : {A B : Type 0} (mid : A → Due) (due : Due) (at : Cursor) (w : A → Cursor → Result B TextFault) (q : Result (A × Cursor) TextFault) → Outcome q at mid due
    → ((x : A) (next : Cursor) → FaultFrom (mid x) next (fault_in (w x next))) → FaultFrom due at (fault_in (q >>= λ p. w p.0 p.1))
found_behind mid due at w (Ok p) h k = h (fault_in (w p.0 p.1)) (k p.0 p.1)
found_behind mid due at w (Err fault) h k = h

-- ---- from the first byte on

numbers_behind : (number : ℕ) (lines : List (List ℕ)) → number ≤ 2 ^ 64 - 1 → number_behind number lines ≡ min (length lines + number) (2 ^ 64 - 1)
numbers_behind number [] small = omega (arith, small)
numbers_behind number (line ∷ lines) small = numbers_behind (following number) lines (omega arith) ∙ omega (arith, small)

pub fault_of : (due : Due) (at : Cursor) (fault : Option TextFault) → at.number ≡ 1 → FaultFrom due at fault → HasFault due at.bytes fault
fault_of due at fault first w = record {
  before = w.before;
  rest = w.rest;
  parts = w.parts;
  right = w.right;
  found =
      let number : number_behind at.number w.before ≡ line_number w.before = ap (λ (n : ℕ). number_behind n w.before) first ∙ numbers_behind 1 w.before (omega arith) in
      subst (λ (n : ℕ). IsFaultAt (due w.before) n w.rest fault) number w.found;
}
