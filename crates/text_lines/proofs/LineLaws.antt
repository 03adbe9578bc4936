-- The line that is due, found piece by piece.
use Rattle.std.proofs.Common.{◌≡◌, ℕ, ◌+◌, ◌-◌, ◌<◌, ◌≤◌, Bool, true, false, cond, eqb, ltb, List, [], ◌++◌, length, take, drop, Ok, Err, inl, inr, refl, sym, ap, ◌∙◌, append_assoc, arith}
use Rattle.std.specs.Prelude.{slice_range}
use Rattle.std.specs.List.{position_or_len}
use Rattle.std.proofs.lemmas.Bool.{eq-eqb, ne_eqb, ltb-true, ltb-false, le-ltb, lt-ltb, cases_eq}
use Rattle.std.proofs.lemmas.List.{append-nil, drop-take, drop-drop, drop_at, drop_all, take_all, drop-append-le, take-append-le, length-append, length-take, nil_from_length}
use Rattle.std.proofs.lemmas.List.Sums.{prefix_len-le-length}
use Rattle.std.proofs.lemmas.List.Folds.{prefix_len-append}
use Rattle.std.proofs.Math.Seq.{take-append-add}
use Rattle.text_lines.specs.declared.lines.TheConstants.{LONGEST_LINE}
use Rattle.text_lines.specs.declared.fault.LineCode.TheVariants.{TooLong}
use Rattle.text_lines.specs.declared.fault.TextFault.TheVariants.{Truncated, BadLine}
use Rattle.text_lines.specs.declared.fault.ReadError.{ReadError}
use Rattle.text_lines.specs.declared.fault.ReadError.TheVariants as errors
use Rattle.text_lines.specs.Reading.{LinesValue, Fails, IsPieceError, line_at, is_feed, following}

-- a part of a part
pub rest_is : (xs : List ℕ) (i j n : ℕ) → i + n ≤ j → slice_range xs (i + n) j ≡ drop n (slice_range xs i j)
rest_is xs i j n le =
    let k : j - i ≡ n + (j - (i + n)) = omega arith in
    sym (rw (k, drop-take n (j - (i + n)) (drop i xs)) (ap (take (j - (i + n))) (drop-drop n i xs)))

abbrev pub feed_at : List ℕ → ℕ
feed_at xs = position_or_len is_feed xs

-- no line feed is in it
abbrev pub IsPlain : List ℕ → Type 0
IsPlain xs = feed_at xs ≡ length xs

pub feed_at-le : (xs : List ℕ) → feed_at xs ≤ length xs
feed_at-le xs = prefix_len-le-length _ xs

-- behind a plain front the first line feed is that of the rest
pub feed_ahead : (line xs : List ℕ) → IsPlain line → feed_at (line ++ xs) ≡ length line + feed_at xs
feed_ahead line xs plain =
    let same : eqb (feed_at line) (length line) ≡ true = eq-eqb _ _ plain in
    prefix_len-append _ line xs ∙ rw same refl

pub feed_stops : (xs ys : List ℕ) → feed_at xs < length xs → feed_at (xs ++ ys) ≡ feed_at xs
feed_stops xs ys lt =
    let other : eqb (feed_at xs) (length xs) ≡ false = ne_eqb _ _ (omega arith) in
    prefix_len-append _ xs ys ∙ rw other refl

feed_least : (xs ys : List ℕ) → feed_at xs ≤ feed_at (xs ++ ys)
feed_least xs ys =
    elim (cases_eq (feed_at xs) (length xs)) [
      | inl same ↦ omega (arith, feed_ahead xs ys same)
      | inr other ↦ omega (arith, feed_stops xs ys (omega (arith, feed_at-le xs, other)))
    ]

pub piece_plain : (line xs : List ℕ) → IsPlain line → IsPlain xs → IsPlain (line ++ xs)
piece_plain line xs plain piece = omega (arith, feed_ahead line xs plain, length-append line xs)

pub line_found : (number : ℕ) (line xs left : List ℕ) → IsPlain line → feed_at xs < length xs → length line + feed_at xs ≤ LONGEST_LINE
    → line_at (record { number = number; bytes = line ++ (xs ++ left) }) ≡ Ok (line ++ take (feed_at xs) xs, record { number = following number; bytes = drop (feed_at xs + 1) xs ++ left })
unfolding line_at
line_found number line xs left plain lt fits =
    let at : feed_at (line ++ (xs ++ left)) ≡ length line + feed_at xs = feed_ahead line (xs ++ left) plain ∙ ap (λ (n : ℕ). length line + n) (feed_stops xs left lt) in
    let short : ltb LONGEST_LINE (length line + feed_at xs) ≡ false = le-ltb _ _ fits in
    let there : eqb (length line + feed_at xs) (length (line ++ (xs ++ left))) ≡ false = ne_eqb _ _ (omega (arith, length-append line (xs ++ left), length-append xs left)) in
    let front : take (length line + feed_at xs) (line ++ (xs ++ left)) ≡ line ++ take (feed_at xs) xs = take-append-add line (xs ++ left) (feed_at xs) ∙ ap (λ (t : List ℕ). line ++ t) (take-append-le (feed_at xs) xs left (omega arith)) in
    let rest : drop (length line + feed_at xs + 1) (line ++ (xs ++ left)) ≡ drop (feed_at xs + 1) xs ++ left = ap (λ (n : ℕ). drop n (line ++ (xs ++ left))) (omega arith) ∙ sym (drop-drop (feed_at xs + 1) (length line) (line ++ (xs ++ left))) ∙ ap (drop (feed_at xs + 1)) (drop_at line (xs ++ left) (length line) refl) ∙ drop-append-le (feed_at xs + 1) xs left (omega arith) in
    rw (at, short, there, front, rest) refl

pub line_long : (number : ℕ) (line xs left : List ℕ) → IsPlain line → LONGEST_LINE < length line + feed_at xs
    → line_at (record { number = number; bytes = line ++ (xs ++ left) }) ≡ Err (BadLine number TooLong)
unfolding line_at
line_long number line xs left plain long =
    let past : ltb LONGEST_LINE (feed_at (line ++ (xs ++ left))) ≡ true = lt-ltb _ _ (omega (arith, feed_ahead line (xs ++ left) plain, feed_least xs left)) in
    rw past refl

pub line_truncated : (number : ℕ) (line : List ℕ) → IsPlain line → length line ≤ LONGEST_LINE → line_at (record { number = number; bytes = line }) ≡ Err Truncated
unfolding line_at
line_truncated number line plain fits =
    let short : ltb LONGEST_LINE (feed_at line) ≡ false = le-ltb _ _ (omega (arith, plain)) in
    let ended : eqb (feed_at line) (length line) ≡ true = eq-eqb _ _ plain in
    rw (short, ended) refl

-- ---- the same, for the values before and after a piece was taken

pub truncated_at : (number : ℕ) (line bytes : List ℕ) → IsPlain line → length line ≤ LONGEST_LINE → line ++ [] ≡ bytes → line_at (record { number = number; bytes = bytes }) ≡ Err Truncated
truncated_at number line bytes plain fits all =
    let whole : line ≡ bytes = sym (append-nil line) ∙ all in
    rw (← whole) (line_truncated number line plain fits)

-- nothing is left where nothing stands in all
pub none_left : (unread left bytes : List ℕ) → unread ++ left ≡ bytes → bytes ≡ [] → left ≡ []
none_left unread left bytes all none = nil_from_length left (omega (arith, ap length (all ∙ none), length-append unread left))

pub piece_fails : (lines : LinesValue) (e : ReadError) (number : ℕ) (bytes left : List ℕ) → IsPieceError lines e → IsPlain lines.line → lines.number ≡ number → lines.line ++ (lines.unread ++ left) ≡ bytes
    → Fails e (line_at (record { number = number; bytes = bytes }))
piece_fails lines errors.Memory number bytes left why plain same all = tt
piece_fails lines errors.ReadFault number bytes left why plain same all = tt
piece_fails lines (errors.Text fault) number bytes left why plain same all =
    rw (why.0, same, ← all) (line_long number lines.line lines.unread left plain why.1)

-- what taking a piece leaves
pub record TakesPiece (old now : LinesValue) (found : Bool) : Type 0 where
  pub ends : found ≡ ltb (feed_at old.unread) (length old.unread)
  pub line : now.line ≡ old.line ++ take (feed_at old.unread) old.unread
  pub rest : now.unread ≡ drop (feed_at old.unread + 1) old.unread
  pub number : now.number ≡ cond found (following old.number) old.number
  pub fits : length now.line ≤ LONGEST_LINE

pub piece_ends : (old now : LinesValue) (found : Bool) (number : ℕ) (bytes left : List ℕ) → TakesPiece old now found → found ≡ true → IsPlain old.line → old.number ≡ number → old.line ++ (old.unread ++ left) ≡ bytes
    → line_at (record { number = number; bytes = bytes }) ≡ Ok (now.line, record { number = now.number; bytes = now.unread ++ left })
piece_ends old now found number bytes left takes there plain same all =
    let lt : feed_at old.unread < length old.unread = ltb-true _ _ (sym takes.ends ∙ there) in
    let fits : length old.line + feed_at old.unread ≤ LONGEST_LINE = omega (arith, takes.fits, ap length takes.line, length-append old.line (take (feed_at old.unread) old.unread), length-take (feed_at old.unread) old.unread) in
    let count : now.number ≡ following number = takes.number ∙ rw (there, same) refl in
    rw (← all, takes.line, takes.rest, count) (line_found number old.line old.unread left plain lt fits)

pub piece_whole : (old now : LinesValue) (found : Bool) → TakesPiece old now found → found ≡ false → feed_at old.unread ≡ length old.unread
piece_whole old now found takes absent = omega (arith, ltb-false _ _ (sym takes.ends ∙ absent), feed_at-le old.unread)

pub piece_line : (old now : LinesValue) (found : Bool) → TakesPiece old now found → found ≡ false → now.line ≡ old.line ++ old.unread
piece_line old now found takes absent = takes.line ∙ ap (λ (xs : List ℕ). old.line ++ xs) (take_all (feed_at old.unread) old.unread (omega (arith, piece_whole old now found takes absent)))

pub piece_stays_plain : (old now : LinesValue) (found : Bool) → TakesPiece old now found → found ≡ false → IsPlain old.line → IsPlain now.line
piece_stays_plain old now found takes absent plain = rw (piece_line old now found takes absent) (piece_plain old.line old.unread plain (piece_whole old now found takes absent))

pub piece_keeps : (old now : LinesValue) (found : Bool) (left bytes : List ℕ) → TakesPiece old now found → found ≡ false → old.line ++ (old.unread ++ left) ≡ bytes → now.line ++ (now.unread ++ left) ≡ bytes
piece_keeps old now found left bytes takes absent all =
    let none : now.unread ≡ [] = takes.rest ∙ drop_all (feed_at old.unread + 1) old.unread (omega (arith, piece_whole old now found takes absent)) in
    rw (piece_line old now found takes absent, none) (append_assoc old.line old.unread left ∙ all)
