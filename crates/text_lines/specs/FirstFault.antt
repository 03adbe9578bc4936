-- The first fault of a text, by what is due behind the lines before it.
use Rattle.std.specs.Prelude.{◌≡◌, ℕ, zero, suc, ◌+◌, ◌-◌, ◌^◌, ◌<◌, ◌≤◌, ◌⊎◌, min, List, [], ◌∷◌, ◌++◌, length, Option, None, Some}
use Rattle.std.specs.List.{position_or_len, before_first}
use Rattle.text_lines.specs.declared.fault.TextFault.{TextFault}
use Rattle.text_lines.specs.declared.fault.TextFault.TheVariants.{Truncated, Trailing, BadLine}
use Rattle.text_lines.specs.declared.lines.TheConstants.{LONGEST_LINE}
use Rattle.text_lines.specs.LineTests.{LineTests, code_of, words_tests, count_tests, count_of}
use Rattle.text_lines.specs.Reading.{is_feed}
use Rattle.text_lines.specs.Texts.{lines_of}

-- what is due behind some lines: a line with these tests, or none where the text is at its end
abbrev pub Due : Type 0
Due = List (List ℕ) → Option LineTests

-- no further line
abbrev pub no_line : Due
no_line lines = None

-- a line with these tests, and behind it what it asks for
abbrev pub line_then : LineTests → (List ℕ → Due) → Due
line_then tests then [] = Some tests
line_then tests then (line ∷ lines) = then line lines

-- a line of just these words
abbrev pub words_then : List ℕ → Due → Due
words_then words then = line_then (words_tests words) (λ line. then)

-- a line of a word and a number
abbrev pub count_then : List ℕ → ℕ → ℕ → (ℕ → Due) → Due
count_then word least most then = line_then (count_tests word least most) (λ line. then (count_of line))

-- so many lines of one kind, each with the items before it known
abbrev pub lines_then : {A : Type 0} → (List A → LineTests) → (List ℕ → A) → ℕ → List A → (List A → Due) → Due
lines_then tests item zero before then = then before
lines_then tests item (suc n) before then = line_then (tests before) (λ line. lines_then tests item n (before ++ item line ∷ []) then)

-- a line of a word and a number, and so many lines of one kind
abbrev pub section_then : {A : Type 0} → List ℕ → ℕ → ℕ → (List A → LineTests) → (List ℕ → A) → (List A → Due) → Due
section_then word least most tests item then = count_then word least most (λ count. lines_then tests item count [] then)

-- a line feed ends the first line of the bytes
abbrev pub HasFeed : List ℕ → Type 0
HasFeed bytes = position_or_len is_feed bytes < length bytes

-- the bytes up to the first line feed, or all
abbrev pub first_line : List ℕ → List ℕ
first_line bytes = before_first is_feed bytes

-- no line feed is in the bytes
abbrev pub IsPlain : List ℕ → Type 0
IsPlain bytes = position_or_len is_feed bytes ≡ length bytes

-- no code applies to the line, which is due
abbrev pub IsRight : Option LineTests → List ℕ → Type 0
IsRight None line = ⊥
IsRight (Some tests) line = IsPlain line × (code_of tests line ≡ None)

-- no code applies to any of the lines, each behind those before it
abbrev pub AllRight : Due → List (List ℕ) → Type 0
AllRight due [] = Unit {0}
AllRight due (line ∷ lines) = IsRight (due []) line × AllRight (λ others. due (line ∷ others)) lines

-- the number of the line behind these, counted from 1; it stands still at the end of its type
abbrev pub line_number : List (List ℕ) → ℕ
line_number before = min (length before + 1) (2 ^ 64 - 1)

-- the fault of the bytes where this is due and the lines before are right, or none
abbrev pub IsFaultAt : Option LineTests → ℕ → List ℕ → Option TextFault → Type 0
IsFaultAt None number bytes None = bytes ≡ []
IsFaultAt None number bytes (Some Trailing) = 0 < length bytes
IsFaultAt None number bytes (Some Truncated) = ⊥
IsFaultAt None number bytes (Some (BadLine wrong code)) = ⊥
IsFaultAt (Some tests) number bytes None = ⊥
IsFaultAt (Some tests) number bytes (Some Trailing) = ⊥
IsFaultAt (Some tests) number bytes (Some Truncated) = IsPlain bytes × (length bytes ≤ LONGEST_LINE)
IsFaultAt (Some tests) number bytes (Some (BadLine wrong code)) =
    (wrong ≡ number) × (code_of tests (first_line bytes) ≡ Some code) × (HasFeed bytes ⊎ LONGEST_LINE < length (first_line bytes))

-- the bytes are right lines, and behind them bytes with this fault, or with none
pub record HasFault (due : Due) (bytes : List ℕ) (fault : Option TextFault) : Type 0 where
  pub before : List (List ℕ)
  pub rest : List ℕ
  pub parts : bytes ≡ lines_of (λ line. line) before ++ rest
  pub right : AllRight due before
  pub found : IsFaultAt (due before) (line_number before) rest fault
