-- What the lines of the text of an answer are asked for, by the table of codes, and what they stand for.
use Rattle.std.specs.Prelude.{ℕ, Bool, true, false, ◌&&◌, ◌||◌, nat_le, nat_lt, List, [], ◌∷◌, drop, map, if◌then◌else◌, codes}
use Rattle.std.specs.List.{list_all}
use Rattle.std.specs.Str.{bytes_eq}
use Rattle.match_rules.specs.declared.answer.Mode.{Mode}
use Rattle.match_rules.specs.declared.answer.Mode.TheVariants.{Whole, Fair}
use Rattle.match_rules.specs.declared.lottery.Piece.{Piece}
use Rattle.match_rules.specs.declared.rules.TheConstants.{RULES_TICKETS}
use Rattle.match_rules.specs.Answers.{most_price, most_total}
use Rattle.match_rules.specs.Rules.{most_score}
use Rattle.text_lines.specs.Fields.{fields}
use Rattle.text_lines.specs.LineTests.{Tests, LineTests, are_so_many, part, words_tests}
use Rattle.text_lines.specs.Numbers.{is_canonical, is_canonical_signed, value, signed_value, size}
use Rattle.publication.specs.declared.answer_forms.AnswerKind.{AnswerKind}
use Rattle.publication.specs.declared.answer_forms.AnswerKind.TheVariants as kinds
use Rattle.publication.specs.declared.asked_forms.Asked.{Asked}
use Rattle.publication.specs.declared.asked_forms.Asked.TheVariants as asked
use Rattle.publication.specs.AnswerForms.{ascends, in_range, stands_behind}

-- ---- one word or another

abbrev pub either_tests : List ℕ → List ℕ → LineTests
either_tests words others line = record { form = bytes_eq line words || bytes_eq line others; number = true; range = true; id = true; order = true }

-- the first line of an answer
abbrev pub kind_tests : LineTests
kind_tests = either_tests (codes "lottery 1") (codes "infeasible 1")

abbrev pub kind_from : List ℕ → AnswerKind
kind_from line = if bytes_eq line (codes "lottery 1") then kinds.Lottery else kinds.Infeasible

-- the side of a cut
abbrev pub side_tests : LineTests
side_tests = either_tests (codes "cut into") (codes "cut out-of")

-- ---- the mode and the threshold

abbrev pub mode_tests : LineTests
mode_tests = either_tests (codes "mode whole") (codes "mode fair")

abbrev pub mode_from : List ℕ → Mode
mode_from line = if bytes_eq line (codes "mode whole") then Whole else Fair

-- a word and a canonical score within its limit
abbrev pub has_score : List (List ℕ) → Bool
has_score parts =
    are_so_many 2 parts && (bytes_eq (part 0 parts) (codes "threshold") && (is_canonical_signed (part 1 parts) && nat_le (size (part 1 parts)) most_score))

-- the threshold in a mode: whatever else stands there has another form
abbrev pub threshold_tests : Mode → LineTests
threshold_tests Whole line = words_tests (codes "threshold none") line
threshold_tests Fair line = record { form = bytes_eq line (codes "threshold free") || has_score (fields line); number = true; range = true; id = true; order = true }

abbrev pub threshold_from : Mode → List ℕ → Asked
threshold_from Whole line = asked.Whole
threshold_from Fair line = if bytes_eq line (codes "threshold free") then asked.Free else asked.At (signed_value (part 1 (fields line)))

-- ---- numbers

-- the total
abbrev pub total_parts : List (List ℕ) → Tests
total_parts parts = record {
  form = are_so_many 2 parts && bytes_eq (part 0 parts) (codes "total");
  number = is_canonical_signed (part 1 parts);
  range = nat_le (size (part 1 parts)) most_total;
  id = true;
  order = true;
}

-- a price
abbrev pub price_parts : List (List ℕ) → Tests
price_parts parts = record {
  form = are_so_many 1 parts;
  number = is_canonical_signed (part 0 parts);
  range = nat_le (size (part 0 parts)) most_price;
  id = true;
  order = true;
}

-- a share
abbrev pub share_parts : List (List ℕ) → Tests
share_parts parts = record {
  form = are_so_many 1 parts;
  number = is_canonical (part 0 parts);
  range = nat_le (value (part 0 parts)) RULES_TICKETS;
  id = true;
  order = true;
}

-- ---- places

-- there are fields; a line always has one
abbrev pub has_fields : List (List ℕ) → Bool
has_fields [] = false
has_fields (field ∷ parts) = true

-- the piece of a weight and places
abbrev pub piece_from : List (List ℕ) → Piece
piece_from parts = record { weight = value (part 0 parts); pairs = map value (drop 1 parts) }

-- a piece, of so many pairs
abbrev pub piece_parts : ℕ → List Piece → List (List ℕ) → Tests
piece_parts pairs before parts = record {
  form = has_fields parts;
  number = list_all is_canonical parts;
  range = in_range pairs (value (part 0 parts)) (map value (drop 1 parts));
  id = true;
  order = ascends (map value (drop 1 parts)) && stands_behind before (map value (drop 1 parts));
}

-- a word and marked places below a count
abbrev pub marks_parts : List ℕ → ℕ → List (List ℕ) → Tests
marks_parts word count parts = record {
  form = has_fields parts && bytes_eq (part 0 parts) word;
  number = list_all is_canonical (drop 1 parts);
  range = list_all (λ place. nat_lt place count) (map value (drop 1 parts));
  id = true;
  order = ascends (map value (drop 1 parts));
}

-- ---- the same of lines

abbrev pub total_tests : LineTests
total_tests line = total_parts (fields line)

abbrev pub price_tests : LineTests
price_tests line = price_parts (fields line)

abbrev pub share_tests : LineTests
share_tests line = share_parts (fields line)

abbrev pub piece_tests : ℕ → List Piece → LineTests
piece_tests pairs before line = piece_parts pairs before (fields line)

abbrev pub marks_tests : List ℕ → ℕ → LineTests
marks_tests word count line = marks_parts word count (fields line)
