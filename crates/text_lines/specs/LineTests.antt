-- What a form asks of a line, and the first code of the table that applies to a line.
use Rattle.std.specs.Prelude.{ℕ, Bool, true, ◌&&◌, ◌==◌, nat_le, List, [], length, Option, None, Some, get_or, if◌then◌else◌}
use Rattle.std.specs.Str.{bytes_eq, is_utf8}
use Rattle.text_lines.specs.declared.fault.LineCode.{LineCode}
use Rattle.text_lines.specs.declared.fault.LineCode.TheVariants.{TooLong, NotUtf8, Form, Number, Range, Id, Order}
use Rattle.text_lines.specs.declared.lines.TheConstants.{LONGEST_LINE}
use Rattle.text_lines.specs.Fields.{fields}
use Rattle.text_lines.specs.Numbers.{is_canonical, value}

-- what a form asks of a line; each test counts only where those before it hold
pub record Tests : Type 0 where
  -- its number of fields and its fixed words are those of the form
  pub form : Bool
  -- its numbers are spelled canonically
  pub number : Bool
  -- its numbers are within their limits
  pub range : Bool
  -- its ids and institutions are such
  pub id : Bool
  -- it strictly follows the line before it
  pub order : Bool

-- what a form asks of each line
abbrev pub LineTests : Type 0
LineTests = List ℕ → Tests

-- a test with its code, in front of other tests
abbrev pub unless : Bool → LineCode → Option LineCode → Option LineCode
unless test code others = if test then others else Some code

-- the first code that applies to a text of these tests
abbrev pub first_of : Tests → Option LineCode
first_of tests = unless tests.form Form (unless tests.number Number (unless tests.range Range (unless tests.id Id (unless tests.order Order None))))

-- the first code of the table that applies to a line
abbrev pub code_of : LineTests → List ℕ → Option LineCode
code_of tests line = unless (nat_le (length line) LONGEST_LINE) TooLong (unless (is_utf8 line) NotUtf8 (first_of (tests line)))

-- the field at a place, counted from 0, and nothing where there is none
abbrev pub part : ℕ → List (List ℕ) → List ℕ
part place parts = get_or parts place []

-- there are so many fields
abbrev pub are_so_many : ℕ → List (List ℕ) → Bool
are_so_many count parts = length parts == count

-- a number is from least to most
abbrev pub is_from : ℕ → ℕ → ℕ → Bool
is_from least most number = nat_le number most && nat_le least number

-- just these words
abbrev pub words_tests : List ℕ → LineTests
words_tests words line = record { form = bytes_eq line words; number = true; range = true; id = true; order = true }

-- two fields: a word, and a number from least to most
abbrev pub count_parts : List ℕ → ℕ → ℕ → List (List ℕ) → Tests
count_parts word least most parts = record {
  form = are_so_many 2 parts && bytes_eq (part 0 parts) word;
  number = is_canonical (part 1 parts);
  range = is_from least most (value (part 1 parts));
  id = true;
  order = true;
}

abbrev pub count_tests : List ℕ → ℕ → ℕ → LineTests
count_tests word least most line = count_parts word least most (fields line)

-- the number of such a line
abbrev pub count_of : List ℕ → ℕ
count_of line = value (part 1 (fields line))
