-- Lines of fixed words, lines of a word and a number, and sections: such a line and so many lines behind it.
use Rattle.std.specs.Prelude.{ℕ, ℤ, Bool, nat_le, List, [], ◌∷◌, ◌++◌, length, Option, None, Some, Result, Ok, Err, if◌then◌else◌, decimal}
use Rattle.std.specs.Str.{bytes_eq}
use Rattle.text_lines.specs.declared.fault.LineCode.{LineCode}
use Rattle.text_lines.specs.declared.fault.LineCode.TheVariants.{Form, Number, Range}
use Rattle.text_lines.specs.declared.fault.TextFault.{TextFault}
use Rattle.text_lines.specs.Fields.{fields, with_spaces, two_of}
use Rattle.text_lines.specs.Numbers.{is_canonical, is_canonical_signed, value, signed_value, size}
use Rattle.text_lines.specs.Reading.{◌>>=◌, Cursor, due, items_at}
use Rattle.text_lines.specs.Texts.{line_of, lines_of}

-- just these words
abbrev pub fixed : List ℕ → List ℕ → Result (Unit {0}) LineCode
fixed words line = if bytes_eq line words then Ok tt else Err Form

-- the fields, where there are as many as the form has
abbrev pub in_form : {A : Type 0} → Option A → Result A LineCode
in_form None = Err Form
in_form (Some x) = Ok x

-- a test that a line has to pass before anything else of it is read
abbrev pub needs : Bool → LineCode → Result (Unit {0}) LineCode
needs test code = if test then Ok tt else Err code

-- the number that a field spells, from least to most
abbrev pub number_from : ℕ → ℕ → List ℕ → Result ℕ LineCode
number_from least most field = do
  canonical ← needs (is_canonical field) Number
  high ← needs (nat_le (value field) most) Range
  low ← needs (nat_le least (value field)) Range
  Ok (value field)

-- the signed number that a field spells, of a magnitude of at most so much
abbrev pub integer_from : ℕ → List ℕ → Result ℤ LineCode
integer_from most field = do
  canonical ← needs (is_canonical_signed field) Number
  small ← needs (nat_le (size field) most) Range
  Ok (signed_value field)

-- the number of two fields, of which the first is this word
abbrev pub number_of_fields : List ℕ → ℕ → ℕ → List ℕ × List ℕ → Result ℕ LineCode
number_of_fields word least most parts = do
  named ← needs (bytes_eq parts.0 word) Form
  number_from least most parts.1

-- the number of a line of this word and a number
unfoldable pub number_after : List ℕ → ℕ → ℕ → List ℕ → Result ℕ LineCode
number_after word least most line = do
  parts ← in_form (two_of (fields line))
  number_of_fields word least most parts

-- a section: its word with the number of its items, and a line for each
unfoldable pub section_at : {A : Type 0} → List ℕ → ℕ → ℕ → (List A → List ℕ → Result A LineCode) → Cursor → Result (List A × Cursor) TextFault
section_at word least most read at = do
  count ← due (number_after word least most) at
  items_at read count.0 [] count.1

-- the line of a word and a number
unfoldable pub count_line : List ℕ → ℕ → List ℕ
count_line word n = with_spaces (word ∷ decimal n ∷ [])

unfoldable pub section_text : {A : Type 0} → List ℕ → (A → List ℕ) → List A → List ℕ
section_text word spell items = line_of (count_line word (length items)) ++ lines_of spell items
