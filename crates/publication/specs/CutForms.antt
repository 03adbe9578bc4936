-- The lines of a cut: what each is read as, or the first code that applies to it.
use Rattle.std.specs.Prelude.{ℕ, nat_lt, List, [], ◌∷◌, map, Result, Ok, Err, if◌then◌else◌, codes, decimal}
use Rattle.std.specs.List.{list_all}
use Rattle.std.specs.Str.{bytes_eq}
use Rattle.match_rules.specs.declared.answer.Side.{Side}
use Rattle.match_rules.specs.declared.answer.Side.TheVariants.{Into, OutOf}
use Rattle.text_lines.specs.declared.fault.LineCode.{LineCode}
use Rattle.text_lines.specs.declared.fault.LineCode.TheVariants.{Form, Number, Range, Order}
use Rattle.text_lines.specs.Fields.{fields, with_spaces}
use Rattle.text_lines.specs.Forms.{needs}
use Rattle.text_lines.specs.Reading.{◌>>=◌}
use Rattle.text_lines.specs.Numbers.{is_canonical, value}
use Rattle.publication.specs.AnswerForms.{ascends}

-- the side of a cut
unfoldable pub side_of : List ℕ → Result Side LineCode
side_of line = if bytes_eq line (codes "cut into") then Ok Into else (if bytes_eq line (codes "cut out-of") then Ok OutOf else Err Form)

unfoldable pub side_line : Side → List ℕ
side_line Into = codes "cut into"
side_line OutOf = codes "cut out-of"

-- places below a count that strictly ascend
abbrev pub marks_with : ℕ → List ℕ → Result (List ℕ) LineCode
marks_with count places = do
  known ← needs (list_all (λ place. nat_lt place count) places) Range
  ordered ← needs (ascends places) Order
  Ok places

-- the places of numbers
abbrev pub marks_from : ℕ → List (List ℕ) → Result (List ℕ) LineCode
marks_from count parts = do
  numbers ← needs (list_all is_canonical parts) Number
  marks_with count (map value parts)

-- the places behind a word, of which there may be none
abbrev pub marks_in : List ℕ → ℕ → List (List ℕ) → Result (List ℕ) LineCode
marks_in word count [] = Err Form
marks_in word count (w ∷ ps) = do
  named ← needs (bytes_eq w word) Form
  marks_from count ps

unfoldable pub marks_of : List ℕ → ℕ → List ℕ → Result (List ℕ) LineCode
marks_of word count line = marks_in word count (fields line)

-- the line of a word and places
unfoldable pub marks_line : List ℕ → List ℕ → List ℕ
marks_line word places = with_spaces (word ∷ map decimal places)
