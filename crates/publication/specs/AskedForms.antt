-- The lines of the mode and of the threshold: what each is read as, or the first code that applies to it.
use Rattle.std.specs.Prelude.{ℕ, ℤ, List, [], ◌∷◌, Result, Ok, Err, if◌then◌else◌, codes}
use Rattle.std.specs.Fmt.{signed_decimal}
use Rattle.std.specs.Str.{bytes_eq}
use Rattle.match_rules.specs.declared.answer.Level.{Level}
use Rattle.match_rules.specs.declared.answer.Level.TheVariants.{Unasked, Free, At}
use Rattle.match_rules.specs.declared.answer.Mode.{Mode}
use Rattle.match_rules.specs.declared.answer.Mode.TheVariants.{Whole, Fair}
use Rattle.match_rules.specs.Answers.{IsWithin}
use Rattle.match_rules.specs.Rules.{most_score}
use Rattle.text_lines.specs.declared.fault.LineCode.{LineCode}
use Rattle.text_lines.specs.declared.fault.LineCode.TheVariants.{Form}
use Rattle.text_lines.specs.Fields.{fields, with_spaces, two_of}
use Rattle.text_lines.specs.Forms.{in_form, needs, integer_from}
use Rattle.text_lines.specs.Reading.{◌>>=◌}
use Rattle.publication.specs.declared.asked_forms.Asked.{Asked}
use Rattle.publication.specs.declared.asked_forms.Asked.TheVariants as asked

-- the mode
unfoldable pub mode_of : List ℕ → Result Mode LineCode
mode_of line = if bytes_eq line (codes "mode whole") then Ok Whole else (if bytes_eq line (codes "mode fair") then Ok Fair else Err Form)

unfoldable pub mode_line : Mode → List ℕ
mode_line Whole = codes "mode whole"
mode_line Fair = codes "mode fair"

-- the form is wrong, whatever is wrong
abbrev pub or_form : {A : Type 0} → Result A LineCode → Result A LineCode
or_form (Ok x) = Ok x
or_form (Err code) = Err Form

-- a threshold with a score: anything but a canonical score within its limit has another form
abbrev pub score_in : List ℕ × List ℕ → Result Asked LineCode
score_in parts = do
  named ← needs (bytes_eq parts.0 (codes "threshold")) Form
  score ← or_form (integer_from most_score parts.1)
  Ok (asked.At score)

unfoldable pub score_of : List ℕ → Result Asked LineCode
score_of line = do
  parts ← in_form (two_of (fields line))
  score_in parts

-- the threshold in a mode
unfoldable pub threshold_of : Mode → List ℕ → Result Asked LineCode
threshold_of Whole line = if bytes_eq line (codes "threshold none") then Ok asked.Whole else Err Form
threshold_of Fair line = if bytes_eq line (codes "threshold free") then Ok asked.Free else score_of line

unfoldable pub score_line : ℤ → List ℕ
score_line score = with_spaces (codes "threshold" ∷ signed_decimal score ∷ [])

unfoldable pub threshold_line : Asked → List ℕ
threshold_line asked.Whole = codes "threshold none"
threshold_line asked.Free = codes "threshold free"
threshold_line (asked.At score) = score_line score

-- its score is within its limit
abbrev pub IsAsked : Asked → Type 0
IsAsked asked.Whole = Unit {0}
IsAsked asked.Free = Unit {0}
IsAsked (asked.At score) = IsWithin most_score score

-- the mode with such a threshold
abbrev pub mode_asked : Asked → Mode
mode_asked asked.Whole = Whole
mode_asked asked.Free = Fair
mode_asked (asked.At score) = Fair

-- the threshold of a level
abbrev pub asked_of : Level → Asked
asked_of Unasked = asked.Whole
asked_of Free = asked.Free
asked_of (At score cut) = asked.At score

-- the mode with such a level
abbrev pub mode_of_level : Level → Mode
mode_of_level level = mode_asked (asked_of level)
