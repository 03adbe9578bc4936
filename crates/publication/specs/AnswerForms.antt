-- The lines of an answer text: what each is read as, or the first code that applies to it.
use Rattle.std.specs.Prelude.{ℕ, ℤ, ◌-◌, Bool, true, ◌&&◌, nat_le, nat_lt, List, [], ◌∷◌, length, map, slice_get, Result, Ok, Err, if◌then◌else◌, codes, decimal}
use Rattle.std.specs.Cmp.Lexicographic.{slice_cmp}
use Rattle.std.specs.Fmt.{signed_decimal}
use Rattle.std.specs.List.{list_all}
use Rattle.std.specs.Option.{option_map_or}
use Rattle.std.specs.Ordering.{nat_cmp, is_lt}
use Rattle.std.specs.Str.{bytes_eq}
use Rattle.match_rules.specs.declared.lottery.Piece.{Piece}
use Rattle.match_rules.specs.declared.rules.TheConstants.{MOST_TICKETS, RULES_TICKETS}
use Rattle.match_rules.specs.Answers.{most_price, most_total}
use Rattle.text_lines.specs.declared.fault.LineCode.{LineCode}
use Rattle.text_lines.specs.declared.fault.LineCode.TheVariants.{Form, Number, Range, Order}
use Rattle.text_lines.specs.Fields.{fields, with_spaces, one_of, two_of}
use Rattle.text_lines.specs.Forms.{in_form, needs, integer_from, number_from}
use Rattle.text_lines.specs.Numbers.{is_canonical, value}
use Rattle.text_lines.specs.Reading.{◌>>=◌}
use Rattle.publication.specs.declared.answer_forms.AnswerKind.{AnswerKind}
use Rattle.publication.specs.declared.answer_forms.AnswerKind.TheVariants as kinds

-- what the first line of an answer says that it is
unfoldable pub kind_of : List ℕ → Result AnswerKind LineCode
kind_of line = if bytes_eq line (codes "lottery 1") then Ok kinds.Lottery else (if bytes_eq line (codes "infeasible 1") then Ok kinds.Infeasible else Err Form)

-- a line of one price
unfoldable pub price_of : List ℕ → Result ℤ LineCode
price_of line = do
  field ← in_form (one_of (fields line))
  integer_from most_price field

-- a line of one share
unfoldable pub share_of : List ℕ → Result ℕ LineCode
share_of line = do
  field ← in_form (one_of (fields line))
  number_from 0 RULES_TICKETS field

-- the line of the total
abbrev pub total_in : List ℕ × List ℕ → Result ℤ LineCode
total_in parts = do
  named ← needs (bytes_eq parts.0 (codes "total")) Form
  integer_from most_total parts.1

unfoldable pub total_of : List ℕ → Result ℤ LineCode
total_of line = do
  parts ← in_form (two_of (fields line))
  total_in parts

unfoldable pub total_line : ℤ → List ℕ
total_line total = with_spaces (codes "total" ∷ signed_decimal total ∷ [])

-- numbers that strictly ascend
abbrev pub ascends : List ℕ → Bool
ascends [] = true
ascends (x ∷ []) = true
ascends (x ∷ y ∷ xs) = nat_lt x y && ascends (y ∷ xs)

-- the places stand behind those of the last piece
abbrev pub stands_behind : List Piece → List ℕ → Bool
stands_behind before places = option_map_or (λ piece. is_lt (slice_cmp nat_cmp piece.pairs places)) (slice_get before (length before - 1)) true

-- a weight of 1 to all tickets and places below the number of pairs
abbrev pub in_range : ℕ → ℕ → List ℕ → Bool
in_range pairs weight places = (nat_le 1 weight && nat_le weight MOST_TICKETS) && list_all (λ place. nat_lt place pairs) places

abbrev pub piece_with : ℕ → List Piece → ℕ → List ℕ → Result Piece LineCode
piece_with pairs before weight places = do
  ranged ← needs (in_range pairs weight places) Range
  ordered ← needs (ascends places && stands_behind before places) Order
  Ok (record { weight = weight; pairs = places })

-- the piece of numbers, of which the first is its weight
abbrev pub piece_from : ℕ → List Piece → List ℕ → Result Piece LineCode
piece_from pairs before [] = Err Form
piece_from pairs before (weight ∷ places) = piece_with pairs before weight places

-- a line of a weight and places, behind the pieces before it
abbrev pub piece_in : ℕ → List Piece → List (List ℕ) → Result Piece LineCode
piece_in pairs before [] = Err Form
piece_in pairs before (w ∷ ps) = do
  numbers ← needs (list_all is_canonical (w ∷ ps)) Number
  piece_with pairs before (value w) (map value ps)

unfoldable pub piece_of : ℕ → List Piece → List ℕ → Result Piece LineCode
piece_of pairs before line = piece_in pairs before (fields line)

-- the line of a piece
unfoldable pub piece_line : Piece → List ℕ
piece_line piece = with_spaces (decimal piece.weight ∷ map decimal piece.pairs)
