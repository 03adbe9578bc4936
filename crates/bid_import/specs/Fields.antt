-- What the fields of a record say, tested from left to right.
use Rattle.std.specs.Prelude.{ℕ, ◌==◌, ◌&&◌, nat_lt, nat_le, Bool, if◌then◌else◌, ℤ, pos, neg_ℤ, int_le, List, [], ◌∷◌, ◌++◌, length, Option, Some, None, Result, Ok, Err}
use Rattle.std.specs.List.{list_all, list_any, slice_split}
use Rattle.std.specs.Str.{bytes_eq}
use Rattle.std.specs.Char.{is_ascii_digit}
use Rattle.std.specs.Ordering.{int_eq}
use Rattle.std.specs.Str.Parse.{digits_value}
use Rattle.match_rules.specs.Id.{is_id, is_institution}
use Rattle.roster.specs.Loads.{LoadValue, load_from}
use Rattle.roster.specs.declared.rows.PaperRow.{PaperRow}
use Rattle.roster.specs.declared.rows.ReviewerRow.{ReviewerRow}
use Rattle.score_spec.specs.Reading.{read_as}
use Rattle.score_spec.specs.declared.numbers.NumberFault.{NumberFault}
use Rattle.score_spec.specs.declared.numbers.NumberFault.TheVariants as number
use Rattle.score_spec.specs.declared.spec.BidWord.{BidWord}
use Rattle.bid_import.specs.declared.fault.Code.{Code}
use Rattle.bid_import.specs.declared.fault.Code.TheVariants.{TooMany, WrongWidth, BadId, BadDemand, BadLoad, BadNumber, OutOfRange, UnknownWord, BadMark, BadCap}
use Rattle.bid_import.specs.declared.rows.ValueRow.{ValueRow}
use Rattle.bid_import.specs.declared.rows.BidRow.{BidRow}
use Rattle.bid_import.specs.declared.rows.MarkRow.{MarkRow}
use Rattle.bid_import.specs.declared.rows.CapRow.{CapRow}
use Rattle.bid_import.specs.Results.{◌>>=◌}

abbrev pub id_of : List ℕ → Result (List ℕ) Code
id_of text = if is_id text then Ok text else Err BadId

-- 1 to 9 digits
abbrev pub is_count : List ℕ → Bool
is_count text = (nat_le 1 (length text) && nat_le (length text) 9) && list_all is_ascii_digit text

-- the number that a count text writes
abbrev pub count_of : List ℕ → Option ℕ
count_of text = if is_count text then Some (digits_value 10 text) else None

abbrev pub demand_from : Option ℕ → Result (Option ℕ) Code
demand_from None = Err BadDemand
demand_from (Some n) = if nat_le n 100 then Ok (Some n) else Err BadDemand

-- an empty demand is missing
abbrev pub demand_of : List ℕ → Result (Option ℕ) Code
demand_of text = if length text == 0 then Ok None else demand_from (count_of text)

-- an empty institution is none
abbrev pub institution_of : List ℕ → Result (Option (List ℕ)) Code
institution_of text = if length text == 0 then Ok None else (if is_institution text then Ok (Some text) else Err BadId)

-- the name behind these, where it isn't among them
abbrev pub with_name : List (List ℕ) → List ℕ → List (List ℕ)
with_name known name = if list_any (λ other. bytes_eq other name) known then known else known ++ name ∷ []

-- these names, and then the others, each once
abbrev pub new_names : List (List ℕ) → List (List ℕ) → List (List ℕ)
new_names known [] = known
new_names known (name ∷ names) = new_names (with_name known name) names

-- the distinct names between the semicolons; an empty text has none
abbrev pub names_in : List ℕ → List (List ℕ)
names_in text = if length text == 0 then [] else new_names [] (slice_split (λ b. b == 59) text)

abbrev pub institutions_of : List (List ℕ) → Result (List (List ℕ)) Code
institutions_of names = if nat_lt 64 (length names) then Err TooMany else (if list_all is_institution names then Ok names else Err BadId)

abbrev pub load_of_counts : Option ℕ → Option ℕ → Option LoadValue
load_of_counts (Some least) (Some greatest) = load_from least greatest
load_of_counts (Some least) None = None
load_of_counts None greatest = None

abbrev pub given_load : Option LoadValue → Result (Option LoadValue) Code
given_load None = Err BadLoad
given_load (Some load) = Ok (Some load)

-- two empty fields say nothing of the load
abbrev pub load_of : List ℕ → List ℕ → Result (Option LoadValue) Code
load_of least greatest =
    if (length least == 0) && (length greatest == 0) then Ok None else given_load (load_of_counts (count_of least) (count_of greatest))

abbrev pub number_code : NumberFault → Code
number_code (number.BadNumber place) = BadNumber
number_code number.OutOfRange = OutOfRange

abbrev pub value_from : Result ℤ NumberFault → Result ℤ Code
value_from (Ok value) = Ok value
value_from (Err fault) = Err (number_code fault)

-- a value in ten-thousandths
abbrev pub value_of : List ℕ → Result ℤ Code
value_of text = value_from (read_as text)

abbrev pub mark_from : ℤ → Result ℤ Code
mark_from value =
    if int_eq value (neg_ℤ (pos 10000)) then Ok (neg_ℤ (pos 1)) else (if int_eq value (pos 0) then Ok (pos 0) else (if int_eq value (pos 10000) then Ok (pos 1) else Err BadMark))

abbrev pub cap_from : ℤ → Result ℤ Code
cap_from value = if int_le (pos 0) value && int_le value (pos 10000) then Ok value else Err BadCap

abbrev pub mark_of : List ℕ → Result ℤ Code
mark_of text = value_of text >>= mark_from

abbrev pub cap_of : List ℕ → Result ℤ Code
cap_of text = value_of text >>= cap_from

-- a bid is one of the words
abbrev pub word_of : List BidWord → List ℕ → Result (List ℕ) Code
word_of words text = if list_any (λ (w : BidWord). bytes_eq w.word text) words then Ok text else Err UnknownWord

abbrev pub paper_of : List ℕ → List ℕ → List ℕ → Result PaperRow Code
paper_of paper demand institutions = do
  id ← id_of paper
  number ← demand_of demand
  names ← institutions_of (names_in institutions)
  Ok (record { id = id; demand = number; authors = names })

abbrev pub reviewer_of : List ℕ → List ℕ → List ℕ → List ℕ → Result ReviewerRow Code
reviewer_of reviewer institution least greatest = do
  id ← id_of reviewer
  name ← institution_of institution
  load ← load_of least greatest
  Ok (record { id = id; institution = name; load = load })

abbrev pub value_row_of : List ℕ → List ℕ → List ℕ → Result ValueRow Code
value_row_of paper reviewer value = do
  p ← id_of paper
  r ← id_of reviewer
  v ← value_of value
  Ok (record { paper = p; reviewer = r; value = v })

abbrev pub bid_row_of : List BidWord → List ℕ → List ℕ → List ℕ → Result BidRow Code
bid_row_of words paper reviewer bid = do
  p ← id_of paper
  r ← id_of reviewer
  w ← word_of words bid
  Ok (record { paper = p; reviewer = r; word = w })

abbrev pub mark_row_of : List ℕ → List ℕ → List ℕ → Result MarkRow Code
mark_row_of paper reviewer mark = do
  p ← id_of paper
  r ← id_of reviewer
  m ← mark_of mark
  Ok (record { paper = p; reviewer = r; mark = m })

abbrev pub cap_row_of : List ℕ → List ℕ → List ℕ → Result CapRow Code
cap_row_of paper reviewer cap = do
  p ← id_of paper
  r ← id_of reviewer
  v ← cap_of cap
  Ok (record { paper = p; reviewer = r; cap = v })

abbrev pub three_of : List (List ℕ) → Option (List ℕ × List ℕ × List ℕ)
three_of [] = None
three_of (a ∷ []) = None
three_of (a ∷ b ∷ []) = None
three_of (a ∷ b ∷ c ∷ []) = Some (a, b, c)
three_of (a ∷ b ∷ c ∷ d ∷ more) = None

abbrev pub four_of : List (List ℕ) → Option (List ℕ × List ℕ × List ℕ × List ℕ)
four_of [] = None
four_of (a ∷ []) = None
four_of (a ∷ b ∷ []) = None
four_of (a ∷ b ∷ c ∷ []) = None
four_of (a ∷ b ∷ c ∷ d ∷ []) = Some (a, b, c, d)
four_of (a ∷ b ∷ c ∷ d ∷ e ∷ more) = None

-- a record of three fields
abbrev pub from_three : {A : Type 0} → (List ℕ → List ℕ → List ℕ → Result A Code) → Option (List ℕ × List ℕ × List ℕ) → Result A Code
from_three read None = Err WrongWidth
from_three read (Some t) = read t.0 t.1 t.2

abbrev pub from_four : {A : Type 0} → (List ℕ → List ℕ → List ℕ → List ℕ → Result A Code) → Option (List ℕ × List ℕ × List ℕ × List ℕ) → Result A Code
from_four read None = Err WrongWidth
from_four read (Some t) = read t.0 t.1 t.2 t.3
