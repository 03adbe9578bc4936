-- The rows of the tables of a made conference.
use Rattle.std.specs.Prelude.{ℕ, ◌+◌, ◌/◌, ◌%◌, List, [], ◌∷◌, ◌++◌, codes, decimal}
use Rattle.std.specs.List.{join_with_byte}
use Rattle.std.specs.Option.{option_map_or}
use Rattle.text_lines.specs.Texts.{line_of}
use Rattle.made_conference.specs.declared.bids.Bid.{Bid}
use Rattle.made_conference.specs.declared.bids.Bid.TheVariants.{VeryHigh, High, Neutral, Low, VeryLow}
use Rattle.made_conference.specs.declared.pairs.MadePair.{MadePair}

-- the last digit of a number
abbrev pub last_digit : ℕ → ℕ
last_digit number = 48 + number % 10

-- a number in four digits, with zeros in front
unfoldable pub four_digits : ℕ → List ℕ
four_digits number = last_digit (number / 1000) ∷ last_digit (number / 100) ∷ last_digit (number / 10) ∷ last_digit number ∷ []

unfoldable pub paper_id : ℕ → List ℕ
paper_id paper = codes "p" ++ four_digits paper

unfoldable pub reviewer_id : ℕ → List ℕ
reviewer_id reviewer = codes "r" ++ four_digits reviewer

-- the institution of a paper's author, and of a reviewer, with this number
unfoldable pub institution_id : ℕ → List ℕ
institution_id number = codes "i" ++ decimal (number % 9)

-- ten-thousandths with four decimals
unfoldable pub value_text : ℕ → List ℕ
value_text value = decimal (value / 10000) ++ codes "." ++ four_digits value

abbrev pub bid_word : Bid → List ℕ
bid_word VeryHigh = codes "Very High"
bid_word High = codes "High"
bid_word Neutral = codes "Neutral"
bid_word Low = codes "Low"
bid_word VeryLow = codes "Very Low"

-- fields with a comma between each two
unfoldable pub with_commas : List (List ℕ) → List ℕ
with_commas fields = join_with_byte 44 fields

-- a paper, no demand of its own, and one institution
unfoldable pub paper_row : ℕ → List ℕ
paper_row paper = with_commas (paper_id paper ∷ [] ∷ institution_id paper ∷ [])

-- a reviewer, its institution, and no least and greatest load of its own
unfoldable pub reviewer_row : ℕ → List ℕ
reviewer_row reviewer = with_commas (reviewer_id reviewer ∷ institution_id reviewer ∷ [] ∷ [] ∷ [])

-- a pair and its value
unfoldable pub value_row : MadePair → List ℕ
value_row pair = with_commas (paper_id pair.paper ∷ reviewer_id pair.reviewer ∷ value_text pair.value ∷ [])

-- a pair and the word of a bid
unfoldable pub bid_row : MadePair → Bid → List ℕ
bid_row pair bid = with_commas (paper_id pair.paper ∷ reviewer_id pair.reviewer ∷ bid_word bid ∷ [])

-- the line of a pair's bid, or nothing where it has none
unfoldable pub bid_lines : MadePair → List ℕ
bid_lines pair = option_map_or (λ bid. line_of (bid_row pair bid)) pair.bid []
