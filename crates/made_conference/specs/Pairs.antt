-- The pairs of a made conference, each with its value and its bid.
use Rattle.std.specs.Prelude.{ℕ, ◌+◌, ◌*◌, ◌/◌, ◌%◌, List, [], ◌∷◌, map, Option}
use Rattle.std.specs.List.{flat_map, range_with_len, slice_get}
use Rattle.made_conference.specs.declared.bids.Bid.{Bid}
use Rattle.made_conference.specs.declared.bids.Bid.TheVariants.{VeryHigh, High, Neutral, Low, VeryLow}
use Rattle.made_conference.specs.declared.pairs.MadePair.{MadePair}
use Rattle.made_conference.specs.Numbers.{drawn}

-- what the numbers 0 to 4 pick; any other picks no bid
abbrev pub bids : List Bid
bids = VeryHigh ∷ High ∷ Neutral ∷ Low ∷ VeryLow ∷ []

unfoldable pub picked_bid : ℕ → Option Bid
picked_bid number = slice_get bids number

-- how many pairs are drawn before that of a paper and a reviewer of its block: 45 of each paper before it, and those with the reviewers before
-- this one in the block
unfoldable pub pairs_before : ℕ → ℕ → ℕ
pairs_before paper reviewer = 45 * paper + reviewer % 45

-- a pair: of its two draws the first gives the value in ten-thousandths, the second the bid
unfoldable pub made_pair : ℕ → ℕ → ℕ → MadePair
made_pair seed paper reviewer = record {
  paper = paper;
  reviewer = reviewer;
  value = drawn seed (2 * pairs_before paper reviewer) % 10001;
  bid = picked_bid (drawn seed (2 * pairs_before paper reviewer + 1) % 6);
}

-- the reviewers of a block of 45
abbrev pub block_reviewers : ℕ → List ℕ
block_reviewers block = range_with_len (45 * block) 45

-- the pairs of a paper, with each reviewer of its block; 60 papers are a block
unfoldable pub paper_pairs : ℕ → ℕ → List MadePair
paper_pairs seed paper = map (made_pair seed paper) (block_reviewers (paper / 60))

-- all pairs of so many blocks, in the order in which they are drawn
unfoldable pub made_pairs : ℕ → ℕ → List MadePair
made_pairs seed size = flat_map (paper_pairs seed) (range_with_len 0 (60 * size))
