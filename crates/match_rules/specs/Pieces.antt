-- The pieces of a lottery, as its type keeps them.
use Rattle.std.specs.Prelude.{◌≡◌, ℕ, ◌+◌, ◌<◌, ◌≤◌, List, [], length, slice_index, slice_index_or}
use Rattle.std.specs.Cmp.Lexicographic.{slice_cmp}
use Rattle.std.specs.Ordering.{nat_cmp}
use Rattle.std.specs.declared.cmp.Ordering.TheVariants.{Less}
use Rattle.match_rules.specs.declared.lottery.Piece.{Piece}
use Rattle.match_rules.specs.declared.rules.TheConstants.{MOST_TICKETS}

abbrev pub no_piece : Piece
no_piece = record { weight = 0; pairs = [] }

abbrev pub piece_at : List Piece → ℕ → Piece
piece_at pieces k = slice_index_or pieces k no_piece

-- places that strictly ascend
abbrev pub DoAscend : List ℕ → Type 0
DoAscend places = (i : ℕ) → i + 1 < length places → slice_index places i < slice_index places (i + 1)

-- at most as many pieces as there may be tickets, each with a weight of 1 to all of them and places that ascend; the
-- lists of places ascend from piece to piece, in lexicographic order
pub record ArePieces (pieces : List Piece) : Type 0 where
  pub few : length pieces ≤ MOST_TICKETS
  pub weights : (k : ℕ) → k < length pieces → (1 ≤ (piece_at pieces k).weight) × ((piece_at pieces k).weight ≤ MOST_TICKETS)
  pub places : (k : ℕ) → k < length pieces → DoAscend (piece_at pieces k).pairs
  pub ascending : (k : ℕ) → k + 1 < length pieces → slice_cmp nat_cmp (piece_at pieces k).pairs (piece_at pieces (k + 1)).pairs ≡ Less
