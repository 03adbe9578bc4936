-- Lists of a lottery that were read line by line keep the conditions of their types, and lists that keep them are read again.
use Rattle.std.proofs.Common.{◌≡◌, ℕ, ◌+◌, ◌<◌, ◌≤◌, Bool, true, ◌&&◌, List, [], length, get_or, ℤ, pos, sym, ap, ◌∙◌, arith}
use Rattle.std.specs.Prelude.{All, nat_lt, nat_le}
use Rattle.std.specs.Cmp.Lexicographic.{slice_cmp}
use Rattle.std.specs.List.{list_all}
use Rattle.std.specs.Ordering.{is_lt, nat_cmp}
use Rattle.std.proofs.lemmas.Bool.{ltb-true, lt-ltb, le-leb, and_from}
use Rattle.std.proofs.lemmas.List.Sums.{AllPass-from_list_all, list_all-from_AllPass}
use Rattle.match_rules.specs.declared.lottery.Piece.{Piece}
use Rattle.match_rules.specs.declared.rules.TheConstants.{MOST_TICKETS, RULES_TICKETS}
use Rattle.match_rules.specs.Answers.{ArePrices, IsWithin, most_price}
use Rattle.match_rules.specs.Pieces.{ArePieces, piece_at, no_piece}
use Rattle.text_lines.specs.Reading.{AllFrom}
use Rattle.text_lines.specs.Texts.{AllAlong}
use Rattle.text_lines.proofs.TextLaws.{along_from, along_at, along_from_at}
use Rattle.match_rules.specs.declared.sizes.Sizes.{Sizes}
use Rattle.publication.specs.AnswerForms.{price_of, share_of, piece_of, piece_line, in_range}
use Rattle.publication.specs.Certificates.{AreShares, ArePiecesFor}
use Rattle.publication.proofs.AnswerLaws.{price_spells, share_spells}
use Rattle.publication.proofs.AscendLaws.{ascends_to, ascends_from}
use Rattle.publication.proofs.LastLaws.{behind_at, behind_each, less_is}
use Rattle.publication.proofs.PieceSpells.{FitsPiece, piece_spells, range_parts}
use Rattle.std.specs.Fmt.{signed_decimal}
use Rattle.std.specs.Prelude.{decimal}

-- ---- prices and shares

abbrev pub FitsPrice : List ℤ → ℤ → Type 0
FitsPrice before z = IsWithin most_price z

abbrev pub FitsShare : List ℕ → ℕ → Type 0
FitsShare before n = n ≤ RULES_TICKETS

pub prices_along : (count : ℕ) (zs : List ℤ) → count ≤ length zs → length zs ≤ count → AllAlong FitsPrice [] zs → ArePrices count zs
prices_along count zs low high all = (omega arith, λ k d lt. along_at FitsPrice [] zs d k all lt)

pub prices_fit : (count : ℕ) (zs : List ℤ) → count ≤ length zs → length zs ≤ count → AllFrom (λ before. price_of) [] zs → ArePrices count zs
prices_fit count zs low high from = prices_along count zs low high (along_from (λ before. price_of) FitsPrice signed_decimal price_spells [] zs from)

pub along_prices : (count : ℕ) (zs : List ℤ) → ArePrices count zs → AllAlong FitsPrice [] zs
along_prices count zs are = along_from_at FitsPrice [] zs (pos 0) (λ k lt. are.1 k (pos 0) lt)

pub shares_along : (count : ℕ) (ns : List ℕ) → count ≤ length ns → length ns ≤ count → AllAlong FitsShare [] ns → AreShares count ns
shares_along count ns low high all = (omega arith, λ k d lt. along_at FitsShare [] ns d k all lt)

pub shares_fit : (count : ℕ) (ns : List ℕ) → count ≤ length ns → length ns ≤ count → AllFrom (λ before. share_of) [] ns → AreShares count ns
shares_fit count ns low high from = shares_along count ns low high (along_from (λ before. share_of) FitsShare decimal share_spells [] ns from)

pub along_shares : (count : ℕ) (ns : List ℕ) → AreShares count ns → AllAlong FitsShare [] ns
along_shares count ns are = along_from_at FitsShare [] ns 0 (λ k lt. are.1 k 0 lt)

-- ---- pieces

abbrev places_test : Piece → Piece → Bool
places_test a b = is_lt (slice_cmp nat_cmp a.pairs b.pairs)

pub below_all : (count : ℕ) (places : List ℕ) → list_all (λ place. nat_lt place count) places ≡ true → All (λ e. e < count) places
below_all count places h = λ k d lt. ltb-true (get_or places k d) count (AllPass-from_list_all (λ place. nat_lt place count) places h k d lt)

pub all_below : (count : ℕ) (places : List ℕ) → All (λ e. e < count) places → list_all (λ place. nat_lt place count) places ≡ true
all_below count places h = list_all-from_AllPass (λ place. nat_lt place count) places (λ k d lt. lt-ltb (get_or places k d) count (h k d lt))

pub pieces_along : (sizes : Sizes) (ps : List Piece) → length ps ≤ MOST_TICKETS → AllAlong (FitsPiece sizes.pairs) [] ps → ArePiecesFor sizes ps
pieces_along sizes ps few all =
    let at = along_at (FitsPiece sizes.pairs) [] ps in
    let pieces : ArePieces ps = record {
      few = few;
      weights = λ k lt. let r = range_parts sizes.pairs (piece_at ps k) (at no_piece k all lt).range in (r.0, r.1);
      places = λ k lt. ascends_to (piece_at ps k).pairs (at no_piece k all lt).ascends;
      ascending = λ k lt. less_is _ (sym (behind_at places_test ps k no_piece (omega arith)) ∙ (at no_piece (k + 1) all lt).behind);
    } in
    (pieces, λ k d lt. below_all sizes.pairs (get_or ps k d).pairs (range_parts sizes.pairs (get_or ps k d) (at d k all lt).range).2)

pub pieces_fit : (sizes : Sizes) (ps : List Piece) → sizes.pairs ≤ 250000 → length ps ≤ MOST_TICKETS → AllFrom (piece_of sizes.pairs) [] ps → ArePiecesFor sizes ps
pieces_fit sizes ps small few from = pieces_along sizes ps few (along_from (piece_of sizes.pairs) (FitsPiece sizes.pairs) piece_line (piece_spells sizes.pairs small) [] ps from)

pub along_pieces : (sizes : Sizes) (ps : List Piece) → ArePiecesFor sizes ps → AllAlong (FitsPiece sizes.pairs) [] ps
along_pieces sizes ps are = along_from_at (FitsPiece sizes.pairs) [] ps no_piece (λ k lt. record {
  range = in_range_from (piece_at ps k) (are.0.weights k lt) (are.1 k no_piece lt);
  ascends = ascends_from (piece_at ps k).pairs (are.0.places k lt);
  behind = behind_each places_test ps no_piece (λ j less. ap is_lt (are.0.ascending j less)) k lt;
})
  where
    in_range_from : (piece : Piece) → (1 ≤ piece.weight) × (piece.weight ≤ MOST_TICKETS) → All (λ e. e < sizes.pairs) piece.pairs → in_range sizes.pairs piece.weight piece.pairs ≡ true
    in_range_from piece weight places =
        and_from (nat_le 1 piece.weight && nat_le piece.weight MOST_TICKETS) (list_all (λ place. nat_lt place sizes.pairs) piece.pairs)
        (and_from (nat_le 1 piece.weight) (nat_le piece.weight MOST_TICKETS) (le-leb 1 piece.weight weight.0) (le-leb piece.weight MOST_TICKETS weight.1)) (all_below sizes.pairs piece.pairs places)
