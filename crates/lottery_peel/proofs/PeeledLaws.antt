-- All pieces of shares: in any order they are pieces of these shares, sorted they are those of a lottery, and it fits.
use Rattle.std.proofs.Common.{◌≡◌, ℕ, ◌+◌, ◌*◌, ◌<◌, ◌≤◌, Bool, false, List, [], ◌∷◌, length, refl, ◌∙◌, arith}
use Rattle.std.specs.Prelude.{All}
use Rattle.std.specs.Cmp.Lexicographic.{slice_cmp}
use Rattle.std.specs.List.Sorted.{IsPermutation, IsSortedBy}
use Rattle.std.specs.Ordering.{nat_cmp, is_eq, is_lt, ordering_reverse}
use Rattle.std.specs.declared.cmp.Ordering.{Ordering}
use Rattle.std.specs.declared.cmp.Ordering.TheVariants.{Less, Equal, Greater}
use Rattle.std.proofs.Math.Nat.{mul-le-mul_right}
use Rattle.std.proofs.lemmas.Cmp.{eq_by_cmp_equiv, nat_list_cmp_total}
use Rattle.std.proofs.lemmas.List.Elements.{All-head, All-tail}
use Rattle.std.proofs.lemmas.List.Sorted.{All-permutation, length_permutation, sum_by-IsPermutation}
use Rattle.std.proofs.lemmas.List.Sums.{get_or-le-sum_by, sum_by-cons}
use Rattle.std.proofs.lemmas.Map.Keys.{apart_from_distinct, IsDistinct-IsPermutation}
use Rattle.match_rules.specs.declared.answer.Sieve.{Sieve}
use Rattle.match_rules.specs.declared.lottery.Piece.{Piece}
use Rattle.match_rules.specs.Assignments.{Fits, holds, tickets, times, cap_under}
use Rattle.match_rules.specs.Pieces.{ArePieces, piece_at, no_piece}
use Rattle.match_rules.specs.Rules.{RulesValue, AreRules}
use Rattle.match_rules.specs.SharesFit.{SharesFit}
use Rattle.lottery_peel.specs.Peeling.{IsGoodPiece, same_places, IsPeeled}
use Rattle.lottery_peel.proofs.GoodSteps.{some-tickets}

-- ---- in another order

same_places-flips : (a b : Piece) → same_places a b ≡ same_places b a
same_places-flips a b = (eq_by_cmp_equiv nat_list_cmp_total).symm a.pairs b.pairs

pub peeled_permuted : (rules : RulesValue) (shares : List ℕ) (pieces sorted : List Piece) → IsPermutation pieces sorted → IsPeeled rules shares pieces → IsPeeled rules shares sorted
peeled_permuted rules shares pieces sorted moved peeled = record {
  good = All-permutation (IsGoodPiece rules shares) pieces sorted moved peeled.good;
  whole = sum_by-IsPermutation (λ (p : Piece). p.weight) pieces sorted moved ∙ peeled.whole;
  exact = λ e lt. sum_by-IsPermutation (λ (p : Piece). p.weight * holds p.pairs e) pieces sorted moved ∙ peeled.exact e lt;
  few = let same = length_permutation pieces sorted moved in omega (arith, same, peeled.few);
  apart = IsDistinct-IsPermutation same_places same_places-flips pieces sorted moved peeled.apart;
}

-- ---- in the order of a lottery

-- the order of the places
abbrev pub is_before : Piece → Piece → Bool
is_before a b = is_lt (slice_cmp nat_cmp a.pairs b.pairs)

-- what isn't the same and doesn't come later comes before
comes-before : (here there : Ordering) → here ≡ ordering_reverse there → is_lt there ≡ false → is_eq here ≡ false → here ≡ Less
comes-before Less there turned late apart = refl
comes-before Equal there turned late apart = cc
comes-before Greater Less turned late apart = cc
comes-before Greater Equal turned late apart = cc
comes-before Greater Greater turned late apart = cc

pub peeled_ascending : (rules : RulesValue) (shares : List ℕ) (pieces : List Piece) → IsPeeled rules shares pieces → IsSortedBy is_before pieces
    → (k : ℕ) → k + 1 < length pieces → slice_cmp nat_cmp (piece_at pieces k).pairs (piece_at pieces (k + 1)).pairs ≡ Less
peeled_ascending rules shares pieces peeled sorted k lt =
    comes-before (slice_cmp nat_cmp (piece_at pieces k).pairs (piece_at pieces (k + 1)).pairs) (slice_cmp nat_cmp (piece_at pieces (k + 1)).pairs (piece_at pieces k).pairs)
    (nat_list_cmp_total.antisymm (piece_at pieces k).pairs (piece_at pieces (k + 1)).pairs)
    (sorted k no_piece (omega arith) lt)
    (apart_from_distinct same_places pieces k (k + 1) no_piece peeled.apart (omega arith) lt)

-- each piece has a ticket, so there are at most as many pieces as tickets
few-pieces : (rules : RulesValue) (shares : List ℕ) (pieces : List Piece) → All (IsGoodPiece rules shares) pieces → length pieces ≤ tickets pieces
few-pieces rules shares [] good = omega arith
few-pieces rules shares (piece ∷ pieces) good =
    let first = (All-head (IsGoodPiece rules shares) piece pieces good).some in
    let others = few-pieces rules shares pieces (All-tail (IsGoodPiece rules shares) piece pieces good) in
    let sum = sum_by-cons (λ (p : Piece). p.weight) piece pieces in
    omega (arith, first, others, sum)

-- sorted, the pieces are those of a lottery
pub peeled_pieces : (rules : RulesValue) (shares : List ℕ) (pieces : List Piece) → AreRules rules → IsPeeled rules shares pieces → IsSortedBy is_before pieces → ArePieces pieces
peeled_pieces rules shares pieces are peeled sorted =
    let all = are.tickets in
    let whole = peeled.whole in
    record {
      few = let few = few-pieces rules shares pieces peeled.good in omega arith;
      weights = λ k lt.
          let some = (peeled.good k no_piece lt).some in
          let most = get_or-le-sum_by (λ (p : Piece). p.weight) pieces k no_piece lt in
          (some, omega arith);
      places = λ k lt. (peeled.good k no_piece lt).ascends;
      ascending = peeled_ascending rules shares pieces peeled sorted;
    }

-- ---- what it fits

-- the lottery fits under each sieve under which the shares do
pub peeled_fits : (rules : RulesValue) (sieve : Sieve) (shares : List ℕ) (pieces : List Piece) → AreRules rules → IsPeeled rules shares pieces → SharesFit rules sieve shares → Fits rules sieve pieces
peeled_fits rules sieve shares pieces are peeled fit =
    let whole = peeled.whole in
    record {
      some_ticket = let some = some-tickets rules are in omega arith;
      weights = λ k d lt. (peeled.good k d lt).some;
      pieces = λ k d lt. (peeled.good k d lt).meets;
      caps = λ e lt.
          let capped : times pieces e ≤ cap_under rules sieve e = (let given = peeled.exact e lt in let most = fit.caps e lt in omega arith) in
          let scaled : times pieces e * rules.tickets ≤ cap_under rules sieve e * rules.tickets = mul-le-mul_right rules.tickets capped in
          rw whole scaled;
    }
