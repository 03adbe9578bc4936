-- The total of a lottery is the sum over the pairs of tickets times score.
use Rattle.std.proofs.Common.{◌≡◌, ℕ, ◌+◌, ◌*◌, ◌<◌, ◌==◌, List, [], ◌∷◌, length, get_or, refl, sym, ◌∙◌, ap}
use Rattle.std.proofs.lemmas.List.Sums.{sum_by-cons}
use Rattle.std.proofs.Math.IntN.{zero-*ℤ}
use Rattle.std.specs.Prelude.{All, slice_index, ℤ, pos, ◌+ℤ◌, ◌*ℤ◌}
use Rattle.match_rules.specs.declared.lottery.Piece.{Piece}
use Rattle.match_rules.specs.Answers.{LotteryMatches}
use Rattle.match_rules.specs.Assignments.{holds, times, score_of, total}
use Rattle.match_rules.specs.Rules.{RulesValue, pair_at}
use Rattle.match_rules.specs.SharesFit.{HasShares, shares_score}
use Rattle.match_rules.specs.Sums.{sum_below}
use Rattle.match_rules.proofs.Exchange.{sum_of, exchange, all_first, all_others}
use Rattle.match_rules.proofs.Ints.{sum_times, times_times}
use Rattle.match_rules.proofs.SumLaws.{sum_below-same, sum_below-sum, sum_below-zero, sum_below-times, sum_below-at}

-- the score of a pair
abbrev score : RulesValue → ℕ → ℤ
score rules e = (pair_at rules e).score

score_of-is : (rules : RulesValue) (places : List ℕ) → score_of rules places ≡ sum_of (score rules) places
score_of-is rules [] = refl
score_of-is rules (e ∷ places) = ap (λ z. score rules e +ℤ z) (score_of-is rules places)

-- the score of one piece, pair by pair
score_by_pairs : (rules : RulesValue) (places : List ℕ) → All (λ e. e < length rules.pairs) places
    → score_of rules places ≡ sum_below (length rules.pairs) (λ e. pos (holds places e) *ℤ score rules e)
score_by_pairs rules places known =
    score_of-is rules places
    ∙ exchange (length rules.pairs) (score rules) (λ k e. e == k) (score rules) places
    (λ k d h. sum_below-at (length rules.pairs) (get_or places k d) (score rules) (known k d h))

-- the tickets of a pair times its score
abbrev earned : RulesValue → List Piece → ℕ → ℤ
earned rules lottery e = pos (times lottery e) *ℤ score rules e

times-first : (piece : Piece) (lottery : List Piece) (e : ℕ) → times (piece ∷ lottery) e ≡ piece.weight * holds piece.pairs e + times lottery e
times-first piece lottery e = sum_by-cons (λ piece. piece.weight * holds piece.pairs e) piece lottery

-- with one more piece
earned-first : (rules : RulesValue) (piece : Piece) (lottery : List Piece)
    → sum_below (length rules.pairs) (earned rules (piece ∷ lottery))
    ≡ (pos piece.weight *ℤ sum_below (length rules.pairs) (λ e. pos (holds piece.pairs e) *ℤ score rules e))
    +ℤ sum_below (length rules.pairs) (earned rules lottery)
earned-first rules piece lottery =
    let f : ℕ → ℤ = λ e. pos piece.weight *ℤ (pos (holds piece.pairs e) *ℤ score rules e) in
    let g : ℕ → ℤ = earned rules lottery in
    let term : (e : ℕ) → e < length rules.pairs → earned rules (piece ∷ lottery) e ≡ f e +ℤ g e = λ e h.
    ap (λ n. pos n *ℤ score rules e) (times-first piece lottery e)
    ∙ sum_times (piece.weight * holds piece.pairs e) (times lottery e) (score rules e)
    ∙ ap (λ z. z +ℤ g e) (sym (times_times piece.weight (holds piece.pairs e) (score rules e))) in
    sum_below-same (length rules.pairs) (earned rules (piece ∷ lottery)) (λ e. f e +ℤ g e) term
    ∙ sum_below-sum (length rules.pairs) f g
    ∙ ap (λ z. z +ℤ sum_below (length rules.pairs) g) (sum_below-times piece.weight (length rules.pairs) (λ e. pos (holds piece.pairs e) *ℤ score rules e))

pub total_by_pairs : (rules : RulesValue) (lottery : List Piece) → LotteryMatches rules lottery
    → total rules lottery ≡ sum_below (length rules.pairs) (λ e. pos (times lottery e) *ℤ (pair_at rules e).score)
total_by_pairs rules [] known = sym (sum_below-zero (length rules.pairs) (λ e. pos 0 *ℤ score rules e) (λ e h. zero-*ℤ (score rules e)))
total_by_pairs rules (piece ∷ lottery) known =
    let first = score_by_pairs rules piece.pairs (all_first (λ (piece : Piece). All (λ e. e < length rules.pairs) piece.pairs) piece lottery known) in
    let others = total_by_pairs rules lottery (all_others (λ (piece : Piece). All (λ e. e < length rules.pairs) piece.pairs) piece lottery known) in
    rw (first, others) (sym (earned-first rules piece lottery))

-- where each pair has its share, the total is the score of the shares
pub total_of_shares : (rules : RulesValue) (shares : List ℕ) (lottery : List Piece) → LotteryMatches rules lottery → HasShares rules shares lottery
    → total rules lottery ≡ shares_score rules shares
total_of_shares rules shares lottery known exact =
    total_by_pairs rules lottery known
    ∙ sum_below-same (length rules.pairs) (earned rules lottery) (λ e. pos (slice_index shares e) *ℤ score rules e)
    (λ e h. ap (λ n. pos n *ℤ score rules e) (exact e h))
