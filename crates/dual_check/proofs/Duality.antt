-- No lottery that fits has a greater total than the bound of any prices, for scores and prices of any kind.
use Rattle.std.proofs.Common.{◌≡◌, ℕ, ◌+◌, ◌*◌, ◌<◌, ◌≤◌, ◌==◌, inl, inr, Bool, true, false, List, [], ◌∷◌, length, refl, sym, ◌∙◌, ap, arith, get_or}
use Rattle.std.proofs.lemmas.Int.{ints}
use Rattle.std.proofs.lemmas.Bool.Decides.{nat_tests}
use Rattle.std.proofs.lemmas.List.Sums.{sum_by-cons}
use Rattle.std.proofs.Math.IntN.{zero-*ℤ, *ℤ_comm}
use Rattle.std.specs.Prelude.{All, ℤ, pos, ◌+ℤ◌, ◌-ℤ◌, ◌*ℤ◌, ◌≤ℤ◌, Option, Some, None}
use Rattle.std.specs.Int.{int_max}
use Rattle.std.specs.Option.{option_map_or}
use Rattle.match_rules.specs.declared.lottery.Piece.{Piece}
use Rattle.match_rules.specs.declared.answer.Sieve.{Sieve}
use Rattle.match_rules.specs.Rules.{RulesValue, AreRules, paper_at, reviewer_at, pair_at, is_locked}
use Rattle.match_rules.specs.Groups.{group_count, group_of, is_in_group}
use Rattle.match_rules.specs.Assignments.{Meets, Fits, tickets, times, holds, paper_count, reviewer_count, member_count, keeps, cap_under}
use Rattle.match_rules.specs.Evidence.{most_at}
use Rattle.match_rules.specs.Sums.{sum_below, int_when, when}
use Rattle.match_rules.proofs.Ints.{sum_times, times_sum, times_times, times_swap, times_more, times_zero, between, up_to, most_at-times}
use Rattle.match_rules.proofs.SumLaws.{sum_below-same, sum_below-more, sum_below-sum, sum_below-zero, sum_below-times, sum_below-at}
use Rattle.match_rules.proofs.Exchange.{sum_of, sum_of-sum, sum_of-same, exchange, all_first, all_others}
use Rattle.match_rules.proofs.GroupLaws.{group_of_below}

-- scores of pairs, and prices of papers, groups and reviewers, of any kind
pub record Values : Type 0 where
  pub score : ℕ → ℤ
  pub paper : ℕ → ℤ
  pub group : ℕ → ℤ
  pub reviewer : ℕ → ℤ

abbrev pub paper_of : RulesValue → Values → ℕ → ℤ
paper_of rules v e = v.paper (pair_at rules e).paper

abbrev pub group_in : RulesValue → Values → ℕ → ℤ
group_in rules v e = option_map_or v.group (group_of rules e) (pos 0)

abbrev pub reviewer_of : RulesValue → Values → ℕ → ℤ
reviewer_of rules v e = v.reviewer (pair_at rules e).reviewer

abbrev pub rest_by : RulesValue → Values → ℕ → ℤ
rest_by rules v e = ((v.score e -ℤ paper_of rules v e) -ℤ group_in rules v e) -ℤ reviewer_of rules v e

abbrev pub papers_by : RulesValue → Values → ℤ
papers_by rules v = sum_below (length rules.papers) (λ p. pos (paper_at rules p).demand *ℤ v.paper p)

abbrev pub groups_by : RulesValue → Values → ℤ
groups_by rules v = sum_below (group_count rules) (λ g. pos rules.limit *ℤ int_max (pos 0) (v.group g))

abbrev pub reviewers_by : RulesValue → Values → ℤ
reviewers_by rules v = sum_below (length rules.reviewers) (λ r. most_at (reviewer_at rules r).least (reviewer_at rules r).greatest (v.reviewer r))

abbrev pub parts_by : RulesValue → Values → ℤ
parts_by rules v = (papers_by rules v +ℤ groups_by rules v) +ℤ reviewers_by rules v

abbrev pub pair_by : RulesValue → Sieve → Values → ℕ → ℤ
pair_by rules sieve v e = int_when (keeps rules sieve e) (most_at (pair_at rules e).floor (pair_at rules e).cap (rest_by rules v e))

abbrev pub pairs_by : RulesValue → Sieve → Values → ℤ
pairs_by rules sieve v = sum_below (length rules.pairs) (pair_by rules sieve v)

abbrev pub bound_by : RulesValue → Sieve → Values → ℤ
bound_by rules sieve v = (pos rules.tickets *ℤ parts_by rules v) +ℤ pairs_by rules sieve v

abbrev pub total_by : Values → List Piece → ℤ
total_by v [] = pos 0
total_by v (piece ∷ lottery) = (pos piece.weight *ℤ sum_of v.score piece.pairs) +ℤ total_by v lottery

-- ---- the prices of the members of one assignment

papers_held : (rules : RulesValue) (v : Values) (places : List ℕ) → AreRules rules → Meets rules places
    → sum_of (paper_of rules v) places ≡ papers_by rules v
papers_held rules v places are meets =
    exchange (length rules.papers) v.paper (λ p e. (pair_at rules e).paper == p) (paper_of rules v) places
    (λ k d h. sum_below-at (length rules.papers) (pair_at rules (get_or places k d)).paper v.paper (are.pairs.each (get_or places k d) (meets.candidates k d h)).paper)
    ∙ sum_below-same (length rules.papers) (λ p. pos (paper_count rules places p) *ℤ v.paper p) (λ p. pos (paper_at rules p).demand *ℤ v.paper p)
    (λ p h. ap (λ n. pos n *ℤ v.paper p) (meets.papers p h))

reviewers_held : (rules : RulesValue) (v : Values) (places : List ℕ) → AreRules rules → Meets rules places
    → sum_of (reviewer_of rules v) places ≤ℤ reviewers_by rules v
reviewers_held rules v places are meets =
    let counted : sum_of (reviewer_of rules v) places ≡ sum_below (length rules.reviewers) (λ r. pos (reviewer_count rules places r) *ℤ v.reviewer r) =
    exchange (length rules.reviewers) v.reviewer (λ r e. (pair_at rules e).reviewer == r) (reviewer_of rules v) places
    (λ k d h. sum_below-at (length rules.reviewers) (pair_at rules (get_or places k d)).reviewer v.reviewer (are.pairs.each (get_or places k d) (meets.candidates k d h)).reviewer) in
    let bounded : sum_below (length rules.reviewers) (λ r. pos (reviewer_count rules places r) *ℤ v.reviewer r) ≤ℤ reviewers_by rules v =
    sum_below-more (length rules.reviewers) (λ r. pos (reviewer_count rules places r) *ℤ v.reviewer r)
    (λ r. most_at (reviewer_at rules r).least (reviewer_at rules r).greatest (v.reviewer r))
    (λ r h. between (reviewer_at rules r).least (reviewer_count rules places r) (reviewer_at rules r).greatest (v.reviewer r) (meets.least r h) (meets.greatest r h)) in
    omega (arith, ints)

-- what a pair's group gives is the sum over all groups of what it is in
group_gives : (n : ℕ) (group : ℕ → ℤ) (place : Option ℕ) → ((g : ℕ) → place ≡ Some g → g < n)
    → option_map_or group place (pos 0) ≡ sum_below n (λ g. int_when (option_map_or (λ k. k == g) place false) (group g))
group_gives n group None below = sym (sum_below-zero n (λ g. pos 0) (λ k h. refl))
group_gives n group (Some m) below = sum_below-at n m group (below m refl)

groups_held : (rules : RulesValue) (v : Values) (places : List ℕ) → Meets rules places
    → sum_of (group_in rules v) places ≤ℤ groups_by rules v
groups_held rules v places meets =
    let counted : sum_of (group_in rules v) places ≡ sum_below (group_count rules) (λ g. pos (member_count rules places g) *ℤ v.group g) =
    exchange (group_count rules) v.group (λ g e. is_in_group rules g e) (group_in rules v) places
    (λ k d h. group_gives (group_count rules) v.group (group_of rules (get_or places k d)) (λ g e. group_of_below rules (get_or places k d) g e)) in
    let bounded : sum_below (group_count rules) (λ g. pos (member_count rules places g) *ℤ v.group g) ≤ℤ groups_by rules v =
    sum_below-more (group_count rules) (λ g. pos (member_count rules places g) *ℤ v.group g)
    (λ g. pos rules.limit *ℤ int_max (pos 0) (v.group g))
    (λ g h. up_to (member_count rules places g) rules.limit (v.group g) (meets.of_groups g h)) in
    omega (arith, ints)

-- what is left of the members' scores, pair by pair
abbrev pub held_by : RulesValue → Values → List ℕ → ℤ
held_by rules v places = sum_below (length rules.pairs) (λ e. pos (holds places e) *ℤ rest_by rules v e)

rest_held : (rules : RulesValue) (v : Values) (places : List ℕ) → Meets rules places
    → sum_of (rest_by rules v) places ≡ held_by rules v places
rest_held rules v places meets =
    exchange (length rules.pairs) (rest_by rules v) (λ k e. e == k) (rest_by rules v) places
    (λ k d h. sum_below-at (length rules.pairs) (get_or places k d) (rest_by rules v) (meets.candidates k d h))

-- the score of an assignment that meets the rules
piece_bound : (rules : RulesValue) (v : Values) (places : List ℕ) → AreRules rules → Meets rules places
    → sum_of v.score places ≤ℤ (parts_by rules v +ℤ held_by rules v places)
piece_bound rules v places are meets =
    let split : sum_of v.score places ≡ sum_of (λ e. rest_by rules v e +ℤ (paper_of rules v e +ℤ (group_in rules v e +ℤ reviewer_of rules v e))) places =
    sum_of-same v.score (λ e. rest_by rules v e +ℤ (paper_of rules v e +ℤ (group_in rules v e +ℤ reviewer_of rules v e))) (λ e. omega (arith, ints)) places in
    let one = sum_of-sum (rest_by rules v) (λ e. paper_of rules v e +ℤ (group_in rules v e +ℤ reviewer_of rules v e)) places in
    let two = sum_of-sum (paper_of rules v) (λ e. group_in rules v e +ℤ reviewer_of rules v e) places in
    let three = sum_of-sum (group_in rules v) (reviewer_of rules v) places in
    let rest = rest_held rules v places meets in
    let papers = papers_held rules v places are meets in
    let in_groups = groups_held rules v places meets in
    let reviewers = reviewers_held rules v places are meets in
    omega (arith, ints)

-- ---- all tickets

-- what is left of the scores of all tickets, pair by pair
abbrev pub times_by : RulesValue → Values → List Piece → ℤ
times_by rules v lottery = sum_below (length rules.pairs) (λ e. pos (times lottery e) *ℤ rest_by rules v e)

tickets-first : (piece : Piece) (lottery : List Piece) → tickets (piece ∷ lottery) ≡ piece.weight + tickets lottery
tickets-first piece lottery = sum_by-cons (λ piece. piece.weight) piece lottery

times-first : (piece : Piece) (lottery : List Piece) (e : ℕ) → times (piece ∷ lottery) e ≡ piece.weight * holds piece.pairs e + times lottery e
times-first piece lottery e = sum_by-cons (λ piece. piece.weight * holds piece.pairs e) piece lottery

times_by-first : (rules : RulesValue) (v : Values) (piece : Piece) (lottery : List Piece)
    → times_by rules v (piece ∷ lottery) ≡ (pos piece.weight *ℤ held_by rules v piece.pairs) +ℤ times_by rules v lottery
times_by-first rules v piece lottery =
    let f : ℕ → ℤ = λ e. pos piece.weight *ℤ (pos (holds piece.pairs e) *ℤ rest_by rules v e) in
    let g : ℕ → ℤ = λ e. pos (times lottery e) *ℤ rest_by rules v e in
    let term : (e : ℕ) → e < length rules.pairs → pos (times (piece ∷ lottery) e) *ℤ rest_by rules v e ≡ f e +ℤ g e = λ e h.
    ap (λ n. pos n *ℤ rest_by rules v e) (times-first piece lottery e)
    ∙ sum_times (piece.weight * holds piece.pairs e) (times lottery e) (rest_by rules v e)
    ∙ ap (λ z. z +ℤ g e) (sym (times_times piece.weight (holds piece.pairs e) (rest_by rules v e))) in
    sum_below-same (length rules.pairs) (λ e. pos (times (piece ∷ lottery) e) *ℤ rest_by rules v e) (λ e. f e +ℤ g e) term
    ∙ sum_below-sum (length rules.pairs) f g
    ∙ ap (λ z. z +ℤ times_by rules v lottery) (sum_below-times piece.weight (length rules.pairs) (λ e. pos (holds piece.pairs e) *ℤ rest_by rules v e))

lottery_bound : (rules : RulesValue) (v : Values) (lottery : List Piece) → AreRules rules → All (λ piece. Meets rules piece.pairs) lottery
    → total_by v lottery ≤ℤ ((pos (tickets lottery) *ℤ parts_by rules v) +ℤ times_by rules v lottery)
lottery_bound rules v [] are meet =
    let none : times_by rules v [] ≡ pos 0 = sum_below-zero (length rules.pairs) (λ e. pos 0 *ℤ rest_by rules v e) (λ e h. zero-*ℤ (rest_by rules v e)) in
    let nothing : pos 0 *ℤ parts_by rules v ≡ pos 0 = zero-*ℤ (parts_by rules v) in
    omega (arith, ints)
lottery_bound rules v (piece ∷ lottery) are meet =
    let others = lottery_bound rules v lottery are (all_others (λ (piece : Piece). Meets rules piece.pairs) piece lottery meet) in
    let first = piece_bound rules v piece.pairs are (all_first (λ (piece : Piece). Meets rules piece.pairs) piece lottery meet) in
    let weighed = times_more piece.weight (sum_of v.score piece.pairs) (parts_by rules v +ℤ held_by rules v piece.pairs) first in
    let opened = times_sum piece.weight (parts_by rules v) (held_by rules v piece.pairs) in
    let count : pos (tickets (piece ∷ lottery)) *ℤ parts_by rules v ≡ (pos piece.weight *ℤ parts_by rules v) +ℤ (pos (tickets lottery) *ℤ parts_by rules v) =
    ap (λ n. pos n *ℤ parts_by rules v) (tickets-first piece lottery) ∙ sum_times piece.weight (tickets lottery) (parts_by rules v) in
    let left = times_by-first rules v piece lottery in
    omega (arith, ints)

-- ---- floors and caps

-- a locked pair is in each piece
times-locked : (rules : RulesValue) (lottery : List Piece) (e : ℕ) → All (λ piece. Meets rules piece.pairs) lottery
    → e < length rules.pairs → is_locked rules e ≡ true → times lottery e ≡ tickets lottery
times-locked rules [] e meet below locked = refl
times-locked rules (piece ∷ lottery) e meet below locked =
    let others = times-locked rules lottery e (all_others (λ (piece : Piece). Meets rules piece.pairs) piece lottery meet) below locked in
    let first : holds piece.pairs e ≡ 1 = (all_first (λ (piece : Piece). Meets rules piece.pairs) piece lottery meet).locked e below locked in
    let weight : piece.weight * holds piece.pairs e ≡ piece.weight = rw first (omega arith) in
    let a = times-first piece lottery e in
    let b = tickets-first piece lottery in
    omega arith

-- the tickets of a pair are at least its floor's part
floor_held : (rules : RulesValue) (sieve : Sieve) (lottery : List Piece) (e : ℕ) → AreRules rules → Fits rules sieve lottery → e < length rules.pairs
    → (pair_at rules e).floor * tickets lottery ≤ rules.tickets * times lottery e
floor_held rules sieve lottery e are fits below =
    let P : Bool → Type 0 = λ b. is_locked rules e ≡ b → (pair_at rules e).floor * tickets lottery ≤ rules.tickets * times lottery e in
    elim (is_locked rules e) as P [
      | true ↦ λ locked.
          let same : times lottery e ≡ tickets lottery = times-locked rules lottery e fits.pieces below locked in
          let all : (pair_at rules e).floor ≡ rules.tickets = grind (arith, nat_tests) in
          rw (all, same) (omega arith)
      | false ↦ λ open_.
          elim (are.pairs.each e below).whole [
            | inl none ↦ rw none (omega arith)
            | inr all ↦ absurd (grind (arith, nat_tests))
          ]
    ] refl

-- a kept pair gives at most what its floor or its cap makes, and another pair gives nothing
pair_held : (rules : RulesValue) (sieve : Sieve) (v : Values) (lottery : List Piece) (e : ℕ) → AreRules rules → Fits rules sieve lottery → e < length rules.pairs
    → (pos rules.tickets *ℤ (pos (times lottery e) *ℤ rest_by rules v e)) ≤ℤ (pos (tickets lottery) *ℤ pair_by rules sieve v e)
pair_held rules sieve v lottery e are fits below =
    let z : ℤ = rest_by rules v e in
    let floor = floor_held rules sieve lottery e are fits below in
    let cap : rules.tickets * times lottery e ≤ cap_under rules sieve e * tickets lottery =
    let turn : rules.tickets * times lottery e ≡ times lottery e * rules.tickets = omega arith in
    rw turn (fits.caps e below) in
    let goes : pos rules.tickets *ℤ (pos (times lottery e) *ℤ z) ≡ pos (rules.tickets * times lottery e) *ℤ z = times_times rules.tickets (times lottery e) z in
    let P : Bool → Type 0 = λ b. (rules.tickets * times lottery e ≤ when b (pair_at rules e).cap * tickets lottery)
    → (pos (rules.tickets * times lottery e) *ℤ z) ≤ℤ (pos (tickets lottery) *ℤ int_when b (most_at (pair_at rules e).floor (pair_at rules e).cap z)) in
    let held : (b : Bool) → P b = λ b. elim b as P [
      | true ↦ λ top.
          let within = between ((pair_at rules e).floor * tickets lottery) (rules.tickets * times lottery e) ((pair_at rules e).cap * tickets lottery) z floor top in
          let factor = most_at-times (pair_at rules e).floor (pair_at rules e).cap (tickets lottery) z in
          omega (arith, ints)
      | false ↦ λ top.
          let none : rules.tickets * times lottery e ≡ 0 = omega arith in
          rw none (rw (zero-*ℤ z) (omega (arith, ints, times_zero (tickets lottery))))
    ] in
    rw goes (held (keeps rules sieve e) cap)

-- ---- the law

pub no_lottery_beats_bound_by : (rules : RulesValue) (sieve : Sieve) (v : Values) (lottery : List Piece) → AreRules rules → Fits rules sieve lottery
    → (total_by v lottery *ℤ pos rules.tickets) ≤ℤ (bound_by rules sieve v *ℤ pos (tickets lottery))
no_lottery_beats_bound_by rules sieve v lottery are fits =
    let t : ℕ = tickets lottery in
    let n : ℕ = length rules.pairs in
    let total = lottery_bound rules v lottery are fits.pieces in
    let weighed = times_more rules.tickets (total_by v lottery) ((pos t *ℤ parts_by rules v) +ℤ times_by rules v lottery) total in
    let opened = times_sum rules.tickets (pos t *ℤ parts_by rules v) (times_by rules v lottery) in
    let turned = times_swap rules.tickets t (parts_by rules v) in
    let each : sum_below n (λ e. pos rules.tickets *ℤ (pos (times lottery e) *ℤ rest_by rules v e)) ≤ℤ sum_below n (λ e. pos t *ℤ pair_by rules sieve v e) =
    sum_below-more n (λ e. pos rules.tickets *ℤ (pos (times lottery e) *ℤ rest_by rules v e)) (λ e. pos t *ℤ pair_by rules sieve v e)
    (λ e h. pair_held rules sieve v lottery e are fits h) in
    let left = sum_below-times rules.tickets n (λ e. pos (times lottery e) *ℤ rest_by rules v e) in
    let right = sum_below-times t n (pair_by rules sieve v) in
    let whole = times_sum t (pos rules.tickets *ℤ parts_by rules v) (pairs_by rules sieve v) in
    let a = *ℤ_comm (total_by v lottery) (pos rules.tickets) in
    let b = *ℤ_comm (bound_by rules sieve v) (pos t) in
    omega (arith, ints)
