-- Counts that are rounded from shares that fit are those of an assignment that meets the rules.
use Rattle.std.proofs.Common.{◌≡◌, ℕ, ◌+◌, ◌*◌, ◌/◌, ◌%◌, ◌<◌, ◌≤◌, true, List, length, arith, inl, inr}
use Rattle.std.specs.Prelude.{slice_index}
use Rattle.std.proofs.lemmas.Bool.{cases_eq, cases_lt, eqb-true}
use Rattle.std.proofs.lemmas.Nat.{le-div}
use Rattle.std.proofs.Math.Nat.{div-add-mod, mul-le-mul_left}
use Rattle.match_rules.specs.declared.answer.Sieve.TheVariants.{All as EveryPair}
use Rattle.match_rules.specs.Rules.{RulesValue, AreRules, pair_at, paper_at, reviewer_at, is_locked}
use Rattle.match_rules.specs.Answers.{IsRounding}
use Rattle.match_rules.specs.Assignments.{keeps, cap_under}
use Rattle.match_rules.specs.Chosen.{AreChoices, CountsMeet, CountsRound}
use Rattle.match_rules.specs.SharesFit.{SharesFit, paper_shares, group_shares, reviewer_shares}
use Rattle.bounded_network.specs.Spans.{AreWithin, IsBetween, rounded, rounded_spans}
use Rattle.bounded_network.proofs.Small.{when-at_most}

-- a multiple of the tickets that is no more than an amount is no more than its count, and one that is no less is no less
count-least : (all times amount count : ℕ) → 1 ≤ all → all * times ≤ amount → IsBetween (rounded all amount) count → times ≤ count
count-least all times amount count some least between =
    let low : times ≤ amount / all = le-div times amount all some (omega arith) in
    omega (arith, between.0)

count-most : (all times amount count : ℕ) → 1 ≤ all → amount ≤ all * times → IsBetween (rounded all amount) count → count ≤ times
count-most all times amount count some most between =
    let whole = div-add-mod amount all in
    elim (cases_lt (amount / all) times) [
      | inl less ↦ omega (arith, between.1)
      | inr more ↦
          let times_all : all * times ≤ all * (amount / all) = mul-le-mul_left all more in
          let none : amount % all ≡ 0 = omega arith in
          let same : amount / all ≡ times = quotient all times (amount / all) amount some (omega arith) (omega arith) more in
          omega (arith, between.1)
    ]
  where
    quotient : (all times q amount : ℕ) → 1 ≤ all → all * q ≡ amount → amount ≤ all * times → times ≤ q → q ≡ times
    quotient all times q amount some whole most more = elim (cases_eq q times) [
      | inl same ↦ same
      | inr other ↦
          let next : times + 1 ≤ q = omega arith in
          let above : all * (times + 1) ≤ all * q = mul-le-mul_left all next in
          absurd (omega arith)
    ]

count-rounds : (all amount count : ℕ) → IsBetween (rounded all amount) count → IsRounding all amount count
count-rounds all amount count between = elim (cases_eq count (amount / all)) [
  | inl down ↦ inl down
  | inr up ↦ inr (omega (arith, between.0, between.1))
]

-- a pair has at most all tickets
share-most : (rules : RulesValue) (shares : List ℕ) → AreRules rules → SharesFit rules EveryPair shares → (e : ℕ) → e < length rules.pairs → slice_index shares e ≤ rules.tickets * 1
share-most rules shares are fit e lt =
    let capped : slice_index shares e ≤ cap_under rules EveryPair e = fit.caps e lt in
    let cap = when-at_most (keeps rules EveryPair e) (pair_at rules e).cap in
    let most = (are.pairs.each e lt).within in
    let tickets = are.tickets in
    omega arith

-- a locked pair has all
locked-share : (rules : RulesValue) (shares : List ℕ) → SharesFit rules EveryPair shares → (e : ℕ) → e < length rules.pairs → is_locked rules e ≡ true → rules.tickets * 1 ≤ slice_index shares e
locked-share rules shares fit e lt locked =
    let all : (pair_at rules e).floor ≡ rules.tickets = eqb-true _ _ locked in
    let least = fit.floors e lt in
    omega arith

pub some-tickets : (rules : RulesValue) → AreRules rules → 1 ≤ rules.tickets
some-tickets rules are = let tickets = are.tickets in omega arith

choices-within : (rules : RulesValue) (shares counts : List ℕ) → AreRules rules → SharesFit rules EveryPair shares
    → AreWithin rules (rounded_spans rules shares rules.tickets) counts → AreChoices rules counts
choices-within rules shares counts are fit within = record {
  long = within.long;
  single = λ e lt.
      let b : e < length rules.pairs = let long = within.long in omega arith in
      count-most rules.tickets 1 (slice_index shares e) (slice_index counts e) (some-tickets rules are) (share-most rules shares are fit e b) (within.pairs e b);
}

pub meet-within : (rules : RulesValue) (shares counts : List ℕ) → AreRules rules → SharesFit rules EveryPair shares
    → AreWithin rules (rounded_spans rules shares rules.tickets) counts → CountsMeet rules counts
meet-within rules shares counts are fit within =
    let all : ℕ = rules.tickets in
    let some = some-tickets rules are in
    let choices = choices-within rules shares counts are fit within in
    record {
      choices = choices;
      papers = λ p lt.
          let whole = fit.papers p lt in
          let low = count-least all (paper_at rules p).demand (paper_shares rules shares p) (paper_shares rules counts p) some (omega arith) (within.papers p lt) in
          let high = count-most all (paper_at rules p).demand (paper_shares rules shares p) (paper_shares rules counts p) some (omega arith) (within.papers p lt) in
          omega arith;
      least = λ r lt. count-least all (reviewer_at rules r).least (reviewer_shares rules shares r) (reviewer_shares rules counts r) some (fit.least r lt) (within.reviewers r lt);
      greatest = λ r lt. count-most all (reviewer_at rules r).greatest (reviewer_shares rules shares r) (reviewer_shares rules counts r) some (fit.greatest r lt) (within.reviewers r lt);
      of_groups = λ g lt. count-most all rules.limit (group_shares rules shares g) (group_shares rules counts g) some (fit.of_groups g lt) (within.of_groups g lt);
      locked = λ e lt locked.
          let low = count-least all 1 (slice_index shares e) (slice_index counts e) some (locked-share rules shares fit e lt locked) (within.pairs e lt) in
          let high = count-most all 1 (slice_index shares e) (slice_index counts e) some (share-most rules shares are fit e lt) (within.pairs e lt) in
          omega arith;
    }

pub round-within : (rules : RulesValue) (shares counts : List ℕ) → AreRules rules → SharesFit rules EveryPair shares
    → AreWithin rules (rounded_spans rules shares rules.tickets) counts → CountsRound rules shares counts
round-within rules shares counts are fit within = record {
  choices = choices-within rules shares counts are fit within;
  reviewers = λ r lt. count-rounds rules.tickets (reviewer_shares rules shares r) (reviewer_shares rules counts r) (within.reviewers r lt);
  of_groups = λ g lt. count-rounds rules.tickets (group_shares rules shares g) (group_shares rules counts g) (within.of_groups g lt);
  pairs = λ e lt. count-rounds rules.tickets (slice_index shares e) (slice_index counts e) (within.pairs e lt);
}
