-- The loop that makes pieces of shares: its invariant at the start, after a step, and at the end.
use Rattle.std.proofs.Common.{◌≡◌, ℕ, zero, suc, ◌*◌, ◌<◌, ◌≤◌, false, List, [], ◌∷◌, ◌++◌, length, get_or, refl, sym, ap, ◌∙◌, subst, arith, inl, inr}
use Rattle.std.specs.Prelude.{slice_index}
use Rattle.std.specs.Cmp.Lexicographic.{slice_cmp}
use Rattle.std.specs.List.{IsDistinct}
use Rattle.std.specs.Ordering.{nat_cmp, is_eq}
use Rattle.std.proofs.Math.Nat.{div-one}
use Rattle.std.proofs.lemmas.Bool.{cases_Bool, cases_lt}
use Rattle.std.proofs.lemmas.Grind.{same_number_lists}
use Rattle.std.proofs.lemmas.List.{get_or_append_left, get_or_push, length_push}
use Rattle.std.proofs.lemmas.List.Elements.{All-nil, All-push}
use Rattle.std.proofs.lemmas.List.Sums.{sum_by_push}
use Rattle.std.proofs.lemmas.Map.Keys.{apart_from_distinct, IsDistinct-from_apart}
use Rattle.std.proofs.lemmas.Map.Text.{is_eq-slice_cmp}
use Rattle.std.proofs.lemmas.Slice.Eq.{bytes_eq-Decides}
use Rattle.match_rules.specs.declared.answer.Sieve.TheVariants.{All as EveryPair}
use Rattle.match_rules.specs.declared.lottery.Piece.{Piece}
use Rattle.match_rules.specs.Answers.{Rounded}
use Rattle.match_rules.specs.Assignments.{holds}
use Rattle.match_rules.specs.Chosen.{chosen_places, AreChoices, CountsMeet, CountsRound}
use Rattle.match_rules.specs.Pieces.{piece_at, no_piece}
use Rattle.match_rules.specs.Rules.{RulesValue, AreRules}
use Rattle.match_rules.specs.SharesFit.{SharesFit, group_shares, reviewer_shares}
use Rattle.match_rules.proofs.ChosenLaws.{chosen_places-ascends, chosen-meets, chosen-rounded}
use Rattle.bounded_network.specs.Compile.{amounts_in, flow_of}
use Rattle.bounded_network.specs.Spans.{AreWithin, rounded, rounded_spans}
use Rattle.bounded_network.proofs.Compiled.{flow-length, flow-of_pair}
use Rattle.lottery_peel.specs.Peeling.{AreRounded, IsNext, IsNarrower, IsGoodPiece, same_places, IsPeeling, IsStepTo, IsPeeled}
use Rattle.lottery_peel.proofs.AmountLists.{AreSteps, all-narrower, all-nothing, open-less, never-again, rounded-before}
use Rattle.lottery_peel.proofs.FlowSteps.{flow-less, flow-open, within-rounded}
use Rattle.lottery_peel.proofs.GoodSteps.{meet-within, round-within, some-tickets}

-- ---- the places of counts

-- the places of counts of 0 or 1 hold each pair as often as it counts: with one ticket, a rounded share is the share
pub chosen-holds : (rules : RulesValue) (counts : List ℕ) → AreChoices rules counts → (e : ℕ) → e < length rules.pairs → holds (chosen_places counts) e ≡ slice_index counts e
chosen-holds rules counts choices e lt =
    let one : RulesValue = record rules { tickets = 1 } in
    let round : CountsRound one counts counts = record {
      choices = record { long = choices.long; single = choices.single };
      reviewers = λ r b. inl (sym (div-one (reviewer_shares one counts r)));
      of_groups = λ g b. inl (sym (div-one (group_shares one counts g)));
      pairs = λ k b. inl (sym (div-one (slice_index counts k)));
    } in
    let placed : Rounded one counts (chosen_places counts) = chosen-rounded one counts counts round in
    elim (placed.pairs e lt) [
      | inl down ↦ down ∙ div-one (slice_index counts e)
      | inr up ↦ let same = div-one (slice_index counts e) in omega arith
    ]

-- so counts of the same places are the same
counts-of_places : (rules : RulesValue) (counts others : List ℕ) → AreChoices rules counts → AreChoices rules others → chosen_places counts ≡ chosen_places others → counts ≡ others
counts-of_places rules counts others here there same =
    same_number_lists counts others (here.long ∙ sym there.long)
    (λ e lt.
    let b : e < length rules.pairs = let long = here.long in omega arith in
    sym (chosen-holds rules counts here e b) ∙ ap (λ places. holds places e) same ∙ chosen-holds rules others there e b)

-- lists that differ are told apart
told-apart : (xs ys : List ℕ) → (xs ≡ ys → ⊥) → is_eq (slice_cmp nat_cmp xs ys) ≡ false
told-apart xs ys other = elim (cases_Bool (is_eq (slice_cmp nat_cmp xs ys))) [
  | inl same ↦ absurd (other ((bytes_eq-Decides xs ys).0 (sym (is_eq-slice_cmp xs ys) ∙ same)))
  | inr apart ↦ apart
]

-- ---- a next assignment

-- its counts are rounded from all shares, since bounds only narrow
rounded-first : (rules : RulesValue) (shares : List ℕ) (left : ℕ) (rest : List ℕ) (pieces : List Piece) (counts : List ℕ)
    → IsPeeling rules shares left rest pieces → 1 ≤ left → IsNext rules rest left counts → AreRounded rules.tickets (flow_of rules shares) counts
rounded-first rules shares left rest pieces counts peeling some is =
    rounded-before rules.tickets (flow_of rules shares) left (flow_of rules rest) counts (flow-length rules rest ∙ sym (flow-length rules shares)) (peeling.narrow some) is.rounds

next-within : (rules : RulesValue) (shares : List ℕ) (left : ℕ) (rest : List ℕ) (pieces : List Piece) (counts : List ℕ)
    → IsPeeling rules shares left rest pieces → 1 ≤ left → IsNext rules rest left counts → AreWithin rules (rounded_spans rules shares rules.tickets) (amounts_in rules counts)
next-within rules shares left rest pieces counts peeling some is =
    within-rounded rules shares rules.tickets counts (rounded-first rules shares left rest pieces counts peeling some is) is.flows

pub next_meets : (rules : RulesValue) (shares : List ℕ) (left : ℕ) (rest : List ℕ) (pieces : List Piece) (counts : List ℕ) → AreRules rules → SharesFit rules EveryPair shares
    → IsPeeling rules shares left rest pieces → 1 ≤ left → IsNext rules rest left counts → CountsMeet rules (amounts_in rules counts)
next_meets rules shares left rest pieces counts are fit peeling some is =
    meet-within rules shares (amounts_in rules counts) are fit (next-within rules shares left rest pieces counts peeling some is)

pub next_rounds : (rules : RulesValue) (shares : List ℕ) (left : ℕ) (rest : List ℕ) (pieces : List Piece) (counts : List ℕ) → AreRules rules → SharesFit rules EveryPair shares
    → IsPeeling rules shares left rest pieces → 1 ≤ left → IsNext rules rest left counts → CountsRound rules shares (amounts_in rules counts)
next_rounds rules shares left rest pieces counts are fit peeling some is =
    round-within rules shares (amounts_in rules counts) are fit (next-within rules shares left rest pieces counts peeling some is)

-- ---- the start

pub peeling_first : (rules : RulesValue) (shares : List ℕ) → AreRules rules → SharesFit rules EveryPair shares → IsPeeling rules shares rules.tickets shares []
peeling_first rules shares are fit =
    let some = some-tickets rules are in
    record {
      long = fit.long;
      good = All-nil (IsGoodPiece rules shares);
      whole = omega arith;
      exact = λ e lt. omega arith;
      narrow = λ positive a lt. (omega arith, omega arith);
      few = λ positive. omega arith;
      gone = λ positive counts is k lt. absurd (omega arith);
      empty = λ none. absurd (omega arith);
      last = λ none. absurd (omega arith);
      apart = IsDistinct-from_apart same_places [] (λ i j d before within. absurd (omega arith));
    }

-- ---- a step

-- the amounts of everything
steps-of : (rules : RulesValue) (left : ℕ) (rest counts : List ℕ) (piece : Piece) (next : ℕ) (new : List ℕ) → 1 ≤ left → length rest ≡ length rules.pairs
    → IsStepTo rules left rest counts piece next new → AreSteps left (flow_of rules rest) counts piece.weight next (flow_of rules new)
steps-of rules left rest counts piece next new some long step = record {
  some = some;
  rounds = step.assigns.rounds;
  weighs = step.weighs;
  less = flow-less rules rest counts new piece.weight long step.assigns.flows step.takes;
  tickets = step.after;
}

-- bounds narrow further
narrow-more : (rules : RulesValue) (shares : List ℕ) (left : ℕ) (rest : List ℕ) (pieces : List Piece) (counts : List ℕ) (piece : Piece) (next : ℕ) (new : List ℕ)
    → IsPeeling rules shares left rest pieces → 1 ≤ left → IsStepTo rules left rest counts piece next new → 1 ≤ next
    → (a : ℕ) → a < length (flow_of rules shares) → IsNarrower (rounded rules.tickets (slice_index (flow_of rules shares) a)) (rounded next (slice_index (flow_of rules new) a))
narrow-more rules shares left rest pieces counts piece next new peeling some step positive a lt =
    let before = peeling.narrow some a lt in
    let size = flow-length rules rest ∙ sym (flow-length rules shares) in
    let now = all-narrower left (flow_of rules rest) counts piece.weight next (flow_of rules new) (steps-of rules left rest counts piece next new some peeling.long step) positive a (omega arith) in
    (omega (arith, before.0, now.0), omega (arith, before.1, now.1))

-- a next assignment of the new amounts was one of the old ones
next-before : (rules : RulesValue) (left : ℕ) (rest counts : List ℕ) (piece : Piece) (next : ℕ) (new others : List ℕ) → 1 ≤ left → length rest ≡ length rules.pairs
    → IsStepTo rules left rest counts piece next new → 1 ≤ next → IsNext rules new next others → IsNext rules rest left others
next-before rules left rest counts piece next new others some long step positive is = record {
  rounds = rounded-before left (flow_of rules rest) next (flow_of rules new) others (flow-length rules new ∙ sym (flow-length rules rest))
      (all-narrower left (flow_of rules rest) counts piece.weight next (flow_of rules new) (steps-of rules left rest counts piece next new some long step) positive)
      is.rounds;
  flows = is.flows;
}

-- and it isn't the assignment of this step
next-other : (rules : RulesValue) (shares : List ℕ) (left : ℕ) (rest : List ℕ) (pieces : List Piece) (counts : List ℕ) (piece : Piece) (next : ℕ) (new others : List ℕ)
    → AreRules rules → SharesFit rules EveryPair shares → IsPeeling rules shares left rest pieces → 1 ≤ left → IsStepTo rules left rest counts piece next new
    → 1 ≤ next → IsNext rules new next others → piece.pairs ≡ chosen_places (amounts_in rules others) → ⊥
next-other rules shares left rest pieces counts piece next new others are fit peeling some step positive is same =
    let before = next-before rules left rest counts piece next new others some peeling.long step positive is in
    let here = next_meets rules shares left rest pieces counts are fit peeling some step.assigns in
    let there = next_meets rules shares left rest pieces others are fit peeling some before in
    let chosen : amounts_in rules counts ≡ amounts_in rules others =
    counts-of_places rules (amounts_in rules counts) (amounts_in rules others) here.choices there.choices (sym step.places ∙ same) in
    let all : counts ≡ others = step.assigns.flows ∙ ap (λ xs. flow_of rules xs) chosen ∙ sym is.flows in
    never-again left (flow_of rules rest) counts piece.weight next (flow_of rules new) (steps-of rules left rest counts piece next new some peeling.long step) positive
    (subst (λ xs. AreRounded next (flow_of rules new) xs) (sym all) is.rounds)

gone-more : (rules : RulesValue) (shares : List ℕ) (left : ℕ) (rest : List ℕ) (pieces : List Piece) (counts : List ℕ) (piece : Piece) (next : ℕ) (new : List ℕ)
    → AreRules rules → SharesFit rules EveryPair shares → IsPeeling rules shares left rest pieces → 1 ≤ left → IsStepTo rules left rest counts piece next new
    → 1 ≤ next → (others : List ℕ) → IsNext rules new next others → (k : ℕ) → k < length (pieces ++ (piece ∷ [])) → (piece_at (pieces ++ (piece ∷ [])) k).pairs ≡ chosen_places (amounts_in rules others) → ⊥
gone-more rules shares left rest pieces counts piece next new are fit peeling some step positive others is k lt same =
    elim (cases_lt k (length pieces)) [
      | inl before ↦
          let at : piece_at (pieces ++ (piece ∷ [])) k ≡ piece_at pieces k = get_or_append_left pieces (piece ∷ []) no_piece k before in
          peeling.gone some others (next-before rules left rest counts piece next new others some peeling.long step positive is) k before
          (sym (ap (λ (p : Piece). p.pairs) at) ∙ same)
      | inr here ↦
          let at : piece_at (pieces ++ (piece ∷ [])) k ≡ piece = get_or_push pieces piece no_piece k (let long = length_push pieces piece in omega arith) in
          next-other rules shares left rest pieces counts piece next new others are fit peeling some step positive is
          (sym (ap (λ (p : Piece). p.pairs) at) ∙ same)
    ]

-- the new piece is none of the old ones
apart-more : (rules : RulesValue) (shares : List ℕ) (left : ℕ) (rest : List ℕ) (pieces : List Piece) (counts : List ℕ) (piece : Piece) (next : ℕ) (new : List ℕ)
    → IsPeeling rules shares left rest pieces → 1 ≤ left → IsStepTo rules left rest counts piece next new → IsDistinct same_places (pieces ++ (piece ∷ []))
apart-more rules shares left rest pieces counts piece next new peeling some step =
    IsDistinct-from_apart same_places (pieces ++ (piece ∷ []))
    (λ i j d before within.
    let long = length_push pieces piece in
    let first : get_or (pieces ++ (piece ∷ [])) i d ≡ get_or pieces i d = get_or_append_left pieces (piece ∷ []) d i (omega arith) in
    elim (cases_lt j (length pieces)) [
      | inl old ↦
          let second : get_or (pieces ++ (piece ∷ [])) j d ≡ get_or pieces j d = get_or_append_left pieces (piece ∷ []) d j old in
          rw (first, second) (apart_from_distinct same_places pieces i j d peeling.apart before old)
      | inr last ↦
          let second : get_or (pieces ++ (piece ∷ [])) j d ≡ piece = get_or_push pieces piece d j (omega arith) in
          let default : get_or pieces i d ≡ piece_at pieces i = within_default pieces i d (omega arith) in
          rw (first, second, default)
          (told-apart (piece_at pieces i).pairs piece.pairs
          (λ same. peeling.gone some counts step.assigns i (omega arith) (same ∙ step.places)))
    ])
  where
    within_default : (xs : List Piece) (i : ℕ) (d : Piece) → i < length xs → get_or xs i d ≡ get_or xs i no_piece
    within_default [] i d lt = absurd (omega arith)
    within_default (x ∷ xs) zero d lt = refl
    within_default (x ∷ xs) (suc i) d lt = within_default xs i d (omega arith)

pub peeling_more : (rules : RulesValue) (shares : List ℕ) (left : ℕ) (rest : List ℕ) (pieces : List Piece) (counts : List ℕ) (piece : Piece) (next : ℕ) (new : List ℕ)
    → AreRules rules → SharesFit rules EveryPair shares → IsPeeling rules shares left rest pieces → 1 ≤ left → IsStepTo rules left rest counts piece next new
    → IsPeeling rules shares next new (pieces ++ (piece ∷ []))
peeling_more rules shares left rest pieces counts piece next new are fit peeling some step =
    let chosen : List ℕ = amounts_in rules counts in
    let meets = next_meets rules shares left rest pieces counts are fit peeling some step.assigns in
    let rounds = next_rounds rules shares left rest pieces counts are fit peeling some step.assigns in
    let steps = steps-of rules left rest counts piece next new some peeling.long step in
    let count = length_push pieces piece in
    record {
      long = step.takes.long ∙ peeling.long;
      good = All-push (IsGoodPiece rules shares) pieces piece peeling.good (record {
        some = step.weighs.some;
        ascends = rw step.places (chosen_places-ascends chosen);
        meets = rw step.places (chosen-meets rules chosen meets);
        rounds = rw step.places (chosen-rounded rules shares chosen rounds);
      });
      whole = let push = sum_by_push (λ (p : Piece). p.weight) pieces piece in omega (arith, push, peeling.whole, step.after);
      exact = λ e lt.
          let push = sum_by_push (λ (p : Piece). p.weight * holds p.pairs e) pieces piece in
          let held : holds piece.pairs e ≡ slice_index chosen e = ap (λ places. holds places e) step.places ∙ chosen-holds rules chosen meets.choices e lt in
          let taken : piece.weight * holds piece.pairs e ≡ piece.weight * slice_index chosen e = ap (λ n. piece.weight * n) held in
          let less = step.takes.each e (let long = peeling.long in omega arith) in
          let before = peeling.exact e lt in
          omega (arith, push, taken, less, before);
      narrow = narrow-more rules shares left rest pieces counts piece next new peeling some step;
      few = λ positive.
          let fewer = open-less left (flow_of rules rest) counts piece.weight next (flow_of rules new) steps positive in
          let before = peeling.few some in
          omega (arith, count, fewer, before);
      gone = gone-more rules shares left rest pieces counts piece next new are fit peeling some step;
      empty = λ none e lt.
          let size = flow-length rules rest in
          let nothing = all-nothing left (flow_of rules rest) counts piece.weight next (flow_of rules new) steps none e (omega arith) in
          sym (flow-of_pair rules new e lt) ∙ nothing;
      last = λ none. let before = peeling.few some in omega (arith, count, before);
      apart = apart-more rules shares left rest pieces counts piece next new peeling some step;
    }

-- ---- the end

pub peeling_all : (rules : RulesValue) (shares rest : List ℕ) (pieces : List Piece) → SharesFit rules EveryPair shares → IsPeeling rules shares 0 rest pieces → IsPeeled rules shares pieces
peeling_all rules shares rest pieces fit peeling = record {
  good = peeling.good;
  whole = let whole = peeling.whole in omega arith;
  exact = λ e lt.
      let given = peeling.exact e lt in
      let none = peeling.empty refl e lt in
      omega (arith, given, none);
  few = let open_first = flow-open rules shares fit.papers in let last = peeling.last refl in omega (arith, open_first, last);
  apart = peeling.apart;
}
