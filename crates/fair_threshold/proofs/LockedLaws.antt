-- Where shares fit with the locked pairs alone, these pairs as one assignment are a lottery that fits.
use Rattle.std.proofs.Common.{◌≡◌, ℕ, zero, suc, ◌+◌, ◌*◌, ◌/◌, ◌<◌, ◌≤◌, ◌⊎◌, Bool, true, false, List, [], ◌∷◌, length, map, refl, sym, ap, ◌∙◌, arith, inl, inr}
use Rattle.std.proofs.lemmas.Bool.{eqb-true}
use Rattle.std.proofs.lemmas.List.Elements.{All-cons, All-nil}
use Rattle.std.proofs.Math.ListN.{get_or-map, length-map}
use Rattle.std.specs.Prelude.{pos, slice_index, ◌==◌}
use Rattle.match_rules.specs.declared.answer.Sieve.{Sieve}
use Rattle.match_rules.specs.declared.answer.Sieve.TheVariants.{All as EveryPair, Above}
use Rattle.match_rules.specs.declared.lottery.Piece.{Piece}
use Rattle.match_rules.specs.declared.rules.TheConstants.{MOST_TICKETS}
use Rattle.match_rules.specs.Answers.{IsRounding, Rounded, shares_where}
use Rattle.match_rules.specs.Assignments.{Meets, holds, keeps, cap_under}
use Rattle.match_rules.specs.Chosen.{AreChoices, CountsMeet, CountsRound, chosen_places}
use Rattle.match_rules.specs.Groups.{is_in_group}
use Rattle.match_rules.specs.Rules.{RulesValue, AreRules, is_locked, most_score, pair_at, paper_at, reviewer_at}
use Rattle.match_rules.specs.SharesFit.{SharesFit, paper_shares, group_shares, reviewer_shares}
use Rattle.match_rules.specs.Sums.{count_below, when}
use Rattle.match_rules.specs.Thresholds.{CanFitLocked}
use Rattle.match_rules.proofs.ChosenLaws.{chosen-meets, chosen-rounded}
use Rattle.match_rules.proofs.SieveLaws.{keeps-locked}
use Rattle.fair_threshold.specs.Search.{IsUsed}
use Rattle.fair_threshold.proofs.SieveLaws.{fit-unused}

-- the counts of the pairs: the shares over all tickets
abbrev counts_of : List ℕ → List ℕ
counts_of shares = map (λ share. share / 10000) shares

count-at : (shares : List ℕ) (e : ℕ) → slice_index (counts_of shares) e ≡ slice_index shares e / 10000
count-at shares e = get_or-map (λ share. share / 10000) shares e 0

-- shares that fit with the locked pairs alone
abbrev AreLocked : RulesValue → List ℕ → Type 0
AreLocked rules shares = SharesFit rules (Above (pos most_score)) shares

when-less : (b : Bool) (x : ℕ) → when b x ≤ x
when-less true x = omega arith
when-less false x = omega arith

-- a pair has all tickets where it is locked, and else none
abbrev AllOrNone : RulesValue → List ℕ → ℕ → Type 0
AllOrNone rules shares e =
    ((is_locked rules e ≡ true) × (slice_index shares e ≡ 10000))
    ⊎ ((is_locked rules e ≡ false) × (slice_index shares e ≡ 0))

all-or-none : (rules : RulesValue) (shares : List ℕ) (e : ℕ) → AreRules rules → AreLocked rules shares → e < length rules.pairs → AllOrNone rules shares e
all-or-none rules shares e are fit within = by (is_locked rules e) refl
  where
    by : (t : Bool) → is_locked rules e ≡ t → AllOrNone rules shares e
    by true locked =
        let floor : (pair_at rules e).floor ≡ rules.tickets = eqb-true (pair_at rules e).floor rules.tickets locked in
        let less : cap_under rules (Above (pos most_score)) e ≤ (pair_at rules e).cap = when-less (keeps rules (Above (pos most_score)) e) (pair_at rules e).cap in
        let low : (pair_at rules e).floor ≤ slice_index shares e = fit.floors e within in
        let high : slice_index shares e ≤ cap_under rules (Above (pos most_score)) e = fit.caps e within in
        inl (locked, omega (arith, floor, are.tickets, less, low, high, (are.pairs.each e within).within))
    by false free =
        let kept : keeps rules (Above (pos most_score)) e ≡ false = keeps-locked rules e are within ∙ free in
        let none : cap_under rules (Above (pos most_score)) e ≡ 0 = ap (λ (b : Bool). when b (pair_at rules e).cap) kept in
        let high : slice_index shares e ≤ cap_under rules (Above (pos most_score)) e = fit.caps e within in
        inr (free, omega (arith, none, high))

-- so each share is its count times all tickets
share-scaled : (rules : RulesValue) (shares : List ℕ) (e : ℕ) → AreRules rules → AreLocked rules shares → e < length rules.pairs
    → slice_index shares e ≡ 10000 * slice_index (counts_of shares) e
share-scaled rules shares e are fit within = by (all-or-none rules shares e are fit within)
  where
    by : AllOrNone rules shares e → slice_index shares e ≡ 10000 * slice_index (counts_of shares) e
    by (inl (locked, all)) = omega (arith, all, count-at shares e)
    by (inr (free, none)) = omega (arith, none, count-at shares e)

-- and so is each sum
when-scaled : (b : Bool) (x y : ℕ) → x ≡ 10000 * y → when b x ≡ 10000 * when b y
when-scaled true x y is = is
when-scaled false x y is = omega arith

sum-scaled : (n : ℕ) (xs ys : ℕ → ℕ) (test : ℕ → Bool) → ((e : ℕ) → e < n → xs e ≡ 10000 * ys e)
    → count_below n (λ e. when (test e) (xs e)) ≡ 10000 * count_below n (λ e. when (test e) (ys e))
sum-scaled zero xs ys test each = omega arith
sum-scaled (suc n) xs ys test each =
    let before = sum-scaled n xs ys test (λ e lt. each e (omega arith)) in
    let last = when-scaled (test n) (xs n) (ys n) (each n (omega arith)) in
    omega arith

shares-scaled : (rules : RulesValue) (shares : List ℕ) (test : ℕ → Bool) → AreRules rules → AreLocked rules shares
    → shares_where rules shares test ≡ 10000 * shares_where rules (counts_of shares) test
shares-scaled rules shares test are fit =
    sum-scaled (length rules.pairs) (slice_index shares) (slice_index (counts_of shares)) test (λ e within. share-scaled rules shares e are fit within)

-- the counts are 0 or 1
choices : (rules : RulesValue) (shares : List ℕ) → AreRules rules → AreLocked rules shares → AreChoices rules (counts_of shares)
choices rules shares are fit = record {
  long = length-map shares (λ share. share / 10000) ∙ fit.long;
  single = λ e lt.
      let within : e < length rules.pairs = omega (arith, lt, length-map shares (λ share. share / 10000), fit.long) in
      by e (all-or-none rules shares e are fit within);
}
  where
    by : (e : ℕ) → AllOrNone rules shares e → slice_index (counts_of shares) e ≤ 1
    by e (inl (locked, all)) = omega (arith, all, count-at shares e)
    by e (inr (free, none)) = omega (arith, none, count-at shares e)

-- their sums keep the rules
same-count : (all a c d : ℕ) → all ≡ MOST_TICKETS → a ≡ 10000 * c → a ≡ all * d → c ≡ d
same-count all a c d is scaled product = let p : a ≡ 10000 * d = rw is at product in omega arith

least-count : (all a c d : ℕ) → all ≡ MOST_TICKETS → a ≡ 10000 * c → all * d ≤ a → d ≤ c
least-count all a c d is scaled product = let p : 10000 * d ≤ a = rw is at product in omega arith

most-count : (all a c d : ℕ) → all ≡ MOST_TICKETS → a ≡ 10000 * c → a ≤ all * d → c ≤ d
most-count all a c d is scaled product = let p : a ≤ 10000 * d = rw is at product in omega arith

meet : (rules : RulesValue) (shares : List ℕ) → AreRules rules → AreLocked rules shares → CountsMeet rules (counts_of shares)
meet rules shares are fit = record {
  choices = choices rules shares are fit;
  papers = λ p h.
      same-count rules.tickets (paper_shares rules shares p) (paper_shares rules (counts_of shares) p) (paper_at rules p).demand are.tickets
      (shares-scaled rules shares (λ e. (pair_at rules e).paper == p) are fit) (fit.papers p h);
  least = λ r h.
      least-count rules.tickets (reviewer_shares rules shares r) (reviewer_shares rules (counts_of shares) r) (reviewer_at rules r).least are.tickets
      (shares-scaled rules shares (λ e. (pair_at rules e).reviewer == r) are fit) (fit.least r h);
  greatest = λ r h.
      most-count rules.tickets (reviewer_shares rules shares r) (reviewer_shares rules (counts_of shares) r) (reviewer_at rules r).greatest are.tickets
      (shares-scaled rules shares (λ e. (pair_at rules e).reviewer == r) are fit) (fit.greatest r h);
  of_groups = λ g h.
      most-count rules.tickets (group_shares rules shares g) (group_shares rules (counts_of shares) g) rules.limit are.tickets
      (shares-scaled rules shares (is_in_group rules g) are fit) (fit.of_groups g h);
  locked = λ e h is. by e is (all-or-none rules shares e are fit h);
}
  where
    by : (e : ℕ) → is_locked rules e ≡ true → AllOrNone rules shares e → slice_index (counts_of shares) e ≡ 1
    by e is (inl (locked, all)) = omega (arith, all, count-at shares e)
    by e is (inr (free, none)) = let clash : true ≡ false = sym is ∙ free in absurd (cc)

-- and are the shares, rounded
rounding : (all a c : ℕ) → all ≡ MOST_TICKETS → a ≡ 10000 * c → IsRounding all a c
rounding all a c is scaled = rw is (inl (omega arith))

round : (rules : RulesValue) (shares : List ℕ) → AreRules rules → AreLocked rules shares → CountsRound rules shares (counts_of shares)
round rules shares are fit = record {
  choices = choices rules shares are fit;
  reviewers = λ r h.
      rounding rules.tickets (reviewer_shares rules shares r) (reviewer_shares rules (counts_of shares) r) are.tickets
      (shares-scaled rules shares (λ e. (pair_at rules e).reviewer == r) are fit);
  of_groups = λ g h.
      rounding rules.tickets (group_shares rules shares g) (group_shares rules (counts_of shares) g) are.tickets
      (shares-scaled rules shares (is_in_group rules g) are fit);
  pairs = λ e h. rounding rules.tickets (slice_index shares e) (slice_index (counts_of shares) e) are.tickets (share-scaled rules shares e are fit h);
}

-- one ticket for the locked pairs
none-held : (all share count : ℕ) → all ≡ MOST_TICKETS → share ≡ 0 → IsRounding all share count → count ≡ 0
none-held all share count is none rounds = by (rw (is, none) at rounds)
  where
    by : IsRounding 10000 0 count → count ≡ 0
    by (inl low) = low
    by (inr high) = high

capped-once : (held all cap : ℕ) → held ≡ 1 → all ≤ cap → (0 + 1 * held) * all ≤ cap * 1
capped-once held all cap is le = rw is (omega arith)

capped-never : (held all cap : ℕ) → held ≡ 0 → (0 + 1 * held) * all ≤ cap * 1
capped-never held all cap is = rw is (omega arith)

pub locked-fits : (rules : RulesValue) (shares : List ℕ) → AreRules rules → SharesFit rules (Above (pos most_score)) shares → CanFitLocked rules
locked-fits rules shares are fit = (
  piece ∷ [],
  record {
    fits = record {
      some_ticket = omega arith;
      weights = All-cons (λ (p : Piece). 1 ≤ p.weight) piece [] (omega arith) (All-nil (λ (p : Piece). 1 ≤ p.weight));
      pieces = All-cons (λ (p : Piece). Meets rules p.pairs) piece [] meets (All-nil (λ (p : Piece). Meets rules p.pairs));
      caps = λ e h. capped e h (all-or-none rules shares e are fit h);
    };
    alone = λ e h free. let none : holds (chosen_places (counts_of shares)) e ≡ 0 = unheld e h free in omega (arith, none);
  },
)
  where
    piece : Piece
    piece = record { weight = 1; pairs = chosen_places (counts_of shares) }

    meets : Meets rules (chosen_places (counts_of shares))
    meets = chosen-meets rules (counts_of shares) (meet rules shares are fit)

    rounds : Rounded rules shares (chosen_places (counts_of shares))
    rounds = chosen-rounded rules shares (counts_of shares) (round rules shares are fit)

    unheld : (e : ℕ) → e < length rules.pairs → is_locked rules e ≡ false → holds (chosen_places (counts_of shares)) e ≡ 0
    unheld e h free = by (all-or-none rules shares e are fit h)
      where
        by : AllOrNone rules shares e → holds (chosen_places (counts_of shares)) e ≡ 0
        by (inl (locked, all)) = let clash : true ≡ false = sym locked ∙ free in absurd (cc)
        by (inr (open_pair, none)) =
            none-held rules.tickets (slice_index shares e) (holds (chosen_places (counts_of shares)) e) are.tickets none (rounds.pairs e h)

    capped : (e : ℕ) → e < length rules.pairs → AllOrNone rules shares e
        → (0 + 1 * holds (chosen_places (counts_of shares)) e) * rules.tickets ≤ cap_under rules EveryPair e * 1
    capped e h (inl (locked, all)) =
        let floor : (pair_at rules e).floor ≡ rules.tickets = eqb-true (pair_at rules e).floor rules.tickets locked in
        let cap : cap_under rules EveryPair e ≡ (pair_at rules e).cap = rw locked refl in
        rw cap (capped-once (holds (chosen_places (counts_of shares)) e) rules.tickets (pair_at rules e).cap (meets.locked e h locked)
        (omega (arith, floor, (are.pairs.each e h).ordered)))
    capped e h (inr (free, none)) =
        capped-never (holds (chosen_places (counts_of shares)) e) rules.tickets (cap_under rules EveryPair e) (unheld e h free)

-- shares that use no pair that isn't locked fit with the locked pairs alone, whatever the sieve
pub unused-locked : (rules : RulesValue) (sieve : Sieve) (shares : List ℕ) → AreRules rules → ((e : ℕ) → e < length rules.pairs → ¬ (IsUsed rules shares e))
    → SharesFit rules sieve shares → CanFitLocked rules
unused-locked rules sieve shares are none fit = locked-fits rules shares are (fit-unused rules sieve (Above (pos most_score)) shares none fit)
