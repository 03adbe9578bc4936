-- What fits, or is violated, under one sieve and so under another.
use Rattle.std.proofs.Common.{◌≡◌, ℕ, zero, suc, ◌<◌, ◌≤◌, ◌⊎◌, Bool, true, false, ◌||◌, List, length, refl, sym, ◌∙◌, arith, inl, inr}
use Rattle.std.proofs.lemmas.Bool.{eq-eqb}
use Rattle.std.proofs.lemmas.Int.{ints}
use Rattle.std.specs.Prelude.{ℤ, ◌≤ℤ◌, int_le, ◌&&◌, not, slice_index}
use Rattle.match_rules.specs.declared.answer.Cut.{Cut}
use Rattle.match_rules.specs.declared.answer.Side.{Side}
use Rattle.match_rules.specs.declared.answer.Side.TheVariants.{Into, OutOf}
use Rattle.match_rules.specs.declared.answer.Sieve.{Sieve}
use Rattle.match_rules.specs.declared.answer.Sieve.TheVariants.{AtLeast}
use Rattle.match_rules.specs.Assignments.{keeps, lets_pass, cap_under}
use Rattle.match_rules.specs.Evidence.{Violated, need_by, room_by, tail_marked, head_marked, enters, leaves, floors_where, caps_where}
use Rattle.match_rules.specs.Rules.{RulesValue, AreRules, is_locked, pair_at}
use Rattle.match_rules.specs.SharesFit.{SharesFit}
use Rattle.match_rules.specs.Sieves.{IsFiner}
use Rattle.match_rules.specs.Sums.{count_below, when}
use Rattle.match_rules.proofs.SieveLaws.{keeps-more}
use Rattle.fair_threshold.specs.Search.{IsUsed}

-- shares that fit under one sieve fit under each other one that lets the scores pass that they use
cap-of_locked : (rules : RulesValue) (sieve : Sieve) (e : ℕ) → is_locked rules e ≡ true → cap_under rules sieve e ≡ (pair_at rules e).cap
cap-of_locked rules sieve e is = rw is refl

cap-of_passing : (rules : RulesValue) (sieve : Sieve) (e : ℕ) → lets_pass sieve (pair_at rules e).score ≡ true → cap_under rules sieve e ≡ (pair_at rules e).cap
cap-of_passing rules sieve e passes = rw passes (by (is_locked rules e))
  where
    by : (t : Bool) → when (t || true) (pair_at rules e).cap ≡ (pair_at rules e).cap
    by true = refl
    by false = refl

when-less : (b : Bool) (x : ℕ) → when b x ≤ x
when-less true x = omega arith
when-less false x = omega arith

pub fit-passed : (rules : RulesValue) (one other : Sieve) (shares : List ℕ)
    → ((e : ℕ) → e < length rules.pairs → IsUsed rules shares e → lets_pass other (pair_at rules e).score ≡ true)
    → SharesFit rules one shares → SharesFit rules other shares
fit-passed rules one other shares passes fit = record {
  long = fit.long;
  papers = fit.papers;
  of_groups = fit.of_groups;
  least = fit.least;
  greatest = fit.greatest;
  floors = fit.floors;
  caps = λ e within. by e within (is_locked rules e) refl (slice_index shares e) refl;
}
  where
    below : (e : ℕ) → e < length rules.pairs → slice_index shares e ≤ (pair_at rules e).cap
    below e within = let held = fit.caps e within in omega (arith, held, when-less (keeps rules one e) (pair_at rules e).cap)

    by : (e : ℕ) → e < length rules.pairs → (t : Bool) → is_locked rules e ≡ t → (share : ℕ) → slice_index shares e ≡ share → slice_index shares e ≤ cap_under rules other e
    by e within true locked share is = rw (cap-of_locked rules other e locked) (below e within)
    by e within false free zero is = omega (arith, is)
    by e within false free (suc share) is =
        let used : IsUsed rules shares e = record { free = free; some = omega (arith, is) } in
        rw (cap-of_passing rules other e (passes e within used)) (below e within)

-- shares fit with the least score that they use
le-test : (a b : ℤ) → a ≤ℤ b → int_le a b ≡ true
le-test a b h = by (int_le a b) refl
  where
    by : (t : Bool) → int_le a b ≡ t → int_le a b ≡ true
    by true e = e
    by false e = absurd (omega (arith, ints))

pub fit-from_least : (rules : RulesValue) (sieve : Sieve) (shares : List ℕ) (least : ℤ)
    → ((e : ℕ) → e < length rules.pairs → IsUsed rules shares e → least ≤ℤ (pair_at rules e).score)
    → SharesFit rules sieve shares → SharesFit rules (AtLeast least) shares
fit-from_least rules sieve shares least low fit =
    fit-passed rules sieve (AtLeast least) shares (λ e within used. le-test least (pair_at rules e).score (low e within used)) fit

-- where they use none, they fit with the locked pairs alone
pub fit-unused : (rules : RulesValue) (one other : Sieve) (shares : List ℕ) → ((e : ℕ) → e < length rules.pairs → ¬ (IsUsed rules shares e))
    → SharesFit rules one shares → SharesFit rules other shares
fit-unused rules one other shares none fit = fit-passed rules one other shares (λ e within used. absurd (none e within used)) fit

-- a pair that isn't locked has no floor, so that what has to pass a cut is the same under each sieve
floors-same : (rules : RulesValue) (one other : Sieve) (e : ℕ) (across : Bool) → AreRules rules → e < length rules.pairs
    → when (keeps rules one e && across) (pair_at rules e).floor ≡ when (keeps rules other e && across) (pair_at rules e).floor
floors-same rules one other e across are within = by (are.pairs.each e within).whole
  where
    nothing : (b : Bool) (floor : ℕ) → floor ≡ 0 → when b floor ≡ 0
    nothing true floor none = none
    nothing false floor none = refl

    by : ((pair_at rules e).floor ≡ 0) ⊎ ((pair_at rules e).floor ≡ rules.tickets)
        → when (keeps rules one e && across) (pair_at rules e).floor ≡ when (keeps rules other e && across) (pair_at rules e).floor
    by (inl none) = nothing (keeps rules one e && across) (pair_at rules e).floor none ∙ sym (nothing (keeps rules other e && across) (pair_at rules e).floor none)
    by (inr all) =
        let locked : is_locked rules e ≡ true = eq-eqb (pair_at rules e).floor rules.tickets all in
        rw locked refl

caps-less : (rules : RulesValue) (fine coarse : Sieve) (e : ℕ) (across : Bool) → IsFiner fine coarse
    → when (keeps rules fine e && across) (pair_at rules e).cap ≤ when (keeps rules coarse e && across) (pair_at rules e).cap
caps-less rules fine coarse e across finer = by (keeps rules fine e) refl
  where
    by : (t : Bool) → keeps rules fine e ≡ t → when (t && across) (pair_at rules e).cap ≤ when (keeps rules coarse e && across) (pair_at rules e).cap
    by true kept = rw (keeps-more rules fine coarse e finer kept) (omega arith)
    by false dropped = omega arith

-- sums, term by term
sums-same : (n : ℕ) (f g : ℕ → ℕ) → ((e : ℕ) → e < n → f e ≡ g e) → count_below n f ≡ count_below n g
sums-same zero f g each = refl
sums-same (suc n) f g each = let before = sums-same n f g (λ e lt. each e (omega arith)) in let last = each n (omega arith) in omega arith

sums-less : (n : ℕ) (f g : ℕ → ℕ) → ((e : ℕ) → e < n → f e ≤ g e) → count_below n f ≤ count_below n g
sums-less zero f g each = omega arith
sums-less (suc n) f g each = let before = sums-less n f g (λ e lt. each e (omega arith)) in let last = each n (omega arith) in omega arith

into : RulesValue → Cut → ℕ → Bool
into rules cut e = not (tail_marked rules cut e) && head_marked rules cut e

out : RulesValue → Cut → ℕ → Bool
out rules cut e = tail_marked rules cut e && not (head_marked rules cut e)

floors-into : (rules : RulesValue) (one other : Sieve) (cut : Cut) → AreRules rules
    → floors_where rules (enters rules one cut) ≡ floors_where rules (enters rules other cut)
floors-into rules one other cut are =
    sums-same (length rules.pairs) (λ e. when (enters rules one cut e) (pair_at rules e).floor) (λ e. when (enters rules other cut e) (pair_at rules e).floor)
    (λ e lt. floors-same rules one other e (not (tail_marked rules cut e) && head_marked rules cut e) are lt)

floors-out : (rules : RulesValue) (one other : Sieve) (cut : Cut) → AreRules rules
    → floors_where rules (leaves rules one cut) ≡ floors_where rules (leaves rules other cut)
floors-out rules one other cut are =
    sums-same (length rules.pairs) (λ e. when (leaves rules one cut e) (pair_at rules e).floor) (λ e. when (leaves rules other cut e) (pair_at rules e).floor)
    (λ e lt. floors-same rules one other e (tail_marked rules cut e && not (head_marked rules cut e)) are lt)

caps-into : (rules : RulesValue) (fine coarse : Sieve) (cut : Cut) → IsFiner fine coarse
    → caps_where rules (enters rules fine cut) ≤ caps_where rules (enters rules coarse cut)
caps-into rules fine coarse cut finer =
    sums-less (length rules.pairs) (λ e. when (enters rules fine cut e) (pair_at rules e).cap) (λ e. when (enters rules coarse cut e) (pair_at rules e).cap)
    (λ e lt. caps-less rules fine coarse e (not (tail_marked rules cut e) && head_marked rules cut e) finer)

caps-out : (rules : RulesValue) (fine coarse : Sieve) (cut : Cut) → IsFiner fine coarse
    → caps_where rules (leaves rules fine cut) ≤ caps_where rules (leaves rules coarse cut)
caps-out rules fine coarse cut finer =
    sums-less (length rules.pairs) (λ e. when (leaves rules fine cut e) (pair_at rules e).cap) (λ e. when (leaves rules coarse cut e) (pair_at rules e).cap)
    (λ e lt. caps-less rules fine coarse e (tail_marked rules cut e && not (head_marked rules cut e)) finer)

-- a cut that is violated stays so under a finer sieve
violated-by : (side : Side) (rules : RulesValue) (fine coarse : Sieve) (cut : Cut) → AreRules rules → IsFiner fine coarse
    → room_by side rules coarse cut < need_by side rules coarse cut → room_by side rules fine cut < need_by side rules fine cut
violated-by Into rules fine coarse cut are finer violated =
    omega (arith, violated, floors-into rules fine coarse cut are, caps-out rules fine coarse cut finer)
violated-by OutOf rules fine coarse cut are finer violated =
    omega (arith, violated, floors-out rules fine coarse cut are, caps-into rules fine coarse cut finer)

pub violated-finer : (rules : RulesValue) (fine coarse : Sieve) (cut : Cut) → AreRules rules → IsFiner fine coarse
    → Violated rules coarse cut → Violated rules fine cut
violated-finer rules fine coarse cut are finer violated = violated-by cut.side rules fine coarse cut are finer violated
