-- The clauses on the threshold are unbroken exactly where the level is right and its pairs alone have shares.
use Rattle.std.proofs.Common.{◌≡◌, ℕ, ◌<◌, ◌≤◌, ◌*◌, ◌==◌, ◌&&◌, ◌||◌, Bool, true, false, not, List, length, refl, sym, ◌∙◌, arith}
use Rattle.std.proofs.lemmas.Bool.Decides.{Decides-int_eq, Decides-eqb, Decides-ltb}
use Rattle.std.proofs.lemmas.List.{get_or_default}
use Rattle.std.proofs.lemmas.List.Folds.{Any-from_list_any, list_any_at}
use Rattle.std.specs.Prelude.{ℤ, ◌<ℤ◌, Some, None, nat_lt, slice_index}
use Rattle.std.specs.List.{list_any}
use Rattle.std.specs.Ordering.{int_eq}
use Rattle.match_rules.specs.declared.answer.Cut.{Cut}
use Rattle.match_rules.specs.declared.answer.Level.{Level}
use Rattle.match_rules.specs.declared.answer.Level.TheVariants.{Unasked, Free, At}
use Rattle.match_rules.specs.declared.answer.Mode.{Mode}
use Rattle.match_rules.specs.declared.answer.Mode.TheVariants.{Whole, Fair}
use Rattle.match_rules.specs.declared.answer.Sieve.{Sieve}
use Rattle.match_rules.specs.declared.answer.Sieve.TheVariants.{All as EveryPair, AtLeast, Above as AboveScore}
use Rattle.match_rules.specs.declared.breaks.Break.{Break}
use Rattle.match_rules.specs.declared.breaks.Break.TheVariants.{Below, NoSuchScore, Above}
use Rattle.match_rules.specs.declared.lottery.Piece.{Piece}
use Rattle.match_rules.specs.Answers.{CutIsViolated, LevelIsRight, SuitsMode}
use Rattle.match_rules.specs.Assignments.{Fits, cap_under, keeps, tickets, times}
use Rattle.match_rules.specs.Breaks.{unless}
use Rattle.match_rules.specs.Evidence.{need, room, Violated}
use Rattle.match_rules.specs.First.{first_below}
use Rattle.match_rules.specs.Rules.{RulesValue, AreRules, is_locked, no_pair, pair_at}
use Rattle.match_rules.specs.SharesFit.{HasShares}
use Rattle.match_rules.specs.Thresholds.{CanFit, CanFitLocked, IsOpenScore, sieve_of}
use Rattle.match_rules.proofs.Firsts.{both_none, none_both, first_below-all, first_below-at}
use Rattle.match_rules.proofs.SieveLaws.{finer-greater, fits-more, times-dropped}
use Rattle.dual_check.proofs.CutLaws.{none_fits_at_violated}
use Rattle.publication.specs.Checks.{may_share, below_break, is_open_at, score_break, above_break, level_break}
use Rattle.publication.proofs.LockedAlone.{others-none}

-- no break comes exactly where the test holds
pub kept : (test : Bool) (broken : Break) → unless test broken ≡ None → test ≡ true
kept true broken none = refl
kept false broken none = cc

pub unbroken : (test : Bool) (broken : Break) → test ≡ true → unless test broken ≡ None
unbroken test broken e = rw e refl

-- and a break where it doesn't
pub found-where : (test : Bool) (broken : Break) (result : Bool) → result ≡ not test → result ≡ true → unless test broken ≡ Some broken
found-where true broken result is holds = let clash : false ≡ true = sym is ∙ holds in absurd cc
found-where false broken result is holds = refl

pub both : (a b : Bool) → (a && b) ≡ true → (a ≡ true) × (b ≡ true)
both true b e = (refl, e)
both false b e = cc

-- ---- the score of a pair that isn't locked

no-lock : (locked : Bool) → not locked ≡ true → locked ≡ false
no-lock true e = cc
no-lock false e = refl

lock-no : (locked : Bool) → locked ≡ false → not locked ≡ true
lock-no locked e = rw e refl

open-from : (rules : RulesValue) (score : ℤ) → list_any (is_open_at rules.tickets score) rules.pairs ≡ true → IsOpenScore rules score
open-from rules score e =
    let found = Any-from_list_any (is_open_at rules.tickets score) rules.pairs e in
    let k : ℕ = found.0 in
    let within : k < length rules.pairs = found.2 in
    let here : pair_at rules k ≡ found.1 = get_or_default rules.pairs k no_pair found.1 within ∙ found.3 in
    let test : is_open_at rules.tickets score (pair_at rules k) ≡ true = rw here found.4 in
    let tests = both (not ((pair_at rules k).floor == rules.tickets)) (int_eq (pair_at rules k).score score) test in
    (k, (within, (no-lock (is_locked rules k) tests.0, (Decides-int_eq (pair_at rules k).score score).0 tests.1)))

open-to : (rules : RulesValue) (score : ℤ) → IsOpenScore rules score → list_any (is_open_at rules.tickets score) rules.pairs ≡ true
open-to rules score (k, (within, (free, is))) =
    let first : not (is_locked rules k) ≡ true = lock-no (is_locked rules k) free in
    let second : int_eq (pair_at rules k).score score ≡ true = (Decides-int_eq (pair_at rules k).score score).1 is in
    let test : is_open_at rules.tickets score (pair_at rules k) ≡ true = rw (first, second) refl in
    list_any_at (is_open_at rules.tickets score) rules.pairs k no_pair within test

-- ---- sieves

kept-cap : (rules : RulesValue) (sieve : Sieve) (e : ℕ) → keeps rules sieve e ≡ true → cap_under rules sieve e ≡ (pair_at rules e).cap
kept-cap rules sieve e is = rw is refl

-- a lottery that has no ticket for the pairs that a sieve drops fits under it
fits-kept : (rules : RulesValue) (sieve : Sieve) (lottery : List Piece) → Fits rules EveryPair lottery → ((e : ℕ) → e < length rules.pairs → keeps rules sieve e ≡ false → times lottery e ≡ 0)
    → Fits rules sieve lottery
fits-kept rules sieve lottery fits none = record {
  some_ticket = fits.some_ticket;
  weights = fits.weights;
  pieces = fits.pieces;
  caps = λ e within. by e within (keeps rules sieve e) refl;
}
  where
    every : (e : ℕ) → keeps rules EveryPair e ≡ true
    every e = cases (is_locked rules e)
      where
        cases : (b : Bool) → (b || true) ≡ true
        cases true = refl
        cases false = refl

    by : (e : ℕ) → e < length rules.pairs → (t : Bool) → keeps rules sieve e ≡ t → times lottery e * rules.tickets ≤ cap_under rules sieve e * tickets lottery
    by e within true is =
        let held = fits.caps e within in
        rw (kept-cap rules sieve e is) (rw (kept-cap rules EveryPair e (every e)) at held)
    by e within false is = let zero_times : times lottery e ≡ 0 = none e within is in rw zero_times (omega arith)

left-false : (a b : Bool) → (a || b) ≡ false → a ≡ false
left-false true b e = cc
left-false false b e = refl

free-share : (locked : Bool) → locked ≡ false → (locked || false) ≡ false
free-share locked e = rw e refl

-- ---- what is known of a level

abbrev pub IsKnown : RulesValue → Level → Type 0
IsKnown rules Unasked = Unit {0}
IsKnown rules Free = CanFitLocked rules
IsKnown rules (At score cut) = IsOpenScore rules score × Violated rules (AboveScore score) cut

-- what the clauses show of it
abbrev pub IsShown : RulesValue → Level → Type 0
IsShown rules Unasked = Unit {0}
IsShown rules Free = Unit {0}
IsShown rules (At score cut) = IsOpenScore rules score × Violated rules (AboveScore score) cut

-- a pair without leave to share has none
abbrev pub AreWithinLevel : RulesValue → Level → List Piece → Type 0
AreWithinLevel rules level lottery = (e : ℕ) → e < length rules.pairs → may_share rules level e ≡ false → times lottery e ≡ 0

-- a lottery that fits then fits under the sieve of the level
pub within-fits : (rules : RulesValue) (level : Level) (lottery : List Piece) → Fits rules EveryPair lottery → AreWithinLevel rules level lottery → Fits rules (sieve_of level) lottery
within-fits rules Unasked lottery fits none = fits
within-fits rules Free lottery fits none = fits
within-fits rules (At score cut) lottery fits none = fits-kept rules (AtLeast score) lottery fits none

-- nothing fits with the locked pairs alone where a cut is violated above a score
not-locked : (rules : RulesValue) (score : ℤ) (cut : Cut) → AreRules rules → Violated rules (AboveScore score) cut → ¬ (CanFitLocked rules)
not-locked rules score cut are violated can =
    none_fits_at_violated rules (AboveScore score) cut are violated can.0
    (fits-kept rules (AboveScore score) can.0 can.1.fits (λ e within dropped. can.1.alone e within (left-false (is_locked rules e) _ dropped)))

-- nor with a greater score
not-greater : (rules : RulesValue) (score other : ℤ) (cut : Cut) → AreRules rules → Violated rules (AboveScore score) cut → score <ℤ other → ¬ (CanFit rules (AtLeast other))
not-greater rules score other cut are violated more can =
    none_fits_at_violated rules (AboveScore score) cut are violated can.0 (fits-more rules (AtLeast other) (AboveScore score) can.0 (finer-greater score other more) can.1)

pub level-right : (rules : RulesValue) (mode : Mode) (level : Level) (lottery : List Piece) → AreRules rules → SuitsMode mode level → IsShown rules level
    → Fits rules EveryPair lottery → AreWithinLevel rules level lottery → LevelIsRight rules mode level
level-right rules Whole level lottery are suits shown fits none = tt
level-right rules Fair Unasked lottery are suits shown fits none = absurd (suits refl)
level-right rules Fair Free lottery are suits shown fits none =
    (lottery, record { fits = fits; alone = λ e within free. none e within (free-share (is_locked rules e) free) })
level-right rules Fair (At score cut) lottery are suits shown fits none = record {
  asked = not-locked rules score cut are shown.1;
  of_pair = shown.0;
  feasible = (lottery, within-fits rules (At score cut) lottery fits none);
  greatest = λ other of_pair more. not-greater rules score other cut are shown.1 more;
}

pub shown-violated : (rules : RulesValue) (level : Level) → IsShown rules level → CutIsViolated rules level
shown-violated rules Unasked shown = tt
shown-violated rules Free shown = tt
shown-violated rules (At score cut) shown = shown.1

-- the other way round
pub right-known : (rules : RulesValue) (mode : Mode) (level : Level) → SuitsMode mode level → LevelIsRight rules mode level → CutIsViolated rules level → IsKnown rules level
right-known rules Whole Unasked suits right violated = tt
right-known rules Whole Free suits right violated = let clash : Free ≡ Unasked = suits in absurd cc
right-known rules Whole (At score cut) suits right violated = let clash : At score cut ≡ Unasked = suits in absurd cc
right-known rules Fair Unasked suits right violated = tt
right-known rules Fair Free suits right violated = right
right-known rules Fair (At score cut) suits right violated = (right.of_pair, violated)

pub known-within : (rules : RulesValue) (level : Level) (lottery : List Piece) → AreRules rules → IsKnown rules level → Fits rules (sieve_of level) lottery → AreWithinLevel rules level lottery
known-within rules Unasked lottery are known fits e within closed = absurd (cases (is_locked rules e) closed)
  where
    cases : (b : Bool) → (b || true) ≡ false → ⊥
    cases true is = cc
    cases false is = cc
known-within rules Free lottery are known fits e within closed = others-none rules lottery e are known fits within (left-false (is_locked rules e) false closed)
known-within rules (At score cut) lottery are known fits e within closed = times-dropped rules (AtLeast score) lottery e are fits within closed

-- ---- the clauses

or-split : (a b : Bool) → (a || b) ≡ true → a ≡ false → b ≡ true
or-split true b e clash = absurd cc
or-split false b e same = e

-- clause 8
pub below-within : (rules : RulesValue) (level : Level) (shares : List ℕ) (lottery : List Piece) → HasShares rules shares lottery
    → first_below (length rules.pairs) (below_break rules level shares) ≡ None → AreWithinLevel rules level lottery
below-within rules level shares lottery exact none e within closed =
    let unbroken_here = first_below-at (length rules.pairs) (below_break rules level shares) none e within in
    let test = kept (may_share rules level e || (slice_index shares e == 0)) (Below e) unbroken_here in
    exact e within ∙ (Decides-eqb (slice_index shares e) 0).0 (or-split (may_share rules level e) (slice_index shares e == 0) test closed)

pub within-below : (rules : RulesValue) (level : Level) (shares : List ℕ) (lottery : List Piece) → HasShares rules shares lottery → AreWithinLevel rules level lottery
    → first_below (length rules.pairs) (below_break rules level shares) ≡ None
within-below rules level shares lottery exact none =
    first_below-all (length rules.pairs) (below_break rules level shares)
    (λ e within. unbroken (may_share rules level e || (slice_index shares e == 0)) (Below e) (by e within (may_share rules level e) refl))
  where
    by : (e : ℕ) → e < length rules.pairs → (b : Bool) → may_share rules level e ≡ b → (may_share rules level e || (slice_index shares e == 0)) ≡ true
    by e within true is = rw is refl
    by e within false is =
        let share : (slice_index shares e == 0) ≡ true = (Decides-eqb (slice_index shares e) 0).1 (sym (exact e within) ∙ none e within is) in
        rw (is, share) refl

-- clauses 9 and 10
pub none-shown : (rules : RulesValue) (level : Level) → level_break rules level ≡ None → IsShown rules level
none-shown rules Unasked none = tt
none-shown rules Free none = tt
none-shown rules (At score cut) none =
    let parts = both_none (score_break rules score) (above_break rules score cut) none in
    let needed : ℕ = need rules (AboveScore score) cut in
    let allowed : ℕ = room rules (AboveScore score) cut in (
      open-from rules score (kept (list_any (is_open_at rules.tickets score) rules.pairs) (NoSuchScore score) parts.0),
      (Decides-ltb allowed needed).0 (kept (nat_lt allowed needed) (Above needed allowed) parts.1),
    )

pub known-none : (rules : RulesValue) (level : Level) → IsKnown rules level → level_break rules level ≡ None
known-none rules Unasked known = refl
known-none rules Free known = refl
known-none rules (At score cut) known =
    let needed : ℕ = need rules (AboveScore score) cut in
    let allowed : ℕ = room rules (AboveScore score) cut in
    none_both (score_break rules score) (above_break rules score cut)
    (unbroken (list_any (is_open_at rules.tickets score) rules.pairs) (NoSuchScore score) (open-to rules score known.0))
    (unbroken (nat_lt allowed needed) (Above needed allowed) ((Decides-ltb allowed needed).1 known.1))
