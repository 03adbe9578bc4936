-- The laws of sieves.
use Rattle.std.proofs.Common.{◌≡◌, ◌↔◌, ℕ, ◌*◌, ◌<◌, ◌≤◌, Bool, true, false, ◌||◌, List, length, refl, ◌∙◌, arith, lit≤}
use Rattle.std.proofs.lemmas.Int.{ints}
use Rattle.std.proofs.Math.Bool.{or-false}
use Rattle.std.proofs.Math.Nat.{mul-le-mul_right, le_of_mul-le-mul_right, zero-mul}
use Rattle.std.specs.Prelude.{ℤ, pos, ◌≤ℤ◌, ◌<ℤ◌, int_lt, int_le}
use Rattle.match_rules.specs.declared.answer.Sieve.{Sieve}
use Rattle.match_rules.specs.declared.answer.Sieve.TheVariants.{All as EveryPair, AtLeast, Above}
use Rattle.match_rules.specs.declared.lottery.Piece.{Piece}
use Rattle.match_rules.specs.Assignments.{Fits, tickets, times, keeps, lets_pass, cap_under}
use Rattle.match_rules.specs.Rules.{RulesValue, AreRules, is_locked, most_score, pair_at}
use Rattle.match_rules.specs.SharesFit.{SharesFit}
use Rattle.match_rules.specs.Sieves.{IsFiner}
use Rattle.match_rules.specs.Sums.{when}
use Rattle.match_rules.specs.Thresholds.{FitsLocked}

-- tests of scores
le-from : (a b : ℤ) → int_le a b ≡ true → a ≤ℤ b
le-from a b test = omega (arith, ints)

le-test : (a b : ℤ) → a ≤ℤ b → int_le a b ≡ true
le-test a b h = by (int_le a b) refl
  where
    by : (t : Bool) → int_le a b ≡ t → int_le a b ≡ true
    by true e = e
    by false e = absurd (omega (arith, ints))

lt-from : (a b : ℤ) → int_lt a b ≡ true → a <ℤ b
lt-from a b test = omega (arith, ints)

lt-test : (a b : ℤ) → a <ℤ b → int_lt a b ≡ true
lt-test a b h = by (int_lt a b) refl
  where
    by : (t : Bool) → int_lt a b ≡ t → int_lt a b ≡ true
    by true e = e
    by false e = absurd (omega (arith, ints))

lt-none : (a b : ℤ) → b ≤ℤ a → int_lt a b ≡ false
lt-none a b h = by (int_lt a b) refl
  where
    by : (t : Bool) → int_lt a b ≡ t → int_lt a b ≡ false
    by true e = absurd (omega (arith, ints))
    by false e = e

-- which sieves are finer
pub finer-every_pair : (sieve : Sieve) → IsFiner sieve EveryPair
finer-every_pair sieve score passes = refl

pub finer-at_least : (low high : ℤ) → low ≤ℤ high → IsFiner (AtLeast high) (AtLeast low)
finer-at_least low high h score passes = let at : high ≤ℤ score = le-from high score passes in le-test low score (omega (arith, ints))

pub finer-above : (low high : ℤ) → low ≤ℤ high → IsFiner (Above high) (Above low)
finer-above low high h score passes = let at : high <ℤ score = lt-from high score passes in lt-test low score (omega (arith, ints))

pub finer-equal : (score : ℤ) → IsFiner (Above score) (AtLeast score)
finer-equal least score passes = let at : least <ℤ score = lt-from least score passes in le-test least score (omega (arith, ints))

pub finer-greater : (low high : ℤ) → low <ℤ high → IsFiner (AtLeast high) (Above low)
finer-greater low high h score passes = let at : high ≤ℤ score = le-from high score passes in lt-test low score (omega (arith, ints))

-- what a finer sieve keeps, a coarser one keeps
pub keeps-more : (rules : RulesValue) (fine coarse : Sieve) (e : ℕ) → IsFiner fine coarse → keeps rules fine e ≡ true → keeps rules coarse e ≡ true
keeps-more rules fine coarse e finer kept = by (is_locked rules e) kept
  where
    by : (locked : Bool) → (locked || lets_pass fine (pair_at rules e).score) ≡ true → (locked || lets_pass coarse (pair_at rules e).score) ≡ true
    by true passes = refl
    by false passes = finer (pair_at rules e).score passes

when-more : (a b : Bool) (n : ℕ) → (a ≡ true → b ≡ true) → when a n ≤ when b n
when-more true b n more = let yes : b ≡ true = more refl in rw yes (omega arith)
when-more false b n more = omega arith

cap_under-more : (rules : RulesValue) (fine coarse : Sieve) (e : ℕ) → IsFiner fine coarse → cap_under rules fine e ≤ cap_under rules coarse e
cap_under-more rules fine coarse e finer =
    when-more (keeps rules fine e) (keeps rules coarse e) (pair_at rules e).cap (keeps-more rules fine coarse e finer)

pub fits-more : (rules : RulesValue) (fine coarse : Sieve) (lottery : List Piece) → IsFiner fine coarse → Fits rules fine lottery → Fits rules coarse lottery
fits-more rules fine coarse lottery finer fits = record {
  some_ticket = fits.some_ticket;
  weights = fits.weights;
  pieces = fits.pieces;
  caps = λ e within.
      let less : cap_under rules fine e * tickets lottery ≤ cap_under rules coarse e * tickets lottery =
      mul-le-mul_right (tickets lottery) (cap_under-more rules fine coarse e finer) in
      let held = fits.caps e within in
      omega arith;
}

pub shares_fit-more : (rules : RulesValue) (fine coarse : Sieve) (shares : List ℕ) → IsFiner fine coarse → SharesFit rules fine shares → SharesFit rules coarse shares
shares_fit-more rules fine coarse shares finer fits = record {
  long = fits.long;
  papers = fits.papers;
  of_groups = fits.of_groups;
  least = fits.least;
  greatest = fits.greatest;
  floors = fits.floors;
  caps = λ e within. let more = cap_under-more rules fine coarse e finer in let held = fits.caps e within in omega arith;
}

-- a pair that isn't kept has no ticket
nothing-dropped : (rules : RulesValue) (sieve : Sieve) (lottery : List Piece) (e : ℕ) → 1 ≤ rules.tickets
    → times lottery e * rules.tickets ≤ cap_under rules sieve e * tickets lottery → keeps rules sieve e ≡ false → times lottery e ≡ 0
nothing-dropped rules sieve lottery e some held dropped =
    let none : cap_under rules sieve e ≡ 0 = rw dropped refl in
    no-product (times lottery e) rules.tickets some (rw none at held)
  where
    no-product : (n m : ℕ) → 1 ≤ m → n * m ≤ 0 * tickets lottery → n ≡ 0
    no-product n m h product =
        let zeros : n * m ≤ 0 * m = omega (arith, zero-mul m, zero-mul (tickets lottery)) in
        let few : n ≤ 0 = le_of_mul-le-mul_right zeros h in
        omega arith

pub times-dropped : (rules : RulesValue) (sieve : Sieve) (lottery : List Piece) (e : ℕ) → AreRules rules → Fits rules sieve lottery → e < length rules.pairs
    → keeps rules sieve e ≡ false → times lottery e ≡ 0
times-dropped rules sieve lottery e are fits within dropped =
    nothing-dropped rules sieve lottery e (rw are.tickets (lit≤ tt)) (fits.caps e within) dropped

-- above the greatest score the locked pairs alone are kept
pub keeps-locked : (rules : RulesValue) (e : ℕ) → AreRules rules → e < length rules.pairs → keeps rules (Above (pos most_score)) e ≡ is_locked rules e
keeps-locked rules e are within =
    let none : lets_pass (Above (pos most_score)) (pair_at rules e).score ≡ false = lt-none (pos most_score) (pair_at rules e).score (are.pairs.each e within).high in
    rw none (or-false (is_locked rules e))

from-above : (rules : RulesValue) (lottery : List Piece) → AreRules rules → Fits rules (Above (pos most_score)) lottery → FitsLocked rules lottery
from-above rules lottery are fits = record {
  fits = fits-more rules (Above (pos most_score)) EveryPair lottery (finer-every_pair (Above (pos most_score))) fits;
  alone = λ e within open_pair. times-dropped rules (Above (pos most_score)) lottery e are fits within (keeps-locked rules e are within ∙ open_pair);
}

-- a locked pair keeps its cap under each sieve
cap_under-locked : (rules : RulesValue) (sieve : Sieve) (e : ℕ) → is_locked rules e ≡ true → cap_under rules sieve e ≡ (pair_at rules e).cap
cap_under-locked rules sieve e is = rw is refl

to-above : (rules : RulesValue) (lottery : List Piece) → AreRules rules → FitsLocked rules lottery → Fits rules (Above (pos most_score)) lottery
to-above rules lottery are locked = record {
  some_ticket = locked.fits.some_ticket;
  weights = locked.fits.weights;
  pieces = locked.fits.pieces;
  caps = λ e within. by e within (is_locked rules e) refl;
}
  where
    by : (e : ℕ) → e < length rules.pairs → (t : Bool) → is_locked rules e ≡ t → times lottery e * rules.tickets ≤ cap_under rules (Above (pos most_score)) e * tickets lottery
    by e within true is =
        let held = locked.fits.caps e within in
        rw (cap_under-locked rules (Above (pos most_score)) e is) (rw (cap_under-locked rules EveryPair e is) at held)
    by e within false is = let none : times lottery e ≡ 0 = locked.alone e within is in rw none (omega arith)

pub fits-locked : (rules : RulesValue) (lottery : List Piece) → AreRules rules → Fits rules (Above (pos most_score)) lottery ↔ FitsLocked rules lottery
fits-locked rules lottery are = (from-above rules lottery are, to-above rules lottery are)
