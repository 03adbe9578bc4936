-- An amount that moves back along a path, and what it leaves.
use Rattle.std.proofs.Common.{◌≡◌, ◌≢◌, ℕ, ◌<◌, List, sym, arith, inl, inr}
use Rattle.std.specs.Prelude.{ℤ, pos, ◌+ℤ◌, ◌-ℤ◌, ◌≤ℤ◌, ◌<ℤ◌}
use Rattle.std.proofs.lemmas.Int.{ints}
use Rattle.std.proofs.lemmas.Bool.{cases_eq}
use Rattle.bounded_network.proofs.Sums.{when-same, when-other}
use Rattle.bounded_network.specs.Network.{NetworkValue}
use Rattle.flow_solver.specs.State.{IsShifted, AreCalm, excess_at}

-- one step further back
pub IsShifted-back : (a b c : List ℤ) (from mid to amount : ℕ) → IsShifted a b mid to amount → IsShifted b c from mid amount → IsShifted a c from to amount
IsShifted-back a b c from mid to amount one two v = omega (arith, ints, one v, two v)

module _ (old new : List ℤ) (from to amount : ℕ) (shifted : IsShifted old new from to amount) (apart : from ≢ to) where
  at_from : excess_at new from ≡ excess_at old from -ℤ pos amount
  at_from =
      let w1 = when-same from amount in
      let w2 = when-other to from amount (λ e. apart (sym e)) in
      omega (arith, ints, shifted from, w1, w2)

  at_to : excess_at new to ≡ excess_at old to +ℤ pos amount
  at_to =
      let w1 = when-other from to amount apart in
      let w2 = when-same to amount in
      omega (arith, ints, shifted to, w1, w2)

  at_other : (v : ℕ) → v ≢ from → v ≢ to → excess_at new v ≡ excess_at old v
  at_other v not_from not_to =
      let w1 = when-other from v amount (λ e. not_from (sym e)) in
      let w2 = when-other to v amount (λ e. not_to (sym e)) in
      omega (arith, ints, shifted v, w1, w2)

  pub from_decreases : 0 < amount → excess_at new from <ℤ excess_at old from
  from_decreases some = omega (arith, ints, at_from, some)

  pub from_rich : pos amount ≤ℤ excess_at old from → pos 0 ≤ℤ excess_at new from
  from_rich enough = omega (arith, ints, at_from, enough)

  pub others_stay : (excess_at old to +ℤ pos amount) ≤ℤ pos 0 → (v : ℕ) → excess_at old v ≤ℤ pos 0 → excess_at new v ≤ℤ pos 0
  others_stay little v poor = elim (cases_eq v from) [
    | inl e ↦ rw e (let poor' = rw e at poor in omega (arith, ints, at_from, poor'))
    | inr not_from ↦ elim (cases_eq v to) [
      | inl e ↦ rw (e, at_to) little
      | inr not_to ↦ rw (at_other v not_from not_to) poor
    ]
  ]

  pub calm_stays : (net : NetworkValue) (potentials : List ℤ) → pos amount ≤ℤ excess_at old from → excess_at old to <ℤ pos 0 → AreCalm net old potentials → AreCalm net new potentials
  calm_stays net potentials enough lacks calm v b lack = elim (cases_eq v from) [
    | inl e ↦ let lack' = rw e at lack in absurd (omega (arith, ints, from_rich enough, lack'))
    | inr not_from ↦ elim (cases_eq v to) [
      | inl e ↦ calm v b (rw e lacks)
      | inr not_to ↦ calm v b (rw (at_other v not_from not_to) at lack)
    ]
  ]
