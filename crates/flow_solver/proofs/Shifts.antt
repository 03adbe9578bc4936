-- Changes of excesses.
use Rattle.std.proofs.Common.{◌≡◌, ◌≢◌, ℕ, ◌<◌, ◌⊎◌, List, length, get_or-set_same, get_or-set_other, refl, sym, arith, inl, inr}
use Rattle.std.specs.Prelude.{ℤ, pos, ◌+ℤ◌, ◌-ℤ◌, ◌==◌, slice_set}
use Rattle.std.proofs.lemmas.Int.{ints}
use Rattle.std.proofs.lemmas.Bool.{cases_eq}
use Rattle.std.proofs.lemmas.List.{length-set}
use Rattle.match_rules.specs.Sums.{when}
use Rattle.bounded_network.proofs.Sums.{when-same, when-other}
use Rattle.flow_solver.specs.State.{excess_at, IsShifted}

-- one excess changed
pub excess_at-set : (xs : List ℤ) (i : ℕ) (z : ℤ) (v : ℕ) → i < length xs → ((i ≡ v) × (excess_at (slice_set xs i z) v ≡ z)) ⊎ ((i ≢ v) × (excess_at (slice_set xs i z) v ≡ excess_at xs v))
excess_at-set xs i z v lt = elim (cases_eq i v) [
  | inl e ↦ inl (e, rw (← e) (get_or-set_same xs i z (pos 0) lt))
  | inr ne ↦ let other : v ≢ i = λ e. ne (sym e) in inr (ne, rw get_or-set_other refl)
]

-- two writes that move an amount
pub IsShifted-from_sets : (xs : List ℤ) (from to amount : ℕ) (a b : ℤ) → from < length xs → to < length xs → a ≡ excess_at xs from -ℤ pos amount → b ≡ excess_at (slice_set xs from a) to +ℤ pos amount → IsShifted xs (slice_set (slice_set xs from a) to b) from to amount
IsShifted-from_sets xs from to amount a b from_in to_in ea eb v =
    let to_in_new : to < length (slice_set xs from a) = omega (arith, length-set xs from a) in
    elim (excess_at-set (slice_set xs from a) to b v to_in_new) [
      | inl at_to ↦ elim (excess_at-set xs from a v from_in) [
        | inl at_from ↦
            let w1 : when (from == v) amount ≡ amount = rw at_from.0 (when-same v amount) in
            let w2 : when (to == v) amount ≡ amount = rw at_to.0 (when-same v amount) in
            let b_is : b ≡ excess_at (slice_set xs from a) v +ℤ pos amount = rw at_to.0 at eb in
            let a_is : a ≡ excess_at xs v -ℤ pos amount = rw at_from.0 at ea in
            rw (at_to.1, w1, w2, b_is, at_from.1, a_is) refl
        | inr off_from ↦
            let w1 : when (from == v) amount ≡ 0 = when-other from v amount off_from.0 in
            let w2 : when (to == v) amount ≡ amount = rw at_to.0 (when-same v amount) in
            let b_is : b ≡ excess_at (slice_set xs from a) v +ℤ pos amount = rw at_to.0 at eb in
            rw (at_to.1, w1, w2, b_is, off_from.1) (omega (arith, ints))
      ]
      | inr off_to ↦ elim (excess_at-set xs from a v from_in) [
        | inl at_from ↦
            let w1 : when (from == v) amount ≡ amount = rw at_from.0 (when-same v amount) in
            let w2 : when (to == v) amount ≡ 0 = when-other to v amount off_to.0 in
            let a_is : a ≡ excess_at xs v -ℤ pos amount = rw at_from.0 at ea in
            rw (off_to.1, w1, w2, at_from.1, a_is) (omega (arith, ints))
        | inr off_from ↦
            let w1 : when (from == v) amount ≡ 0 = when-other from v amount off_from.0 in
            let w2 : when (to == v) amount ≡ 0 = when-other to v amount off_to.0 in
            rw (off_to.1, w1, w2, off_from.1) (omega (arith, ints))
      ]
    ]
