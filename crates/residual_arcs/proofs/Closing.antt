-- Marked nodes that no path leaves, and that more enters than leaves, are violated marks.
use Rattle.std.proofs.Common.{◌≡◌, ℕ, ◌<◌, ◌≤◌, Bool, true, false, List, length, refl, arith, inl, inr}
use Rattle.std.specs.Prelude.{ℤ, pos, ◌-ℤ◌, ◌*ℤ◌, ◌≤ℤ◌, slice_index}
use Rattle.std.proofs.lemmas.Int.{ints}
use Rattle.std.proofs.lemmas.Bool.{cases_lt, both_ways}
use Rattle.std.proofs.Math.IntN.{*ℤ-zero}
use Rattle.match_rules.specs.Sums.{sum_below}
use Rattle.bounded_network.specs.Network.{NetworkValue, IsNetwork, AreViolated, entering, leaving, arc_at, is_marked}
use Rattle.bounded_network.proofs.Scaled.{scale--ℤ}
use Rattle.bounded_network.proofs.Sums.{sum_below-equal, term_le_sum}
use Rattle.bounded_network.proofs.Laws.{rises-are-excesses, mark_weight, mark_bound, mark_bounds-sum}
use Rattle.residual_arcs.specs.Closed.{AreClosed}

-- what an arc gives where no step on which something is left leaves the marks
pub closed_at_arc : (tail head : Bool) (x floor room : ℕ) → floor ≤ x → x ≤ room → (head ≡ true → tail ≡ false → x ≤ floor) → (tail ≡ true → head ≡ false → room ≤ x)
    → pos x *ℤ (mark_weight head -ℤ mark_weight tail) ≡ mark_bound tail head floor room
closed_at_arc true true x floor room fx xr into out = omega (arith, ints, *ℤ-zero (pos x))
closed_at_arc true false x floor room fx xr into out = omega (arith, ints, scale--ℤ x (pos 0) (pos 1), *ℤ-zero (pos x), out refl refl)
closed_at_arc false true x floor room fx xr into out = omega (arith, ints, into refl refl)
closed_at_arc false false x floor room fx xr into out = omega (arith, ints, *ℤ-zero (pos x))

-- the excess of a node, if it is marked
excess_at_node : (marked : Bool) (e l : ℕ) → (marked ≡ true → l ≤ e) → pos 0 ≤ℤ ((pos e *ℤ mark_weight marked) -ℤ (pos l *ℤ mark_weight marked))
excess_at_node true e l rich = let h = rich refl in omega (arith, ints, h)
excess_at_node false e l rich = omega (arith, ints, *ℤ-zero (pos e), *ℤ-zero (pos l))

marked_node : (marked : Bool) (e l : ℕ) → marked ≡ true → (pos e *ℤ mark_weight marked) -ℤ (pos l *ℤ mark_weight marked) ≡ pos e -ℤ pos l
marked_node true e l h = omega (arith, ints)
marked_node false e l h = absurd (both_ways false refl h)

module _ (net : NetworkValue) (flow : List ℕ) (marks : List Bool) (closed : AreClosed net flow marks) where
  -- an arc into closed marks carries its floor, and one out of them its room
  pub into_closed : (a : ℕ) → a < length net.arcs → is_marked marks (arc_at net a).head ≡ true → is_marked marks (arc_at net a).tail ≡ false → slice_index flow a ≤ (arc_at net a).floor
  into_closed a b head_in tail_out = elim (cases_lt (arc_at net a).floor (slice_index flow a)) [
    | inl more ↦ absurd (both_ways (is_marked marks (arc_at net a).tail) tail_out (closed a false b head_in (omega arith)))
    | inr none ↦ none
  ]

  pub out_of_closed : (a : ℕ) → a < length net.arcs → is_marked marks (arc_at net a).tail ≡ true → is_marked marks (arc_at net a).head ≡ false → (arc_at net a).room ≤ slice_index flow a
  out_of_closed a b tail_in head_out = elim (cases_lt (slice_index flow a) (arc_at net a).room) [
    | inl less ↦ absurd (both_ways (is_marked marks (arc_at net a).head) head_out (closed a true b tail_in (omega arith)))
    | inr full ↦ full
  ]

-- closed marks that nothing leaves more than enters, but one that more enters, are violated
pub AreViolated-from_closed : (net : NetworkValue) (flow : List ℕ) (marks : List Bool) → IsNetwork net
    → ((a : ℕ) → a < length net.arcs → (arc_at net a).floor ≤ slice_index flow a) → ((a : ℕ) → a < length net.arcs → slice_index flow a ≤ (arc_at net a).room) → AreClosed net flow marks
    → ((v : ℕ) → v < net.nodes → is_marked marks v ≡ true → leaving net flow v ≤ entering net flow v)
    → (source : ℕ) → source < net.nodes → is_marked marks source ≡ true → leaving net flow source < entering net flow source → AreViolated net marks
AreViolated-from_closed net flow marks good floors rooms closed calm source source_in source_marked rich =
    let m : ℕ = length net.arcs in
    let p : ℕ → ℤ = λ v. mark_weight (is_marked marks v) in
    let given : ℕ → ℤ = λ a. pos (slice_index flow a) *ℤ (p (arc_at net a).head -ℤ p (arc_at net a).tail) in
    let bound : ℕ → ℤ = λ a. mark_bound (is_marked marks (arc_at net a).tail) (is_marked marks (arc_at net a).head) (arc_at net a).floor (arc_at net a).room in
    let node : ℕ → ℤ = λ v. (pos (entering net flow v) *ℤ p v) -ℤ (pos (leaving net flow v) *ℤ p v) in
    let arcs : sum_below m given ≡ sum_below m bound = sum_below-equal m given bound (λ a b.
    closed_at_arc (is_marked marks (arc_at net a).tail) (is_marked marks (arc_at net a).head) (slice_index flow a) (arc_at net a).floor (arc_at net a).room (floors a b) (rooms a b)
    (into_closed net flow marks closed a b) (out_of_closed net flow marks closed a b)) in
    let sum = rises-are-excesses net flow p good in
    let at_source : node source ≤ℤ sum_below net.nodes node = term_le_sum net.nodes node source
    (λ v b. excess_at_node (is_marked marks v) (entering net flow v) (leaving net flow v) (calm v b)) source_in in
    let source_is = marked_node (is_marked marks source) (entering net flow source) (leaving net flow source) source_marked in
    omega (arith, ints, arcs, sum, at_source, source_is, rich, mark_bounds-sum net marks)
