-- The first flow and its excesses.
use Rattle.std.proofs.Common.{◌≡◌, ℕ, ◌+◌, ◌*◌, ◌^◌, ◌<◌, ◌≤◌, List, [], ◌∷◌, ◌++◌, length, ◌∙◌, arith, inl, inr, add-one}
use Rattle.std.specs.Prelude.{ℤ, pos, ◌-ℤ◌, ◌==◌, slice_index}
use Rattle.std.proofs.lemmas.Int.{ints}
use Rattle.std.proofs.lemmas.Bool.{cases_eq, cases_lt}
use Rattle.std.proofs.lemmas.List.{get_or_past, get_or_push, get_or_append_left}
use Rattle.match_rules.specs.Sums.{count_below, when}
use Rattle.bounded_network.proofs.Sums.{count_below-at_most}
use Rattle.bounded_network.specs.Network.{NetworkValue, IsNetwork, arc_at, reduced_cost}
use Rattle.bounded_network.specs.declared.network.TheConstants.{MAX_ROOM, MAX_ARCS}
use Rattle.flow_solver.specs.State.{IsWithin, IsShifted, excess_at, Suits}
use Rattle.residual_arcs.proofs.Amounts.{when_at_most}

-- each excess is what enters less what leaves over the arcs below a place
pub record AreExcessesTo (net : NetworkValue) (flow : List ℕ) (i : ℕ) (excess : List ℤ) : Type 0 where
  pub long : length excess ≡ net.nodes
  pub each : (v : ℕ) → v < net.nodes → excess_at excess v ≡ pos (count_below i (λ a. when ((arc_at net a).head == v) (slice_index flow a))) -ℤ pos (count_below i (λ a. when ((arc_at net a).tail == v) (slice_index flow a)))

-- they are small
pub AreExcessesTo-within : (net : NetworkValue) (flow : List ℕ) (i : ℕ) (excess : List ℤ) → IsNetwork net → i ≤ length net.arcs → ((a : ℕ) → a < length net.arcs → slice_index flow a ≤ MAX_ROOM) → AreExcessesTo net flow i excess → (v : ℕ) → IsWithin (2 ^ 100) (excess_at excess v)
AreExcessesTo-within net flow i excess good i_in most sums v = elim (cases_lt v net.nodes) [
  | inl below ↦
      let into : count_below i (λ a. when ((arc_at net a).head == v) (slice_index flow a)) ≤ i * MAX_ROOM = count_below-at_most i (λ a. when ((arc_at net a).head == v) (slice_index flow a)) MAX_ROOM (λ a b. omega (arith, most a (omega arith), when_at_most ((arc_at net a).head == v) (slice_index flow a))) in
      let out : count_below i (λ a. when ((arc_at net a).tail == v) (slice_index flow a)) ≤ i * MAX_ROOM = count_below-at_most i (λ a. when ((arc_at net a).tail == v) (slice_index flow a)) MAX_ROOM (λ a b. omega (arith, most a (omega arith), when_at_most ((arc_at net a).tail == v) (slice_index flow a))) in
      let few : i ≤ MAX_ARCS = omega (arith, good.few_arcs) in
      rw (sums.each v below) record { low = omega (arith, ints, into, out, few); high = omega (arith, ints, into, out, few) }
  | inr above ↦
      let past : excess_at excess v ≡ pos 0 = get_or_past excess v (pos 0) (omega (arith, sums.long)) in
      rw past record { low = omega (arith, ints); high = omega (arith, ints) }
]

-- one arc more
pub AreExcessesTo-more : (net : NetworkValue) (flow : List ℕ) (i : ℕ) (excess excess' : List ℤ) → AreExcessesTo net flow i excess → length excess' ≡ length excess → IsShifted excess excess' (arc_at net i).tail (arc_at net i).head (slice_index flow i) → AreExcessesTo net flow (i + 1) excess'
AreExcessesTo-more net flow i excess excess' sums long shifted = record {
  long = long ∙ sums.long;
  each = λ v b. rw add-one (omega (arith, ints, sums.each v b, shifted v));
}

-- one amount more that suits its arc
pub Suits-more : (net : NetworkValue) (potentials : List ℤ) (i : ℕ) (flow : List ℕ) (x : ℕ) → length flow ≡ i → ((a : ℕ) → a < i → Suits (arc_at net a) (reduced_cost net potentials a) (slice_index flow a))
    → Suits (arc_at net i) (reduced_cost net potentials i) x → (a : ℕ) → a < i + 1 → Suits (arc_at net a) (reduced_cost net potentials a) (slice_index (flow ++ x ∷ []) a)
Suits-more net potentials i flow x long before here a b = elim (cases_eq a i) [
  | inl e ↦ rw (e, get_or_push flow x 0 i long) here
  | inr ne ↦ rw (get_or_append_left flow (x ∷ []) 0 a (omega arith)) (before a (omega arith))
]
