-- The state after an amount is carried over a step.
use Rattle.std.proofs.Common.{◌≡◌, ◌≢◌, ℕ, ◌+◌, ◌-◌, ◌*◌, ◌^◌, ◌<◌, ◌≤◌, ◌⊎◌, Bool, true, false, List, length, get_or-set_same, get_or-set_other, refl, sym, ap, ◌∙◌, arith, inl, inr}
use Rattle.std.specs.Prelude.{ℤ, pos, ◌-ℤ◌, ◌==◌, slice_set, slice_index}
use Rattle.std.proofs.lemmas.Int.{ints}
use Rattle.std.proofs.lemmas.Bool.{cases_eq, cases_lt}
use Rattle.std.proofs.lemmas.List.{length-set, get_or_past}
use Rattle.match_rules.specs.Sums.{when}
use Rattle.bounded_network.specs.Network.{NetworkValue, IsNetwork, entering, leaving, arc_at, reduced_cost}
use Rattle.bounded_network.proofs.Sums.{count_below-at_most}
use Rattle.bounded_network.specs.declared.network.TheConstants.{MAX_ROOM, MAX_ARCS}
use Rattle.residual_arcs.proofs.Amounts.{amount-set, when-+, when_at_most}
use Rattle.residual_arcs.specs.Step.{start_of, end_of, left_on, carried}
use Rattle.flow_solver.specs.Step.{step_reduced}
use Rattle.flow_solver.specs.State.{IsWithin, IsState, IsShifted, excess_at}

-- an excess is small
pub excess_within : (net : NetworkValue) (flow : List ℕ) (excess potentials : List ℤ) → IsNetwork net → IsState net flow excess potentials → (v : ℕ) → IsWithin (2 ^ 100) (excess_at excess v)
excess_within net flow excess potentials good state v = elim (cases_lt v net.nodes) [
  | inl below ↦
      let m : ℕ = length net.arcs in
      let most : (a : ℕ) → a < m → slice_index flow a ≤ MAX_ROOM = λ a b. omega (arith, state.rooms a b, (good.each a b).room) in
      let into : entering net flow v ≤ m * MAX_ROOM = count_below-at_most m (λ a. when ((arc_at net a).head == v) (slice_index flow a)) MAX_ROOM (λ a b. omega (arith, most a b, when_at_most ((arc_at net a).head == v) (slice_index flow a))) in
      let out : leaving net flow v ≤ m * MAX_ROOM = count_below-at_most m (λ a. when ((arc_at net a).tail == v) (slice_index flow a)) MAX_ROOM (λ a b. omega (arith, most a b, when_at_most ((arc_at net a).tail == v) (slice_index flow a))) in
      let few : m ≤ MAX_ARCS = good.few_arcs in
      rw (state.exact v below) record { low = omega (arith, ints, into, out, few); high = omega (arith, ints, into, out, few) }
  | inr above ↦
      let past : excess_at excess v ≡ pos 0 = get_or_past excess v (pos 0) (omega (arith, state.excess_long)) in
      rw past record { low = omega (arith, ints); high = omega (arith, ints) }
]

-- the state after one amount is y, where the reduced cost is 0, and the excesses follow
module _ (net : NetworkValue) (flow : List ℕ) (excess potentials : List ℤ) (good : IsNetwork net) (state : IsState net flow excess potentials) (a : ℕ) (a_in : a < length net.arcs) (tight : reduced_cost net potentials a ≡ pos 0) where
  changed_at : (y : ℕ) (k : ℕ) → k < length net.arcs → ((k ≡ a) × (slice_index (slice_set flow a y) k ≡ y)) ⊎ ((k ≢ a) × (slice_index (slice_set flow a y) k ≡ slice_index flow k))
  changed_at y k b = elim (cases_eq k a) [
    | inl e ↦ inl (e, rw e (get_or-set_same flow a y 0 (omega (arith, state.flow_long))))
    | inr ne ↦ inr (ne, rw get_or-set_other refl)
  ]

  pub IsState-changed : (y : ℕ) (excess' : List ℤ) → (arc_at net a).floor ≤ y → y ≤ (arc_at net a).room → length excess' ≡ length excess
      → ((v : ℕ) → v < net.nodes → excess_at excess' v ≡ pos (entering net (slice_set flow a y) v) -ℤ pos (leaving net (slice_set flow a y) v))
      → IsState net (slice_set flow a y) excess' potentials
  IsState-changed y excess' above below long exact = record {
    flow_long = omega (arith, length-set flow a y, state.flow_long);
    excess_long = long ∙ state.excess_long;
    potentials_long = state.potentials_long;
    floors = λ k b. elim (changed_at y k b) [ inl h ↦ rw (h.1, h.0) above | inr h ↦ rw h.1 (state.floors k b) ];
    rooms = λ k b. elim (changed_at y k b) [ inl h ↦ rw (h.1, h.0) below | inr h ↦ rw h.1 (state.rooms k b) ];
    exact = exact;
    optimal = record {
      may_rise = λ k b less. elim (changed_at y k b) [ inl h ↦ rw (h.0, tight) (omega (arith, ints)) | inr h ↦ state.optimal.may_rise k b (rw h.1 at less) ];
      may_fall = λ k b more. elim (changed_at y k b) [ inl h ↦ rw (h.0, tight) (omega (arith, ints)) | inr h ↦ state.optimal.may_fall k b (rw h.1 at more) ];
    };
    bounded = state.bounded;
  }

  pub IsState-forward : (amount : ℕ) (excess' : List ℤ) → amount ≤ (arc_at net a).room - slice_index flow a → length excess' ≡ length excess
      → IsShifted excess excess' (arc_at net a).tail (arc_at net a).head amount → IsState net (slice_set flow a (slice_index flow a + amount)) excess' potentials
  IsState-forward amount excess' fits long shifted =
      let x : ℕ = slice_index flow a in
      IsState-changed (x + amount) excess' (omega (arith, state.floors a a_in)) (omega (arith, state.rooms a a_in)) long (λ v b.
      let heads = amount-set (length net.arcs) flow (λ k. (arc_at net k).head) a (x + amount) v state.flow_long a_in in
      let tails = amount-set (length net.arcs) flow (λ k. (arc_at net k).tail) a (x + amount) v state.flow_long a_in in
      let h = when-+ ((arc_at net a).head == v) x amount in
      let t = when-+ ((arc_at net a).tail == v) x amount in
      omega (arith, ints, heads, tails, h, t, shifted v, state.exact v b))

  pub IsState-back : (amount : ℕ) (excess' : List ℤ) → amount ≤ slice_index flow a - (arc_at net a).floor → length excess' ≡ length excess
      → IsShifted excess excess' (arc_at net a).head (arc_at net a).tail amount → IsState net (slice_set flow a (slice_index flow a - amount)) excess' potentials
  IsState-back amount excess' fits long shifted =
      let x : ℕ = slice_index flow a in
      let y : ℕ = x - amount in
      let whole : y + amount ≡ x = omega (arith, state.floors a a_in) in
      IsState-changed y excess' (omega (arith, state.floors a a_in)) (omega (arith, state.rooms a a_in)) long (λ v b.
      let heads = amount-set (length net.arcs) flow (λ k. (arc_at net k).head) a y v state.flow_long a_in in
      let tails = amount-set (length net.arcs) flow (λ k. (arc_at net k).tail) a y v state.flow_long a_in in
      let h : when ((arc_at net a).head == v) x ≡ when ((arc_at net a).head == v) y + when ((arc_at net a).head == v) amount = ap (when ((arc_at net a).head == v)) (sym whole) ∙ when-+ ((arc_at net a).head == v) y amount in
      let t : when ((arc_at net a).tail == v) x ≡ when ((arc_at net a).tail == v) y + when ((arc_at net a).tail == v) amount = ap (when ((arc_at net a).tail == v)) (sym whole) ∙ when-+ ((arc_at net a).tail == v) y amount in
      omega (arith, ints, heads, tails, h, t, shifted v, state.exact v b))

-- the state after an amount is carried over a step whose reduced cost is 0
pub IsState-carry : (net : NetworkValue) (flow : List ℕ) (excess potentials : List ℤ) (a : ℕ) (forward : Bool) (amount : ℕ) (excess' : List ℤ) → IsNetwork net → IsState net flow excess potentials → a < length net.arcs
    → amount ≤ left_on (arc_at net a) (slice_index flow a) forward → step_reduced (arc_at net a) forward potentials ≡ pos 0
    → length excess' ≡ length excess → IsShifted excess excess' (start_of (arc_at net a) forward) (end_of (arc_at net a) forward) amount
    → IsState net (slice_set flow a (carried (slice_index flow a) forward amount)) excess' potentials
IsState-carry net flow excess potentials a true amount excess' good state a_in fits tight long shifted =
    IsState-forward net flow excess potentials good state a a_in tight amount excess' fits long shifted
IsState-carry net flow excess potentials a false amount excess' good state a_in fits tight long shifted =
    let even : reduced_cost net potentials a ≡ pos 0 = omega (arith, ints, tight) in
    IsState-back net flow excess potentials good state a a_in even amount excess' fits long shifted
