-- Other bounds of one arc.
use Rattle.std.proofs.Common.{◌≡◌, ℕ, ◌<◌, ◌≤◌, ◌↔◌, IsTrue, true, false, length, refl, sym, subst, arith, inl, inr}
use Rattle.std.proofs.lemmas.Bool.{cases_eq}
use Rattle.std.proofs.lemmas.List.{get_or-set_other, get_or-set_same}
use Rattle.std.proofs.Math.ListN.{length-set}
use Rattle.bounded_network.specs.declared.network.TheConstants.{MAX_ROOM}
use Rattle.bounded_network.specs.Network.{NetworkValue, IsNetwork, IsArc, arc_at, no_arc, with_bounds}

-- the arc has the bounds, and each other arc stays
pub bounded-at : (net : NetworkValue) (a floor room : ℕ) → a < length net.arcs
    → arc_at (with_bounds net a floor room) a ≡ record (arc_at net a) { floor = floor; room = room }
bounded-at net a floor room lt = get_or-set_same net.arcs a (record (arc_at net a) { floor = floor; room = room }) no_arc lt

pub bounded-other : (net : NetworkValue) (a floor room b : ℕ) → (b ≡ a → ⊥)
    → arc_at (with_bounds net a floor room) b ≡ arc_at net b
bounded-other net a floor room b other =
    get_or-set_other net.arcs a b (record (arc_at net a) { floor = floor; room = room }) no_arc other

-- bounds within the limits give a network, and no others
pub network-of_bounds : (net : NetworkValue) (a floor room : ℕ) → IsNetwork net → a < length net.arcs → floor ≤ room → room ≤ MAX_ROOM
    → IsNetwork (with_bounds net a floor room)
network-of_bounds net a floor room good lt ordered small =
    let long : length (with_bounds net a floor room).arcs ≡ length net.arcs = length-set net.arcs a (record (arc_at net a) { floor = floor; room = room }) in
    let changed : IsArc net.nodes (record (arc_at net a) { floor = floor; room = room }) =
    (let before = good.each a lt in record { tail = before.tail; head = before.head; floor = ordered; room = small; cost_low = before.cost_low; cost_high = before.cost_high }) in
    let each : (b : ℕ) → b < length (with_bounds net a floor room).arcs → IsArc net.nodes (arc_at (with_bounds net a floor room) b) =
    (λ b within. elim (cases_eq b a) [
      | inl same ↦ subst (λ n. IsArc net.nodes (arc_at (with_bounds net a floor room) n)) (sym same) (subst (λ arc. IsArc net.nodes arc) (sym (bounded-at net a floor room lt)) changed)
      | inr other ↦ subst (λ arc. IsArc net.nodes arc) (sym (bounded-other net a floor room b other)) (good.each b (omega arith))
    ]) in
    record { few_nodes = good.few_nodes; few_arcs = omega (arith, good.few_arcs); each = each }

pub bounds-of_network : (net : NetworkValue) (a floor room : ℕ) → a < length net.arcs → IsNetwork (with_bounds net a floor room)
    → (floor ≤ room) × (room ≤ MAX_ROOM)
bounds-of_network net a floor room lt good =
    let within : a < length (with_bounds net a floor room).arcs = omega (arith, length-set net.arcs a (record (arc_at net a) { floor = floor; room = room })) in
    let is_arc : IsArc net.nodes (record (arc_at net a) { floor = floor; room = room }) = subst (λ arc. IsArc net.nodes arc) (bounded-at net a floor room lt) (good.each a within) in
    (is_arc.floor, is_arc.room)

-- a rebound is refused where the place or the bounds aren't good, and taken where they are
abbrev pub CanRebound : NetworkValue → ℕ → ℕ → ℕ → Type 0
CanRebound net a floor room = (a < length net.arcs) × IsNetwork (with_bounds net a floor room)

pub refused : (net : NetworkValue) (a floor room : ℕ) → ((a < length net.arcs) → (floor ≤ room) → (room ≤ MAX_ROOM) → ⊥) → IsTrue false ↔ CanRebound net a floor room
refused net a floor room bad = (
  λ h. cc,
  λ can. absurd (let bounds = bounds-of_network net a floor room can.0 can.1 in bad can.0 bounds.0 bounds.1),
)

pub taken : (net : NetworkValue) (a floor room : ℕ) → IsNetwork net → a < length net.arcs → floor ≤ room → room ≤ MAX_ROOM → IsTrue true ↔ CanRebound net a floor room
taken net a floor room good lt ordered small = (λ h. (lt, network-of_bounds net a floor room good lt ordered small), λ can. refl)
