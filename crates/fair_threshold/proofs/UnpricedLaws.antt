-- A network at no cost has the circulations and the violated marks of the network.
use Rattle.std.proofs.Common.{◌≡◌, ◌↔◌, ℕ, ◌<◌, List, length, get_or, refl, sym, ap, ◌∙◌, subst, arith}
use Rattle.std.proofs.lemmas.Int.{ints}
use Rattle.std.proofs.lemmas.List.{get_or-map}
use Rattle.std.proofs.Math.ListN.{length-map}
use Rattle.std.specs.Prelude.{Bool, slice_index, ◌==◌, ◌&&◌, not}
use Rattle.match_rules.specs.Sums.{count_below, when}
use Rattle.bounded_network.specs.declared.network.Arc.{Arc}
use Rattle.bounded_network.specs.Network.{NetworkValue, IsArc, IsNetwork, IsCirculation, AreViolated, arc_at, no_arc, entering, leaving, floors_into, rooms_out_of, is_marked}
use Rattle.bounded_network.proofs.Sums.{count_below-equal}
use Rattle.fair_threshold.specs.Search.{unpriced, IsUnpriced}

-- as many arcs, and each is the same but for its cost
as-many : (net free : NetworkValue) → IsUnpriced net free → length free.arcs ≡ length net.arcs
as-many net free is = ap length is.arcs ∙ length-map net.arcs unpriced

same-arc : (net free : NetworkValue) (a : ℕ) → IsUnpriced net free → a < length net.arcs → arc_at free a ≡ unpriced (arc_at net a)
same-arc net free a is lt = ap (λ (arcs : List Arc). get_or arcs a no_arc) is.arcs ∙ get_or-map unpriced net.arcs a no_arc no_arc lt

-- the limits hold
pub unpriced-network : (net free : NetworkValue) → IsNetwork net → IsUnpriced net free → IsNetwork free
unpriced-network net free good is = record {
  few_nodes = rw is.nodes good.few_nodes;
  few_arcs = rw (as-many net free is) good.few_arcs;
  each = λ a lt.
      let within : a < length net.arcs = omega (arith, as-many net free is) in
      subst (λ (nodes : ℕ). IsArc nodes (arc_at free a)) (sym is.nodes)
      (subst (λ (arc : Arc). IsArc net.nodes arc) (sym (same-arc net free a is within)) (arc-unpriced net.nodes (arc_at net a) (good.each a within)));
}
  where
    arc-unpriced : (nodes : ℕ) (arc : Arc) → IsArc nodes arc → IsArc nodes (unpriced arc)
    arc-unpriced nodes arc is_arc = record {
      tail = is_arc.tail;
      head = is_arc.head;
      floor = is_arc.floor;
      room = is_arc.room;
      cost_low = omega (arith, ints);
      cost_high = omega (arith, ints);
    }

-- sums over the arcs that don't look at costs are the same
sum-same : (net free : NetworkValue) (term : Arc → ℕ → ℕ) → IsUnpriced net free → ((arc : Arc) (a : ℕ) → term (unpriced arc) a ≡ term arc a)
    → count_below (length free.arcs) (λ a. term (arc_at free a) a) ≡ count_below (length net.arcs) (λ a. term (arc_at net a) a)
sum-same net free term is blind =
    ap (λ (n : ℕ). count_below n (λ a. term (arc_at free a) a)) (as-many net free is)
    ∙ count_below-equal (length net.arcs) (λ a. term (arc_at free a) a) (λ a. term (arc_at net a) a)
    (λ a lt. ap (λ (arc : Arc). term arc a) (same-arc net free a is lt) ∙ blind (arc_at net a) a)

entering-same : (net free : NetworkValue) (flow : List ℕ) (v : ℕ) → IsUnpriced net free → entering free flow v ≡ entering net flow v
entering-same net free flow v is = sum-same net free (λ arc a. when (arc.head == v) (slice_index flow a)) is (λ arc a. refl)

leaving-same : (net free : NetworkValue) (flow : List ℕ) (v : ℕ) → IsUnpriced net free → leaving free flow v ≡ leaving net flow v
leaving-same net free flow v is = sum-same net free (λ arc a. when (arc.tail == v) (slice_index flow a)) is (λ arc a. refl)

floors-same : (net free : NetworkValue) (marks : List Bool) → IsUnpriced net free → floors_into free marks ≡ floors_into net marks
floors-same net free marks is = sum-same net free (λ arc a. when (is_marked marks arc.head && not (is_marked marks arc.tail)) arc.floor) is (λ arc a. refl)

rooms-same : (net free : NetworkValue) (marks : List Bool) → IsUnpriced net free → rooms_out_of free marks ≡ rooms_out_of net marks
rooms-same net free marks is = sum-same net free (λ arc a. when (is_marked marks arc.tail && not (is_marked marks arc.head)) arc.room) is (λ arc a. refl)

-- bounds are the same
floor-same : (net free : NetworkValue) (a : ℕ) → IsUnpriced net free → a < length net.arcs → (arc_at free a).floor ≡ (arc_at net a).floor
floor-same net free a is lt = ap (λ (arc : Arc). arc.floor) (same-arc net free a is lt)

room-same : (net free : NetworkValue) (a : ℕ) → IsUnpriced net free → a < length net.arcs → (arc_at free a).room ≡ (arc_at net a).room
room-same net free a is lt = ap (λ (arc : Arc). arc.room) (same-arc net free a is lt)

circulation-from : (net free : NetworkValue) (flow : List ℕ) → IsUnpriced net free → IsCirculation free flow → IsCirculation net flow
circulation-from net free flow is c = record {
  long = c.long ∙ as-many net free is;
  floors = λ a lt. let held = c.floors a (omega (arith, lt, as-many net free is)) in omega (arith, held, floor-same net free a is lt);
  rooms = λ a lt. let held = c.rooms a (omega (arith, lt, as-many net free is)) in omega (arith, held, room-same net free a is lt);
  balanced = λ v lt. sym (entering-same net free flow v is) ∙ c.balanced v (omega (arith, lt, is.nodes)) ∙ leaving-same net free flow v is;
}

circulation-to : (net free : NetworkValue) (flow : List ℕ) → IsUnpriced net free → IsCirculation net flow → IsCirculation free flow
circulation-to net free flow is c = record {
  long = c.long ∙ sym (as-many net free is);
  floors = λ a lt. let within : a < length net.arcs = omega (arith, lt, as-many net free is) in let held = c.floors a within in omega (arith, held, floor-same net free a is within);
  rooms = λ a lt. let within : a < length net.arcs = omega (arith, lt, as-many net free is) in let held = c.rooms a within in omega (arith, held, room-same net free a is within);
  balanced = λ v lt. entering-same net free flow v is ∙ c.balanced v (omega (arith, lt, is.nodes)) ∙ sym (leaving-same net free flow v is);
}

pub circulations-unpriced : (net free : NetworkValue) (flow : List ℕ) → IsUnpriced net free → IsCirculation free flow ↔ IsCirculation net flow
circulations-unpriced net free flow is = (circulation-from net free flow is, circulation-to net free flow is)

pub marks-unpriced : (net free : NetworkValue) (marks : List Bool) → IsUnpriced net free → AreViolated free marks → AreViolated net marks
marks-unpriced net free marks is violated = omega (arith, violated, floors-same net free marks is, rooms-same net free marks is)
