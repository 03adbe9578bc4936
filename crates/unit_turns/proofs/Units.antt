-- A circulation as a unit is carried over steps.
use Rattle.std.proofs.Common.{◌≡◌, ◌≢◌, ℕ, suc, ◌+◌, ◌-◌, ◌<◌, ◌≤◌, Bool, true, false, List, length, get_or-set_same, get_or-set_other, refl, sym, ap, ◌∙◌, arith, inl, inr}
use Rattle.std.specs.Prelude.{slice_set, slice_index, ◌==◌}
use Rattle.std.proofs.lemmas.Bool.{cases_eq, cases_lt}
use Rattle.std.proofs.lemmas.List.{length-set}
use Rattle.match_rules.specs.Sums.{when}
use Rattle.bounded_network.specs.Network.{NetworkValue, IsCirculation, arc_at, entering, leaving}
use Rattle.bounded_network.specs.declared.network.Arc.{Arc}
use Rattle.residual_arcs.specs.declared.step.Step.{Step}
use Rattle.residual_arcs.specs.Step.{start_of, end_of, left_on, carried}
use Rattle.residual_arcs.proofs.Amounts.{amount-set, when-+}
use Rattle.unit_turns.specs.Steps.{step_at, starts_to, ends_to, AreFree, AreRound, AreTaken}

-- what is carried stays within the bounds
pub carried_above : (arc : Arc) (x : ℕ) (forward : Bool) → arc.floor ≤ x → 0 < left_on arc x forward → arc.floor ≤ carried x forward 1
carried_above arc x true above left = omega (arith, above)
carried_above arc x false above left = omega (arith, above, left)

pub carried_below : (arc : Arc) (x : ℕ) (forward : Bool) → x ≤ arc.room → 0 < left_on arc x forward → carried x forward 1 ≤ arc.room
carried_below arc x true below left = omega (arith, below, left)
carried_below arc x false below left = omega (arith, below)

-- a unit over a step enters its end and leaves its start
pub unit_moved : (net : NetworkValue) (flow : List ℕ) (a : ℕ) (forward : Bool) → length flow ≡ length net.arcs → a < length net.arcs → (arc_at net a).floor ≤ slice_index flow a
    → 0 < left_on (arc_at net a) (slice_index flow a) forward → (v : ℕ)
    → entering net (slice_set flow a (carried (slice_index flow a) forward 1)) v + leaving net flow v + when (start_of (arc_at net a) forward == v) 1
    ≡ entering net flow v + leaving net (slice_set flow a (carried (slice_index flow a) forward 1)) v + when (end_of (arc_at net a) forward == v) 1
unit_moved net flow a true long a_in above left v =
    let x : ℕ = slice_index flow a in
    let heads = amount-set (length net.arcs) flow (λ k. (arc_at net k).head) a (x + 1) v long a_in in
    let tails = amount-set (length net.arcs) flow (λ k. (arc_at net k).tail) a (x + 1) v long a_in in
    let h = when-+ ((arc_at net a).head == v) x 1 in
    let t = when-+ ((arc_at net a).tail == v) x 1 in
    omega (arith, heads, tails, h, t)
unit_moved net flow a false long a_in above left v =
    let x : ℕ = slice_index flow a in
    let y : ℕ = x - 1 in
    let whole : y + 1 ≡ x = omega (arith, above, left) in
    let heads = amount-set (length net.arcs) flow (λ k. (arc_at net k).head) a y v long a_in in
    let tails = amount-set (length net.arcs) flow (λ k. (arc_at net k).tail) a y v long a_in in
    let h : when ((arc_at net a).head == v) x ≡ when ((arc_at net a).head == v) y + when ((arc_at net a).head == v) 1 = ap (when ((arc_at net a).head == v)) (sym whole) ∙ when-+ ((arc_at net a).head == v) y 1 in
    let t : when ((arc_at net a).tail == v) x ≡ when ((arc_at net a).tail == v) y + when ((arc_at net a).tail == v) 1 = ap (when ((arc_at net a).tail == v)) (sym whole) ∙ when-+ ((arc_at net a).tail == v) y 1 in
    omega (arith, heads, tails, h, t)

-- the steps before a place were taken
pub record AreTakenTo (net : NetworkValue) (old now : List ℕ) (steps : List Step) (place : ℕ) : Type 0 where
  pub long : length now ≡ length net.arcs
  pub floors : (a : ℕ) → a < length net.arcs → (arc_at net a).floor ≤ slice_index now a
  pub rooms : (a : ℕ) → a < length net.arcs → slice_index now a ≤ (arc_at net a).room
  pub moved : (i : ℕ) → i < place → slice_index now (step_at steps i).arc ≡ carried (slice_index old (step_at steps i).arc) (step_at steps i).forward 1
  pub stay : (a : ℕ) → ((i : ℕ) → i < place → (step_at steps i).arc ≢ a) → slice_index now a ≡ slice_index old a
  pub balance : (v : ℕ) → entering net now v + leaving net old v + starts_to net steps place v ≡ entering net old v + leaving net now v + ends_to net steps place v

pub AreTakenTo-first : (net : NetworkValue) (flow : List ℕ) (steps : List Step) → IsCirculation net flow → AreTakenTo net flow flow steps 0
AreTakenTo-first net flow steps round = record {
  long = round.long;
  floors = round.floors;
  rooms = round.rooms;
  moved = λ i b. absurd (omega (arith, b));
  stay = λ a none. refl;
  balance = λ v. omega arith;
}

module _ (net : NetworkValue) (old now : List ℕ) (steps : List Step) (place : ℕ) (place_in : place < length steps) (free : AreFree net old steps) (was : AreTakenTo net old now steps place) where
  -- the next arc carries what it carried
  pub next_same : slice_index now (step_at steps place).arc ≡ slice_index old (step_at steps place).arc
  next_same = was.stay (step_at steps place).arc (λ i b. free.apart i place b place_in)

  pub next_left : 0 < left_on (arc_at net (step_at steps place).arc) (slice_index now (step_at steps place).arc) (step_at steps place).forward
  next_left = rw next_same (free.left place place_in)

  -- one step more
  pub AreTakenTo-more : (next : ℕ) → next ≡ suc place
      → AreTakenTo net old (slice_set now (step_at steps place).arc (carried (slice_index now (step_at steps place).arc) (step_at steps place).forward 1)) steps next
  AreTakenTo-more next is =
      let a : ℕ = (step_at steps place).arc in
      let forward : Bool = (step_at steps place).forward in
      let x : ℕ = slice_index now a in
      let y : ℕ = carried x forward 1 in
      let a_in : a < length net.arcs = free.arcs place place_in in
      let in_flow : a < length now = omega (arith, a_in, was.long) in
      let here : slice_index (slice_set now a y) a ≡ y = get_or-set_same now a y 0 in_flow in
      let other : (k : ℕ) → k ≢ a → slice_index (slice_set now a y) k ≡ slice_index now k = λ k ne. rw get_or-set_other refl in
      record {
        long = omega (arith, length-set now a y, was.long);
        floors = λ k b. elim (cases_eq k a) [
          | inl e ↦ rw (e, here) (carried_above (arc_at net a) x forward (was.floors a a_in) next_left)
          | inr ne ↦ rw (other k ne) (was.floors k b)
        ];
        rooms = λ k b. elim (cases_eq k a) [
          | inl e ↦ rw (e, here) (carried_below (arc_at net a) x forward (was.rooms a a_in) next_left)
          | inr ne ↦ rw (other k ne) (was.rooms k b)
        ];
        moved = λ i b. elim (cases_lt i place) [
          | inl below ↦ other (step_at steps i).arc (free.apart i place below place_in) ∙ was.moved i below
          | inr past ↦
              let e : i ≡ place = omega (arith, past, b, is) in
              rw e (here ∙ ap (λ z. carried z forward 1) next_same)
        ];
        stay = λ k none. other k (λ e. none place (omega (arith, is)) (sym e)) ∙ was.stay k (λ i b. none i (omega (arith, b, is)));
        balance = λ v.
            let unit = unit_moved net now a forward was.long a_in (was.floors a a_in) next_left v in
            let starts : starts_to net steps next v ≡ starts_to net steps place v + when (start_of (arc_at net a) forward == v) 1 = ap (λ n. starts_to net steps n v) is in
            let ends : ends_to net steps next v ≡ ends_to net steps place v + when (end_of (arc_at net a) forward == v) 1 = ap (λ n. ends_to net steps n v) is in
            omega (arith, unit, starts, ends, was.balance v);
      }

-- once all are taken
pub IsCirculation-taken : (net : NetworkValue) (old now : List ℕ) (steps : List Step) → IsCirculation net old → AreRound net steps → AreTakenTo net old now steps (length steps) → IsCirculation net now
IsCirculation-taken net old now steps circulation round taken = record {
  long = taken.long;
  floors = taken.floors;
  rooms = taken.rooms;
  balanced = λ v b. omega (arith, taken.balance v, round v, circulation.balanced v b);
}

pub AreTaken-all : (net : NetworkValue) (old now : List ℕ) (steps : List Step) → AreFree net old steps → AreTakenTo net old now steps (length steps) → AreTaken net old now steps
AreTaken-all net old now steps free taken = record {
  arcs = free.arcs;
  apart = free.apart;
  moved = taken.moved;
  stay = taken.stay;
}
