-- Networks whose bounds have become narrower.
use Rattle.std.proofs.Common.{◌≡◌, ◌≢◌, ℕ, ◌*◌, ◌<◌, ◌≤◌, Bool, List, length, refl, sym, ap, ◌∙◌, subst, arith, inl, inr}
use Rattle.std.specs.Prelude.{slice_index, ◌==◌}
use Rattle.std.proofs.lemmas.Bool.{cases_eq}
use Rattle.std.proofs.Math.ListN.{length-set}
use Rattle.match_rules.specs.Rules.{RulesValue, AreRules}
use Rattle.match_rules.specs.Sums.{count_below, when}
use Rattle.bounded_network.specs.declared.network.Arc.{Arc}
use Rattle.bounded_network.specs.Compile.{Compiles, flow_of, network_of}
use Rattle.bounded_network.specs.Network.{NetworkValue, IsNetwork, IsCirculation, AreViolated, arc_at, with_bounds, entering, leaving}
use Rattle.bounded_network.specs.Scaled.{IsScaled}
use Rattle.bounded_network.specs.Spans.{Spans}
use Rattle.bounded_network.proofs.Compiled.{arc_count, each_arc, flow-passes}
use Rattle.bounded_network.proofs.Nodes.{balanced-of_passes, tail-below, group-paper-below}
use Rattle.bounded_network.proofs.Rebounds.{bounded-at, bounded-other, network-of_bounds}
use Rattle.bounded_network.proofs.ScaledLaws.{none-at_scale}
use Rattle.bounded_network.proofs.Sums.{count_below-equal}
use Rattle.unit_turns.specs.Fixed.{with_fixed}
use Rattle.unit_turns.specs.Over.{IsNarrower}
use Rattle.lottery_peel.specs.Standing.{PassesOn}

-- ---- narrower bounds

pub entering-narrower : (wide net : NetworkValue) (flow : List ℕ) (v : ℕ) → IsNarrower wide net → entering net flow v ≡ entering wide flow v
entering-narrower wide net flow v narrower =
    let f : ℕ → ℕ = λ a. when ((arc_at net a).head == v) (slice_index flow a) in
    let g : ℕ → ℕ = λ a. when ((arc_at wide a).head == v) (slice_index flow a) in
    count_below-equal (length net.arcs) f g (λ a b. ap (λ u. when (u == v) (slice_index flow a)) (narrower.heads a b))
    ∙ ap (λ n. count_below n g) narrower.long

pub leaving-narrower : (wide net : NetworkValue) (flow : List ℕ) (v : ℕ) → IsNarrower wide net → leaving net flow v ≡ leaving wide flow v
leaving-narrower wide net flow v narrower =
    let f : ℕ → ℕ = λ a. when ((arc_at net a).tail == v) (slice_index flow a) in
    let g : ℕ → ℕ = λ a. when ((arc_at wide a).tail == v) (slice_index flow a) in
    count_below-equal (length net.arcs) f g (λ a b. ap (λ u. when (u == v) (slice_index flow a)) (narrower.tails a b))
    ∙ ap (λ n. count_below n g) narrower.long

-- a circulation within the narrower bounds is one within the wider ones
pub circulation-wider : (wide net : NetworkValue) (flow : List ℕ) → IsNarrower wide net → IsCirculation net flow → IsCirculation wide flow
circulation-wider wide net flow narrower round = record {
  long = round.long ∙ narrower.long;
  floors = λ a b.
      let c : a < length net.arcs = omega (arith, b, narrower.long) in
      omega (arith, narrower.floors a c, round.floors a c);
  rooms = λ a b.
      let c : a < length net.arcs = omega (arith, b, narrower.long) in
      omega (arith, narrower.rooms a c, round.rooms a c);
  balanced = λ v b. sym (entering-narrower wide net flow v narrower) ∙ round.balanced v (omega (arith, b, narrower.nodes)) ∙ leaving-narrower wide net flow v narrower;
}

-- flows of amounts pass on through it
pub passes-narrower : (rules : RulesValue) (wide net : NetworkValue) → IsNarrower wide net → PassesOn rules wide → PassesOn rules net
passes-narrower rules wide net narrower passes = record {
  size = narrower.long ∙ passes.size;
  ends = λ a b same.
      passes.ends a (omega (arith, b, narrower.long)) (sym (narrower.tails a b) ∙ same ∙ narrower.heads a b);
  balanced = λ amounts v b.
      entering-narrower wide net (flow_of rules amounts) v narrower
      ∙ passes.balanced amounts v (omega (arith, b, narrower.nodes))
      ∙ sym (leaving-narrower wide net (flow_of rules amounts) v narrower);
  only = λ flow round. passes.only flow (circulation-wider wide net flow narrower round);
}

-- ---- an arc that is held at an amount

pub held-long : (net : NetworkValue) (a amount : ℕ) → length (with_bounds net a amount amount).arcs ≡ length net.arcs
held-long net a amount = length-set net.arcs a (record (arc_at net a) { floor = amount; room = amount })

-- what holds of the arc that is held and of the others holds of each
pub each-held : (net : NetworkValue) (a amount : ℕ) (Q : Arc → ℕ → Type 0) → a < length net.arcs → Q (record (arc_at net a) { floor = amount; room = amount }) a
    → ((k : ℕ) → k < length net.arcs → k ≢ a → Q (arc_at net k) k) → (k : ℕ) → k < length net.arcs → Q (arc_at (with_bounds net a amount amount) k) k
each-held net a amount Q lt here others k k_in = elim (cases_eq k a) [
  | inl same ↦
      subst (λ n. Q (arc_at (with_bounds net a amount amount) n) n) (sym same)
      (subst (λ (arc : Arc). Q arc a) (sym (bounded-at net a amount amount lt)) here)
  | inr other ↦ subst (λ (arc : Arc). Q arc k) (sym (bounded-other net a amount amount k other)) (others k k_in other)
]

pub narrower-held : (net : NetworkValue) (a amount : ℕ) → a < length net.arcs → (arc_at net a).floor ≤ amount → amount ≤ (arc_at net a).room → IsNarrower net (with_bounds net a amount amount)
narrower-held net a amount lt low high =
    let size = held-long net a amount in
    let at : (Q : Arc → ℕ → Type 0) → Q (record (arc_at net a) { floor = amount; room = amount }) a → ((k : ℕ) → k < length net.arcs → k ≢ a → Q (arc_at net k) k)
    → (k : ℕ) → k < length (with_bounds net a amount amount).arcs → Q (arc_at (with_bounds net a amount amount) k) k =
    λ Q here others k k_in. each-held net a amount Q lt here others k (omega (arith, k_in, size)) in
    record {
      nodes = refl;
      long = size;
      tails = at (λ (arc : Arc) k. arc.tail ≡ (arc_at net k).tail) refl (λ k k_in other. refl);
      heads = at (λ (arc : Arc) k. arc.head ≡ (arc_at net k).head) refl (λ k k_in other. refl);
      floors = at (λ (arc : Arc) k. (arc_at net k).floor ≤ arc.floor) low (λ k k_in other. omega arith);
      rooms = at (λ (arc : Arc) k. arc.room ≤ (arc_at net k).room) high (λ k k_in other. omega arith);
    }

-- a circulation that has the amount there is one of the network in which it is held
pub circulation-held : (net : NetworkValue) (a amount : ℕ) (flow : List ℕ) → a < length net.arcs → IsCirculation net flow → slice_index flow a ≡ amount → IsCirculation (with_bounds net a amount amount) flow
circulation-held net a amount flow lt round here =
    let size = held-long net a amount in
    let low : (arc_at net a).floor ≤ amount = omega (arith, round.floors a lt, here) in
    let high : amount ≤ (arc_at net a).room = omega (arith, round.rooms a lt, here) in
    let narrower = narrower-held net a amount lt low high in
    record {
      long = round.long ∙ sym size;
      floors = λ k k_in. each-held net a amount (λ (arc : Arc) n. arc.floor ≤ slice_index flow n) lt (omega (arith, here)) (λ n n_in other. round.floors n n_in) k (omega (arith, k_in, size));
      rooms = λ k k_in. each-held net a amount (λ (arc : Arc) n. slice_index flow n ≤ arc.room) lt (omega (arith, here)) (λ n n_in other. round.rooms n n_in) k (omega (arith, k_in, size));
      balanced = λ v b. entering-narrower net (with_bounds net a amount amount) flow v narrower ∙ round.balanced v b ∙ sym (leaving-narrower net (with_bounds net a amount amount) flow v narrower);
    }

-- where amounts lie between the bounds times the tickets that are left, and are a multiple at the arc, no marks are violated once
-- that is held
pub none-held : (net : NetworkValue) (a amount left : ℕ) (amounts : List ℕ) → IsNetwork net → a < length net.arcs → (arc_at net a).floor ≤ amount → amount ≤ (arc_at net a).room → 1 ≤ left
    → IsScaled net left amounts → slice_index amounts a ≡ left * amount → (marks : List Bool) → AreViolated (with_fixed net a amount) marks → ⊥
none-held net a amount left amounts good lt low high some scaled whole marks broken =
    let held : NetworkValue = with_bounds net a amount amount in
    let size = held-long net a amount in
    let narrower = narrower-held net a amount lt low high in
    let good_held : IsNetwork held = network-of_bounds net a amount amount good lt (omega arith) (let is_arc = good.each a lt in omega (arith, high, is_arc.room)) in
    none-at_scale held marks left good_held broken some amounts (record {
      floors = λ k k_in. each-held net a amount (λ (arc : Arc) n. left * arc.floor ≤ slice_index amounts n) lt (omega (arith, whole)) (λ n n_in other. scaled.floors n n_in) k (omega (arith, k_in, size));
      rooms = λ k k_in. each-held net a amount (λ (arc : Arc) n. slice_index amounts n ≤ left * arc.room) lt (omega (arith, whole)) (λ n n_in other. scaled.rooms n n_in) k (omega (arith, k_in, size));
      balanced = λ v b. entering-narrower net held amounts v narrower ∙ scaled.balanced v b ∙ sym (leaving-narrower net held amounts v narrower);
    })

-- ---- the network of the rules

-- flows of amounts pass on through it
pub passes-network : (rules : RulesValue) (spans : Spans) → AreRules rules → Compiles rules spans (network_of rules spans) → PassesOn rules (network_of rules spans)
passes-network rules spans are means = record {
  size = arc_count rules spans;
  ends = each_arc rules spans (λ (arc : Arc) a. arc.tail ≢ arc.head)
      (λ e lt same. absurd (omega (arith, same, tail-below rules e are lt)))
      (λ p lt same. absurd (omega (arith, same, lt)))
      (λ g lt same. absurd (omega (arith, same, group-paper-below rules g are lt)))
      (λ r lt same. absurd (omega (arith, same, lt)));
  balanced = λ amounts. balanced-of_passes rules spans (flow_of rules amounts) are (flow-passes rules amounts);
  only = means.only;
}
