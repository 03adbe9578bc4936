-- Violated marks exclude balanced amounts at any scale; the amounts that are left balance in the rounded network.
use Rattle.std.proofs.Common.{◌≡◌, ℕ, zero, suc, ◌+◌, ◌-◌, ◌*◌, ◌/◌, ◌%◌, ◌<◌, ◌≤◌, min, Bool, true, false, not, ◌&&◌, List, length, refl, ◌∙◌, arith}
use Rattle.std.specs.Prelude.{ℤ, pos, ◌-ℤ◌, ◌*ℤ◌, slice_index}
use Rattle.std.proofs.lemmas.Int.{ints}
use Rattle.std.proofs.Math.Nat.{div-add-mod}
use Rattle.match_rules.specs.Rules.{RulesValue, AreRules}
use Rattle.match_rules.specs.Sums.{sum_below, count_below, when}
use Rattle.bounded_network.specs.declared.network.Arc.{Arc}
use Rattle.bounded_network.specs.Network.{NetworkValue, IsNetwork, AreViolated, entering, leaving, arc_at, is_marked, floors_into, rooms_out_of}
use Rattle.bounded_network.specs.Scaled.{IsScaled}
use Rattle.bounded_network.specs.Spans.{rounded, rounded_spans}
use Rattle.bounded_network.specs.Compile.{network_of, flow_of}
use Rattle.bounded_network.proofs.Sums.{sum_below-le, sum_below-zero, sum_below--ℤ, sum_below-pos}
use Rattle.bounded_network.proofs.Laws.{rises-are-excesses, mark_weight, bound_at_arc}
use Rattle.bounded_network.proofs.Compiled.{each_arc, flow-of_pair, flow-of_paper, flow-of_group, flow-of_reviewer, flow-passes}
use Rattle.bounded_network.proofs.Nodes.{balanced-of_passes}

count-scaled : (n scale : ℕ) (test : ℕ → Bool) (f : ℕ → ℕ) → count_below n (λ i. when (test i) (scale * f i)) ≡ scale * count_below n (λ i. when (test i) (f i))
count-scaled zero scale test f = omega arith
count-scaled (suc n) scale test f =
    let split : scale * (count_below n (λ i. when (test i) (f i)) + when (test n) (f n)) ≡ scale * count_below n (λ i. when (test i) (f i)) + scale * when (test n) (f n) = omega arith in
    let last : when (test n) (scale * f n) ≡ scale * when (test n) (f n) = by (test n) (f n) in
    omega (arith, count-scaled n scale test f)
  where
    by : (b : Bool) (x : ℕ) → when b (scale * x) ≡ scale * when b x
    by true x = refl
    by false x = omega arith

-- where marks are violated nothing balances at any scale
pub none-at_scale : (net : NetworkValue) (marks : List Bool) (scale : ℕ) → IsNetwork net → AreViolated net marks → 1 ≤ scale → (flow : List ℕ) → IsScaled net scale flow → ⊥
none-at_scale net marks scale good broken some flow round =
    let m : ℕ = length net.arcs in
    let p : ℕ → ℤ = λ v. mark_weight (is_marked marks v) in
    let into : ℕ → Bool = λ a. is_marked marks (arc_at net a).head && not (is_marked marks (arc_at net a).tail) in
    let out : ℕ → Bool = λ a. is_marked marks (arc_at net a).tail && not (is_marked marks (arc_at net a).head) in
    let bound : ℕ → ℤ = λ a. pos (when (into a) (scale * (arc_at net a).floor)) -ℤ pos (when (out a) (scale * (arc_at net a).room)) in
    let given : ℕ → ℤ = λ a. pos (slice_index flow a) *ℤ (p (arc_at net a).head -ℤ p (arc_at net a).tail) in
    let nothing : sum_below m given ≡ pos 0 = rises-are-excesses net flow p good
    ∙ sum_below-zero net.nodes (λ v. (pos (entering net flow v) *ℤ p v) -ℤ (pos (leaving net flow v) *ℤ p v))
    (λ v b. rw (round.balanced v b) (omega (arith, ints))) in
    let less = sum_below-le m bound given (λ a b. bound_at_arc (is_marked marks (arc_at net a).tail) (is_marked marks (arc_at net a).head) (slice_index flow a) (scale * (arc_at net a).floor) (scale * (arc_at net a).room) (round.floors a b) (round.rooms a b)) in
    let parts = sum_below--ℤ m (λ a. pos (when (into a) (scale * (arc_at net a).floor))) (λ a. pos (when (out a) (scale * (arc_at net a).room))) in
    let one = sum_below-pos m (λ a. when (into a) (scale * (arc_at net a).floor)) in
    let two = sum_below-pos m (λ a. when (out a) (scale * (arc_at net a).room)) in
    let three : count_below m (λ a. when (into a) (scale * (arc_at net a).floor)) ≡ scale * floors_into net marks = count-scaled m scale into (λ a. (arc_at net a).floor) in
    let four : count_below m (λ a. when (out a) (scale * (arc_at net a).room)) ≡ scale * rooms_out_of net marks = count-scaled m scale out (λ a. (arc_at net a).room) in
    let scaled : scale * floors_into net marks ≤ scale * rooms_out_of net marks = omega (arith, ints, nothing, less, parts, one, two, three, four) in
    absurd (apart scale (floors_into net marks) (rooms_out_of net marks) some broken scaled)
  where
    apart : (s f r : ℕ) → 1 ≤ s → r < f → s * f ≤ s * r → ⊥
    apart s f r some less h =
        let d : ℕ = f - (r + 1) in
        let e : f ≡ (r + 1) + d = omega arith in
        let m : s * ((r + 1) + d) ≡ s * r + s + s * d = omega arith in
        let h2 : s * ((r + 1) + d) ≤ s * r = rw e at h in
        absurd (omega arith)

-- an amount lies between its rounded bounds, each times the tickets that are left
pub rounded-low : (left amount : ℕ) → left * (rounded left amount).floor ≤ amount
rounded-low left amount = omega (arith, div-add-mod amount left)

pub rounded-high : (left amount : ℕ) → 1 ≤ left → amount ≤ left * (rounded left amount).room
rounded-high left amount some =
    let q : ℕ = amount / left in
    let r : ℕ = amount % left in
    let whole : left * q + r ≡ amount = div-add-mod amount left in
    let below : r < left = omega arith in
    let split : left * (q + min 1 r) ≡ left * q + left * min 1 r = omega arith in
    let more : r ≤ left * min 1 r = by r below in
    omega arith
  where
    by : (r : ℕ) → r < left → r ≤ left * min 1 r
    by zero below = omega arith
    by (suc r) below = let e : min 1 (suc r) ≡ 1 = omega arith in rw e (omega arith)

-- the shares that are left are balanced amounts in the rounded network, at the scale of the tickets that are left
pub rest-is_scaled : (rules : RulesValue) (shares : List ℕ) (left : ℕ) → AreRules rules → 1 ≤ left
    → IsScaled (network_of rules (rounded_spans rules shares left)) left (flow_of rules shares)
rest-is_scaled rules shares left are some =
    let flow : List ℕ = flow_of rules shares in
    record {
      floors = each_arc rules (rounded_spans rules shares left) (λ (arc : Arc) a. left * arc.floor ≤ slice_index flow a)
          (λ e lt. rw (flow-of_pair rules shares e lt) (rounded-low left _))
          (λ p lt. rw (flow-of_paper rules shares p lt) (rounded-low left _))
          (λ g lt. rw (flow-of_group rules shares g lt) (rounded-low left _))
          (λ r lt. rw (flow-of_reviewer rules shares r lt) (rounded-low left _));
      rooms = each_arc rules (rounded_spans rules shares left) (λ (arc : Arc) a. slice_index flow a ≤ left * arc.room)
          (λ e lt. rw (flow-of_pair rules shares e lt) (rounded-high left _ some))
          (λ p lt. rw (flow-of_paper rules shares p lt) (rounded-high left _ some))
          (λ g lt. rw (flow-of_group rules shares g lt) (rounded-high left _ some))
          (λ r lt. rw (flow-of_reviewer rules shares r lt) (rounded-high left _ some));
      balanced = balanced-of_passes rules (rounded_spans rules shares left) flow are (flow-passes rules shares);
    }

-- so no marks are violated there
pub always-next : (rules : RulesValue) (shares : List ℕ) (left : ℕ) → AreRules rules → IsNetwork (network_of rules (rounded_spans rules shares left)) → 1 ≤ left
    → (marks : List Bool) → AreViolated (network_of rules (rounded_spans rules shares left)) marks → ⊥
always-next rules shares left are good some marks broken =
    none-at_scale (network_of rules (rounded_spans rules shares left)) marks left good broken some (flow_of rules shares) (rest-is_scaled rules shares left are some)
