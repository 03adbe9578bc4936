-- Optimal potentials make a circulation cheapest, and violated marks exclude every circulation.
use Rattle.std.proofs.Common.{◌≡◌, ℕ, ◌<◌, ◌≤◌, Bool, true, false, not, ◌&&◌, List, length, ap, ◌∙◌, arith, inl, inr}
use Rattle.std.specs.Prelude.{ℤ, pos, ◌+ℤ◌, ◌-ℤ◌, ◌*ℤ◌, ◌≤ℤ◌, slice_index, if◌then◌else◌}
use Rattle.std.proofs.lemmas.Int.{ints}
use Rattle.std.proofs.lemmas.Bool.{cases_lt}
use Rattle.std.proofs.Math.IntN.{*ℤ-zero}
use Rattle.match_rules.specs.Sums.{sum_below, when}
use Rattle.bounded_network.specs.Network.{NetworkValue, IsNetwork, IsCirculation, AreOptimal, IsCheapest, AreViolated, entering, leaving, arc_at, flow_cost, reduced_cost, potential_at, is_marked, floors_into, rooms_out_of}
use Rattle.bounded_network.proofs.Scaled.{scale-+ℤ, scale--ℤ, scale_more, scale_less}
use Rattle.bounded_network.proofs.Sums.{sum_below-equal, sum_below-le, sum_below-zero, sum_below-+ℤ, sum_below--ℤ, sum_below-pos, sum_at_ends}

-- the excess of a node, what enters it less what leaves it
abbrev pub excess_of : NetworkValue → List ℕ → ℕ → ℤ
excess_of net flow v = pos (entering net flow v) -ℤ pos (leaving net flow v)

-- the amounts, each times what the number rises from the arc's tail to its head, are the excesses, each times the node's number
pub rises-are-excesses : (net : NetworkValue) (flow : List ℕ) (p : ℕ → ℤ) → IsNetwork net →
    sum_below (length net.arcs) (λ a. pos (slice_index flow a) *ℤ (p (arc_at net a).head -ℤ p (arc_at net a).tail))
    ≡ sum_below net.nodes (λ v. (pos (entering net flow v) *ℤ p v) -ℤ (pos (leaving net flow v) *ℤ p v))
rises-are-excesses net flow p good =
    let m : ℕ = length net.arcs in
    let x : ℕ → ℕ = λ a. slice_index flow a in
    let heads = sum_at_ends m x (λ a. (arc_at net a).head) net.nodes p (λ a b. (good.each a b).head) in
    let tails = sum_at_ends m x (λ a. (arc_at net a).tail) net.nodes p (λ a b. (good.each a b).tail) in
    let split : sum_below m (λ a. pos (x a) *ℤ (p (arc_at net a).head -ℤ p (arc_at net a).tail)) ≡ sum_below m (λ a. (pos (x a) *ℤ p (arc_at net a).head) -ℤ (pos (x a) *ℤ p (arc_at net a).tail)) =
    sum_below-equal m (λ a. pos (x a) *ℤ (p (arc_at net a).head -ℤ p (arc_at net a).tail)) (λ a. (pos (x a) *ℤ p (arc_at net a).head) -ℤ (pos (x a) *ℤ p (arc_at net a).tail)) (λ a b. scale--ℤ (x a) (p (arc_at net a).head) (p (arc_at net a).tail)) in
    let parts = sum_below--ℤ m (λ a. pos (x a) *ℤ p (arc_at net a).head) (λ a. pos (x a) *ℤ p (arc_at net a).tail) in
    let nodes = sum_below--ℤ net.nodes (λ v. pos (entering net flow v) *ℤ p v) (λ v. pos (leaving net flow v) *ℤ p v) in
    omega (arith, ints, heads, tails, split, parts, nodes)

-- of a circulation they are nothing
pub rises-of_circulation : (net : NetworkValue) (flow : List ℕ) (p : ℕ → ℤ) → IsNetwork net → IsCirculation net flow →
    sum_below (length net.arcs) (λ a. pos (slice_index flow a) *ℤ (p (arc_at net a).head -ℤ p (arc_at net a).tail)) ≡ pos 0
rises-of_circulation net flow p good round =
    rises-are-excesses net flow p good
    ∙ sum_below-zero net.nodes (λ v. (pos (entering net flow v) *ℤ p v) -ℤ (pos (leaving net flow v) *ℤ p v))
    (λ v b. rw (round.balanced v b) (omega (arith, ints)))

-- the cost of a circulation is its sum at the reduced costs
pub flow_cost-reduced : (net : NetworkValue) (flow : List ℕ) (potentials : List ℤ) → IsNetwork net → IsCirculation net flow →
    flow_cost net flow ≡ sum_below (length net.arcs) (λ a. pos (slice_index flow a) *ℤ reduced_cost net potentials a)
flow_cost-reduced net flow potentials good round =
    let m : ℕ = length net.arcs in
    let x : ℕ → ℕ = λ a. slice_index flow a in
    let p : ℕ → ℤ = potential_at potentials in
    let rise : ℕ → ℤ = λ a. p (arc_at net a).head -ℤ p (arc_at net a).tail in
    let nothing = rises-of_circulation net flow p good round in
    let split : flow_cost net flow ≡ sum_below m (λ a. (pos (x a) *ℤ reduced_cost net potentials a) +ℤ (pos (x a) *ℤ rise a)) =
    sum_below-equal m (λ a. pos (x a) *ℤ (arc_at net a).cost) (λ a. (pos (x a) *ℤ reduced_cost net potentials a) +ℤ (pos (x a) *ℤ rise a))
    (λ a b.
    let whole : (arc_at net a).cost ≡ reduced_cost net potentials a +ℤ rise a = omega (arith, ints) in
    ap (λ c. pos (x a) *ℤ c) whole ∙ scale-+ℤ (x a) (reduced_cost net potentials a) (rise a)) in
    let parts = sum_below-+ℤ m (λ a. pos (x a) *ℤ reduced_cost net potentials a) (λ a. pos (x a) *ℤ rise a) in
    omega (arith, ints, nothing, split, parts)

-- at one arc: an amount that is least where the reduced cost is positive, and greatest where it is negative
optimal_at_arc : (x y floor room : ℕ) (r : ℤ) → floor ≤ y → y ≤ room → x ≤ room → floor ≤ x → (x < room → pos 0 ≤ℤ r) → (floor < x → r ≤ℤ pos 0) → (pos x *ℤ r) ≤ℤ (pos y *ℤ r)
optimal_at_arc x y floor room r fy yr xr fx up down = elim (cases_lt x y) [
  | inl less ↦ scale_more x y r (omega arith) (up (omega arith))
  | inr more ↦ elim (cases_lt y x) [
    | inl above ↦ scale_less y x r (omega arith) (down (omega arith))
    | inr same ↦ let e : x ≡ y = omega arith in rw e (omega (arith, ints))
  ]
]

-- no circulation costs less than one with optimal potentials
pub cheapest-at_optimal : (net : NetworkValue) (flow : List ℕ) (potentials : List ℤ) → IsNetwork net → IsCirculation net flow → AreOptimal net flow potentials → IsCheapest net flow
cheapest-at_optimal net flow potentials good round best other circles =
    let m : ℕ = length net.arcs in
    let r : ℕ → ℤ = reduced_cost net potentials in
    let here = flow_cost-reduced net flow potentials good round in
    let there = flow_cost-reduced net other potentials good circles in
    let less = sum_below-le m (λ a. pos (slice_index flow a) *ℤ r a) (λ a. pos (slice_index other a) *ℤ r a)
    (λ a b. optimal_at_arc (slice_index flow a) (slice_index other a) (arc_at net a).floor (arc_at net a).room (r a) (circles.floors a b) (circles.rooms a b) (round.rooms a b) (round.floors a b) (best.may_rise a b) (best.may_fall a b)) in
    omega (arith, ints, here, there, less)

-- 1 at the marked nodes
abbrev pub mark_weight : Bool → ℤ
mark_weight marked = if marked then pos 1 else pos 0

-- what an arc gives to marks: the floor where it enters them, less the room where it leaves them
abbrev pub mark_bound : Bool → Bool → ℕ → ℕ → ℤ
mark_bound tail head floor room = pos (when (head && not tail) floor) -ℤ pos (when (tail && not head) room)

-- an amount within its bounds gives to the marks at least what its arc does
pub bound_at_arc : (tail head : Bool) (x floor room : ℕ) → floor ≤ x → x ≤ room → mark_bound tail head floor room ≤ℤ (pos x *ℤ (mark_weight head -ℤ mark_weight tail))
bound_at_arc true true x floor room fx xr = omega (arith, ints, *ℤ-zero (pos x))
bound_at_arc true false x floor room fx xr = omega (arith, ints, scale--ℤ x (pos 0) (pos 1), *ℤ-zero (pos x))
bound_at_arc false true x floor room fx xr = omega (arith, ints)
bound_at_arc false false x floor room fx xr = omega (arith, ints, *ℤ-zero (pos x))

-- the bounds of the arcs at marks, together
pub mark_bounds-sum : (net : NetworkValue) (marks : List Bool) →
    sum_below (length net.arcs) (λ a. mark_bound (is_marked marks (arc_at net a).tail) (is_marked marks (arc_at net a).head) (arc_at net a).floor (arc_at net a).room)
    ≡ pos (floors_into net marks) -ℤ pos (rooms_out_of net marks)
mark_bounds-sum net marks =
    let m : ℕ = length net.arcs in
    let into : ℕ → ℕ = λ a. when (is_marked marks (arc_at net a).head && not (is_marked marks (arc_at net a).tail)) (arc_at net a).floor in
    let out : ℕ → ℕ = λ a. when (is_marked marks (arc_at net a).tail && not (is_marked marks (arc_at net a).head)) (arc_at net a).room in
    omega (arith, ints, sum_below--ℤ m (λ a. pos (into a)) (λ a. pos (out a)), sum_below-pos m into, sum_below-pos m out)

-- where marks are violated there is no circulation
pub none-at_violated : (net : NetworkValue) (marks : List Bool) → IsNetwork net → AreViolated net marks → (flow : List ℕ) → IsCirculation net flow → ⊥
none-at_violated net marks good broken flow round =
    let m : ℕ = length net.arcs in
    let p : ℕ → ℤ = λ v. mark_weight (is_marked marks v) in
    let bound : ℕ → ℤ = λ a. mark_bound (is_marked marks (arc_at net a).tail) (is_marked marks (arc_at net a).head) (arc_at net a).floor (arc_at net a).room in
    let given : ℕ → ℤ = λ a. pos (slice_index flow a) *ℤ (p (arc_at net a).head -ℤ p (arc_at net a).tail) in
    let nothing = rises-of_circulation net flow p good round in
    let less = sum_below-le m bound given (λ a b. bound_at_arc (is_marked marks (arc_at net a).tail) (is_marked marks (arc_at net a).head) (slice_index flow a) (arc_at net a).floor (arc_at net a).room (round.floors a b) (round.rooms a b)) in
    absurd (omega (arith, ints, nothing, less, mark_bounds-sum net marks))
