-- The floors that enter marked nodes less the rooms that leave them.
use Rattle.std.proofs.Common.{◌≡◌, ℕ, ◌+◌, ◌*◌, ◌^◌, ◌≤◌, Bool, List, length, arith, add-one}
use Rattle.std.specs.Prelude.{ℤ, pos, ◌+ℤ◌, ◌-ℤ◌, ◌&&◌, not}
use Rattle.std.proofs.lemmas.Int.{ints}
use Rattle.match_rules.specs.Sums.{count_below, when}
use Rattle.bounded_network.proofs.Sums.{count_below-at_most}
use Rattle.bounded_network.specs.Network.{NetworkValue, IsNetwork, arc_at, is_marked}
use Rattle.bounded_network.specs.declared.network.TheConstants.{MAX_ROOM, MAX_ARCS}
use Rattle.flow_solver.specs.State.{IsWithin}
use Rattle.residual_arcs.proofs.Amounts.{when_at_most}

-- the floor of an arc, if it enters the marked nodes
abbrev pub floor_into : NetworkValue → List Bool → ℕ → ℕ
floor_into net marks a = when (is_marked marks (arc_at net a).head && not (is_marked marks (arc_at net a).tail)) (arc_at net a).floor

-- the room of an arc, if it leaves them
abbrev pub room_out : NetworkValue → List Bool → ℕ → ℕ
room_out net marks a = when (is_marked marks (arc_at net a).tail && not (is_marked marks (arc_at net a).head)) (arc_at net a).room

-- the balance over the arcs below a place
abbrev pub IsBalanceTo : NetworkValue → List Bool → ℕ → ℤ → Type 0
IsBalanceTo net marks i balance =
    balance ≡ pos (count_below i (λ a. when (is_marked marks (arc_at net a).head && not (is_marked marks (arc_at net a).tail)) (arc_at net a).floor))
    -ℤ pos (count_below i (λ a. when (is_marked marks (arc_at net a).tail && not (is_marked marks (arc_at net a).head)) (arc_at net a).room))

-- it is small
pub IsBalanceTo-within : (net : NetworkValue) (marks : List Bool) (i : ℕ) (balance : ℤ) → IsNetwork net → i ≤ length net.arcs → IsBalanceTo net marks i balance → IsWithin (2 ^ 100) balance
IsBalanceTo-within net marks i balance good i_in sums =
    let into : count_below i (floor_into net marks) ≤ i * MAX_ROOM = count_below-at_most i (floor_into net marks) MAX_ROOM (λ a b. let arc = good.each a (omega arith) in omega (arith, arc.floor, arc.room, when_at_most (is_marked marks (arc_at net a).head && not (is_marked marks (arc_at net a).tail)) (arc_at net a).floor)) in
    let out : count_below i (room_out net marks) ≤ i * MAX_ROOM = count_below-at_most i (room_out net marks) MAX_ROOM (λ a b. let arc = good.each a (omega arith) in omega (arith, arc.room, when_at_most (is_marked marks (arc_at net a).tail && not (is_marked marks (arc_at net a).head)) (arc_at net a).room)) in
    let few : i ≤ MAX_ARCS = omega (arith, good.few_arcs) in
    record { low = omega (arith, ints, into, out, few, sums); high = omega (arith, ints, into, out, few, sums) }

-- one arc more
pub IsBalanceTo-more : (net : NetworkValue) (marks : List Bool) (i : ℕ) (balance more : ℤ) → IsBalanceTo net marks i balance
    → more ≡ (balance +ℤ pos (when (is_marked marks (arc_at net i).head && not (is_marked marks (arc_at net i).tail)) (arc_at net i).floor)) -ℤ pos (when (is_marked marks (arc_at net i).tail && not (is_marked marks (arc_at net i).head)) (arc_at net i).room)
    → IsBalanceTo net marks (i + 1) more
IsBalanceTo-more net marks i balance more sums step = rw add-one (omega (arith, ints, sums, step))
