-- A closed set of nodes gives violated marks, and no excess a circulation.
use Rattle.std.proofs.Common.{◌≡◌, ℕ, ◌<◌, ◌≤◌, Bool, true, List, length, sym, ◌∙◌, arith}
use Rattle.std.specs.Prelude.{ℤ, pos, negsuc, ◌-ℤ◌, ◌*ℤ◌, ◌≤ℤ◌, ◌<ℤ◌, slice_index}
use Rattle.std.proofs.lemmas.Int.{ints}
use Rattle.std.proofs.Math.IntN.{*ℤ-zero}
use Rattle.match_rules.specs.Sums.{sum_below}
use Rattle.bounded_network.specs.Network.{NetworkValue, IsNetwork, IsCirculation, AreViolated, entering, leaving}
use Rattle.bounded_network.proofs.Sums.{sum_below-equal, sum_below-zero, term_le_sum}
use Rattle.bounded_network.proofs.Laws.{rises-are-excesses}
use Rattle.residual_arcs.proofs.Closing.{AreViolated-from_closed}
use Rattle.flow_solver.specs.declared.state.State.{State}
use Rattle.flow_solver.specs.State.{excess_at}
use Rattle.flow_solver.specs.Search.{is_settled, IsClosed}

-- what is not negative, at an integer read as a natural
abbrev pub worth : ℤ → ℕ
worth (pos n) = n
worth (negsuc n) = 0

pub worth-decreases : (old new : ℤ) → new <ℤ old → pos 0 ≤ℤ new → worth new < worth old
worth-decreases (pos m) (pos n) less rich = omega (arith, ints)
worth-decreases (pos m) (negsuc n) less rich = absurd (omega (arith, ints))
worth-decreases (negsuc m) (pos n) less rich = absurd (omega (arith, ints))
worth-decreases (negsuc m) (negsuc n) less rich = absurd (omega (arith, ints))

-- settled nodes that are closed, with some excess among them, are violated marks
pub AreViolated-from_settled : (state : State) (source : ℕ) (settled : List Bool) → IsClosed state source settled → source < state.network.now.nodes → pos 0 <ℤ excess_at state.excess.items source → AreViolated state.network.now settled
AreViolated-from_settled state source settled closed source_in rich =
    let calm : (v : ℕ) → v < state.network.now.nodes → is_settled settled v ≡ true → leaving state.network.now state.flow.items v ≤ entering state.network.now state.flow.items v = λ v b s.
    let e = state.kept.exact v b in
    let h = closed.calm v s in
    omega (arith, ints, e, h) in
    let e = state.kept.exact source source_in in
    AreViolated-from_closed state.network.now state.flow.items settled state.good state.kept.floors state.kept.rooms closed.closed calm source source_in closed.source_settled (omega (arith, ints, e, rich))

-- the excesses together are nothing
excesses-sum : (net : NetworkValue) (flow : List ℕ) → IsNetwork net → sum_below net.nodes (λ v. pos (leaving net flow v) -ℤ pos (entering net flow v)) ≡ pos 0
excesses-sum net flow good =
    let given : ℕ → ℤ = λ a. pos (slice_index flow a) *ℤ (pos 0 -ℤ pos 0) in
    let minus : ℤ = negsuc 0 in
    let sum = rises-are-excesses net flow (λ v. minus) good in
    let none = sum_below-zero (length net.arcs) (λ a. pos (slice_index flow a) *ℤ (minus -ℤ minus)) (λ a b. *ℤ-zero (pos (slice_index flow a))) in
    let same = sum_below-equal net.nodes (λ v. pos (leaving net flow v) -ℤ pos (entering net flow v)) (λ v. (pos (entering net flow v) *ℤ minus) -ℤ (pos (leaving net flow v) *ℤ minus))
    (λ v b. omega (arith, ints)) in
    same ∙ sym sum ∙ none

-- with no excess anywhere the flow is a circulation
pub IsCirculation-from_poor : (state : State) → ((v : ℕ) → v < state.network.now.nodes → excess_at state.excess.items v ≤ℤ pos 0) → IsCirculation state.network.now state.flow.items
IsCirculation-from_poor state poor =
    let flow : List ℕ = state.flow.items in
    record {
      long = state.kept.flow_long;
      floors = state.kept.floors;
      rooms = state.kept.rooms;
      balanced = λ v b.
          let lack : ℕ → ℤ = λ u. pos (leaving state.network.now flow u) -ℤ pos (entering state.network.now flow u) in
          let some : (u : ℕ) → u < state.network.now.nodes → pos 0 ≤ℤ lack u = λ u u_in. let e = state.kept.exact u u_in in let h = poor u u_in in omega (arith, ints, e, h) in
          let here = term_le_sum state.network.now.nodes lack v some b in
          let e = state.kept.exact v b in
          let h = poor v b in
          omega (arith, ints, here, e, h, excesses-sum state.network.now flow state.good);
    }
