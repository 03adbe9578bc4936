-- A push keeps the state calm.
use Rattle.std.proofs.Common.{◌≡◌, ℕ, ◌⊎◌, List, arith, inl, inr}
use Rattle.std.specs.Prelude.{ℤ, pos, ◌≤ℤ◌, ◌==◌}
use Rattle.std.proofs.lemmas.Int.{ints}
use Rattle.std.proofs.lemmas.Bool.{cases_eq}
use Rattle.match_rules.specs.Sums.{when}
use Rattle.bounded_network.proofs.Sums.{when-same, when-other}
use Rattle.bounded_network.specs.Network.{NetworkValue}
use Rattle.flow_solver.specs.State.{AreCalm, IsShifted, excess_at}

-- no deficit arises where no more goes than the start has too much
pub calm_pushed : (net : NetworkValue) (old new potentials : List ℤ) (from to amount : ℕ) → AreCalm net old potentials → IsShifted old new from to amount
    → (amount ≡ 0) ⊎ (pos amount ≤ℤ excess_at old from) → AreCalm net new potentials
calm_pushed net old new potentials from to amount calm shifted enough v b lack =
    let at = shifted v in
    elim (cases_eq from v) [
      | inl e ↦
          let w : when (from == v) amount ≡ amount = rw e (when-same v amount) in
          elim enough [
            | inl none ↦ calm v b (omega (arith, ints, at, w, none, lack))
            | inr some ↦
                let here : pos amount ≤ℤ excess_at old v = rw e at some in
                absurd (omega (arith, ints, at, w, here, lack))
          ]
      | inr ne ↦
          let w : when (from == v) amount ≡ 0 = when-other from v amount ne in
          calm v b (omega (arith, ints, at, w, lack))
    ]
