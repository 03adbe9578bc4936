-- Potentials of the solver are within the costs of the rules.
use Rattle.std.proofs.Common.{◌≡◌, List, length, arith, inl, inr}
use Rattle.std.specs.Prelude.{ℤ, pos}
use Rattle.std.proofs.lemmas.Int.{ints}
use Rattle.std.proofs.lemmas.Bool.{cases_lt}
use Rattle.std.proofs.lemmas.List.{get_or_past}
use Rattle.match_rules.specs.Rules.{RulesValue}
use Rattle.bounded_network.specs.Back.{AreWithinCosts}
use Rattle.bounded_network.specs.Compile.{node_count}
use Rattle.bounded_network.specs.Network.{NetworkValue, potential_at}
use Rattle.flow_solver.specs.State.{AreBounded}

pub within-costs : (rules : RulesValue) (net : NetworkValue) (potentials : List ℤ) → net.nodes ≡ node_count rules → length potentials ≡ net.nodes → AreBounded net potentials → AreWithinCosts rules potentials
within-costs rules net potentials nodes long bounded v = elim (cases_lt v net.nodes) [
  | inl lt ↦ let h = bounded v lt in (omega (arith, ints, h.low, nodes), omega (arith, ints, h.high, nodes))
  | inr past ↦
      let e : potential_at potentials v ≡ pos 0 = get_or_past potentials v (pos 0) (omega (arith, long, past)) in
      (omega (arith, ints, e), omega (arith, ints, e))
]
