-- What comes of all excesses.
use Rattle.std.specs.Prelude.{ℕ, ◌≡◌, ◌<◌, List, Bool, length, pos, ◌≤ℤ◌}
use Rattle.bounded_network.specs.Network.{NetworkValue, AreViolated}
use Rattle.flow_solver.specs.declared.balance.Balance.{Balance}
use Rattle.flow_solver.specs.declared.balance.Balance.TheVariants.{Balanced, Cut, GivenUp}
use Rattle.flow_solver.specs.declared.state.State.{State}
use Rattle.flow_solver.specs.State.{excess_at}

-- a state of the network in which no node has an excess
pub record IsBalanced (net : NetworkValue) (state : State) : Type 0 where
  pub network : state.network.now ≡ net
  pub even : (v : ℕ) → v < net.nodes → excess_at state.excess.items v ≤ℤ pos 0

-- violated marks, one a node
pub record AreExcluding (net : NetworkValue) (marks : List Bool) : Type 0 where
  pub violated : AreViolated net marks
  pub long : length marks ≡ net.nodes

-- the state is balanced, or the cut excludes every circulation
abbrev pub Balances : NetworkValue → Balance → Type 0
Balances net (Balanced state) = IsBalanced net state
Balances net (Cut marks) = AreExcluding net marks.items
Balances net GivenUp = Unit {0}
