-- A state whose deficits are near potential 0.
use Rattle.flow_solver.specs.declared.state.State.{State}
use Rattle.flow_solver.specs.State.{AreCalm}

-- the nodes with a deficit have small potentials
abbrev pub IsCalm : State → Type 0
IsCalm state = AreCalm state.network.now state.excess.items state.potentials.items
