use Rattle.std.proofs.Common.{◌<◌, subst}
use Rattle.bounded_network.specs.Network.{NetworkValue, IsCirculation, IsNetwork}
use Rattle.bounded_network.proofs.Laws.{cheapest-at_optimal, none-at_violated}
use Rattle.flow_solver.specs.Balance.{IsBalanced}
use Rattle.flow_solver.specs.State.{IsState}
use Rattle.flow_solver.proofs.Endings.{IsCirculation-from_poor}
use Rattle.flow_solver.proofs.solver.solve.Goals as goal
use Rattle.flow_solver.proofs.solver.solve.Goals.{In-Ok}

even : (c : In-Ok) → IsBalanced c.args.net.now c.in-Ok.state
even c = rw c.in-Ok.is at c.in_ok-state.ensures.balanced

good : (c : In-Ok) → IsNetwork c.args.net.now
good c = subst IsNetwork (even c).network c.in-Ok.state.good

kept : (c : In-Ok) → IsState c.args.net.now c.in-Ok.state.flow.items c.in-Ok.state.excess.items c.in-Ok.state.potentials.items
kept c = subst (λ (n : NetworkValue). IsState n c.in-Ok.state.flow.items c.in-Ok.state.excess.items c.in-Ok.state.potentials.items) (even c).network c.in-Ok.state.kept

circulates : (c : In-Ok) → IsCirculation c.args.net.now c.in-Ok.state.flow.items
circulates c =
    subst (λ (n : NetworkValue). IsCirculation n c.in-Ok.state.flow.items) (even c).network
    (IsCirculation-from_poor c.in-Ok.state (λ v b. (even c).even v (subst (λ (n : NetworkValue). v < n.nodes) (even c).network b)))

pub returns-in-Ok-clause-circulates : goal.returns-in-Ok-clause-circulates
returns-in-Ok-clause-circulates c = circulates (goal.at.returns-in-Ok-clause-circulates c).In-Ok

pub returns-in-Ok-clause-optimal : goal.returns-in-Ok-clause-optimal
returns-in-Ok-clause-optimal c = (kept (goal.at.returns-in-Ok-clause-optimal c).In-Ok).optimal

pub returns-in-Ok-clause-bounded : goal.returns-in-Ok-clause-bounded
returns-in-Ok-clause-bounded c = (kept (goal.at.returns-in-Ok-clause-bounded c).In-Ok).bounded

pub returns-in-Ok-clause-potentials : goal.returns-in-Ok-clause-potentials
returns-in-Ok-clause-potentials c = (kept (goal.at.returns-in-Ok-clause-potentials c).In-Ok).potentials_long

pub returns-in-Ok-clause-cheapest : goal.returns-in-Ok-clause-cheapest
returns-in-Ok-clause-cheapest c =
    let before : In-Ok = (goal.at.returns-in-Ok-clause-cheapest c).In-Ok in
    cheapest-at_optimal c.args.net.now c.in-Ok.state.flow.items c.in-Ok.state.potentials.items (good before) (circulates before) (kept before).optimal

pub returns-in-Ok-clause-uncut : goal.returns-in-Ok-clause-uncut
returns-in-Ok-clause-uncut c = λ marks broken.
    let before : In-Ok = (goal.at.returns-in-Ok-clause-uncut c).In-Ok in
    none-at_violated c.args.net.now marks (good before) broken c.in-Ok.state.flow.items (circulates before)

pub returns-clause-none : goal.returns-clause-none
returns-clause-none c =
    none-at_violated c.args.net.now c.in-Err.marks.items c.nodes-nodes.ensures.kept (rw c.in-Err.is at c.in_ok-state.ensures.excluding).violated
