use Rattle.std.proofs.Common.{◌≡◌, ◌∙◌}
use Rattle.std.proofs.lemmas.Bool.{OnFalse_at, OnTrue_at}
use Rattle.flow_solver.proofs.Endings.{AreViolated-from_settled}
use Rattle.flow_solver.proofs.Runs.{IsClearable-from_search}
use Rattle.flow_solver.proofs.drain.carry_once.Goals as goal

pub returns-then-not-found-clause-violated : goal.returns-then-not-found-clause-violated
returns-then-not-found-clause-violated c =
    let source : c.run.new.search.source ≡ c.args.source = c.in_ok-found.ensures.source ∙ c.in_ok-set_out.ensures.source in
    let closed = OnFalse_at c.if-not-found.true c.in_ok-found.ensures.closed in
    AreViolated-from_settled c.args.state.now c.args.source c.run.new.search.settled.items (rw source at closed) c.requires.source_in c.requires.rich

pub clear-requires : goal.clear-requires
clear-requires c =
    let found = OnTrue_at c.if-not-found.false c.in_ok-found.ensures.found in
    IsClearable-from_search c.args.state.now c.run.new.search found.search_kept

pub arcs_at-scanned-requires-clause-nodes : goal.arcs_at-scanned-requires-clause-nodes
arcs_at-scanned-requires-clause-nodes c =
    let found = OnTrue_at c.if-not-found.false c.in_ok-found.ensures.found in
    rw c.deref.ensures.value found.search_kept.is_tree.nodes
