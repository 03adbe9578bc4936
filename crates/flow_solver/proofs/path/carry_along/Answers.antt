use Rattle.std.proofs.Common.{◌<◌, ◌∙◌, arith}
use Rattle.std.proofs.lemmas.List.{get_or-set_other}
use Rattle.flow_solver.specs.Search.{reach_at}
use Rattle.flow_solver.proofs.Paths.{IsShifted-back}
use Rattle.flow_solver.proofs.path.carry_along.Goals as goal

pub loop-place-preserved : goal.loop-place-preserved
loop-place-preserved c =
    let was = c.loop-place.invariant in
    let path = c.requires.path in
    let i = c.loop-place.place in
    let above : 0 < i = omega arith in
    let tree = c.args.tree.now in
    let reach = reach_at tree i in
    let shifted = rw (was.network, path.starts i above was.inside, path.ends i above was.inside) at c.carry.ensures.shifted in
    record {
      network = c.carry.ensures.network ∙ was.network;
      potentials = c.carry.ensures.potentials ∙ was.potentials;
      inside = omega (arith, path.froms i above was.inside, was.inside);
      wide = omega (arith, was.wide, path.narrow i above was.inside);
      flows = λ j j_above j_in.
          let less : j < i = omega (arith, path.froms i above was.inside) in
          rw c.carry.ensures.flow (get_or-set_other c.loop-place.state.flow.items reach.step.arc (reach_at tree j).step.arc _ 0 (path.apart j i j_above less was.inside) ∙ was.flows j j_above (omega arith));
      moved = IsShifted-back c.args.state.now.excess.items c.loop-place.state.excess.items c.carry.new.state.excess.items _ _ _ c.args.amount was.moved shifted;
    }
