use Rattle.std.proofs.Common.{rules, arith}
use Rattle.std.proofs.lemmas.Grind.{common_steps}
use Rattle.edge_io.proofs.Adding.{front_more, front_fails}
use Rattle.edge_io.proofs.writing.write_all.Goals as goal

pub returns-in_err-at-clause-taken : goal.returns-in_err-at-clause-taken
returns-in_err-at-clause-taken g c =
    front_fails _ _ _ _ _ _ _ c.from_residual.result c.loop-at.invariant.front c.in_err-at.ensures.taken c.from_residual.ensures.0

pub loop-at-preserved : goal.loop-at-preserved
loop-at-preserved g c = record {
  front = front_more _ _ _ _ _ _ c.loop-at.invariant.front c.in_ok-at.ensures.taken;
  within = grind (arith, common_steps);
  later = search rules;
}
