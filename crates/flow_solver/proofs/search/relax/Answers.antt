use Rattle.std.proofs.Common.{arith}
use Rattle.std.proofs.lemmas.Int.{ints}
use Rattle.flow_solver.proofs.Searches.{step_not_negative}
use Rattle.flow_solver.proofs.search.relax.Goals as goal

pub returns-then-reduced-lt0-clause-relaxed : goal.returns-then-reduced-lt0-clause-relaxed
returns-then-reduced-lt0-clause-relaxed c = λ starts room.
    let h = step_not_negative c.args.state.now c.args.link.step.arc c.args.link.step.forward c.requires.link.arc room in
    absurd (omega (arith, ints, h, c.reduced_over-reduced.ensures, c.if-reduced-lt0.true))
