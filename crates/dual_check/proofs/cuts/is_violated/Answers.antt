use Rattle.std.proofs.Common.{arith}
use Rattle.std.proofs.lemmas.Bool.Decides.{nat_tests}
use Rattle.match_rules.specs.Evidence.{Violated}
use Rattle.dual_check.proofs.CutLaws.{none_fits_at_violated}
use Rattle.dual_check.proofs.cuts.is_violated.Goals as goal

pub returns-clause-none : goal.returns-clause-none
returns-clause-none c = λ yes.
    let violated : Violated c.args.rules.now c.args.sieve c.args.cut.now = rw (← c.excess-need.ensures.need, ← c.excess-need.ensures.room) (grind (arith, nat_tests)) in
    none_fits_at_violated c.args.rules.now c.args.sieve c.args.cut.now c.pairs-pairs.ensures.kept violated
