use Rattle.std.proofs.Common.{ℕ, Bool, cond, ap, arith}
use Rattle.std.proofs.lemmas.List.Sums.{sum_by_more_le}
use Rattle.match_rules.specs.Groups.{is_in_group}
use Rattle.match_rules.proofs.group_check.uncount_groups.Goals as goal

pub uncount_group-requires-clause-some : goal.uncount_group-requires-clause-some
uncount_group-requires-clause-some c g h there =
    let part = sum_by_more_le (λ e. cond (is_in_group c.args.rules.now g e) 1 0) c.args.places.now c.loop-e.e-index 0 c.loop-e-test.true in
    let one = ap {B = ℕ} (λ (b : Bool). cond b 1 0) there in
    omega (arith, part, one, c.loop-e.invariant.each g h)
