use Rattle.std.proofs.Common.{length, ap, arith}
use Rattle.bounded_network.proofs.Compiled.{flow-length}
use Rattle.lottery_peel.proofs.standing.first_dues.Goals as goal

pub bounds-counts-a : goal.bounds-counts-a
bounds-counts-a c =
    let size = flow-length c.args.rules.now c.args.shares.now in
    let is = ap length c.in_ok-amounts.ensures in
    omega (arith, size, is, c.requires.counted)
