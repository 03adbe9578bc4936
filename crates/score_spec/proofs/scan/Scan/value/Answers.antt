-- At most 36 digits are there.
use Rattle.std.proofs.Common.{arith}
use Rattle.score_spec.proofs.Powers.{ten-pow-le}
use Rattle.score_spec.proofs.scan.Scan.value.Goals as goal

pub magnitude-requires : goal.magnitude-requires
magnitude-requires c = omega (arith, c.requires.digits, ten-pow-le c.args.self.now.count 36 (omega (arith, c.requires.count)))
