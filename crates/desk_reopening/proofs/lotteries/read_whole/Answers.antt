use Rattle.std.proofs.Common.{sym}
use Rattle.desk_reopening.proofs.LotteryLaws.{refused_whole}
use Rattle.desk_reopening.proofs.lotteries.read_whole.Goals as goal

pub returns-in-Ok : goal.returns-in-Ok
returns-in-Ok c = record {
  is = record { certificate = c.in-Ok.ensures.matching; written = c.in-Ok.ensures.found };
  only = λ other is. sym (c.in-Ok.ensures.only other is.certificate is.written);
}
