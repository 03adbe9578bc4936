use Rattle.std.proofs.Common.{true}
use Rattle.desk_reopening.proofs.LotteryLaws.{not_valid, one_lottery, other_mode, unread}
use Rattle.desk_reopening.proofs.lotteries.read_lottery.Goals as goal

-- what isn't read is no lottery
pub returns-in-Err : goal.returns-in-Err
returns-in-Err c = unread c.args.rules.now c.args.mode c.args.text.now c.in-Err.fault c.keep_conditions.ensures c.in-Err.ensures
