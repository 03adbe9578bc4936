use Rattle.lottery_peel.proofs.DueLaws.{due-sorted}
use Rattle.lottery_peel.proofs.dues.list_due.Goals as goal

pub returns : goal.returns
returns c = due-sorted c.args.dues.now c.args.ticket _ _ c.sort_unstable.ensures.permutation c.in_ok-keep_due.ensures
