use Rattle.lottery_peel.proofs.DueLaws.{AreDueIn}
use Rattle.lottery_peel.proofs.dues.keep_due.Given as goal

-- of those so far the ones that are due are listed
abbrev pub invariant-loop-arc : goal.invariant-loop-arc
invariant-loop-arc l = AreDueIn l.dues l.waiting l.arc-index l.ticket l.arcs.items
