use Rattle.lottery_peel.proofs.DueLaws.{AreDuesTo}
use Rattle.lottery_peel.proofs.standing.first_dues.Given as goal

-- the due tickets of the amounts so far
abbrev pub invariant-loop-a : goal.invariant-loop-a
invariant-loop-a l = AreDuesTo l.all l.amounts.items l.counts l.a l.dues.items
