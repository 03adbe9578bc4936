use Rattle.std.proofs.Common.{arith}
use Rattle.match_rules.specs.Rules.{RulesValue}
use Rattle.lottery_peel.specs.declared.standing.Standing.{Standing}
use Rattle.lottery_peel.specs.Standing.{IsNextStanding}
use Rattle.lottery_peel.proofs.RestLaws.{own-rest, rest-is}
use Rattle.lottery_peel.proofs.remainder.Remainder.of.Goals as goal

pub invariant_of-result : goal.invariant_of-result
invariant_of-result c =
    let all : RulesValue = c.args.rules.now in
    let s : Standing = c.in_ok-standing.standing in
    let next : IsNextStanding all all.tickets c.args.shares.now s = c.in_ok-standing.ensures in
    rw c.tickets-left.ensures.value
    (record { fewer = omega arith; stands = own-rest all all.tickets c.args.shares.now s next.stands c.requires.long; tight = λ some. next.tight })

pub returns-clause-rest : goal.returns-clause-rest
returns-clause-rest c = rw c.tickets-left.ensures.value (rest-is c.args.rules.now c.args.rules.now.tickets c.args.shares.now c.in_ok-standing.standing c.in_ok-standing.ensures.stands c.requires.long)
