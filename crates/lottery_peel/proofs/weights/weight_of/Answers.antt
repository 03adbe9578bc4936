use Rattle.std.proofs.Common.{◌≡◌, ℕ, ◌+◌, ◌-◌, arith}
use Rattle.lottery_peel.specs.Standing.{IsLeastDue, rest_of}
use Rattle.lottery_peel.proofs.StandingLaws.{due-after, weight-standing}
use Rattle.lottery_peel.proofs.weights.weight_of.Goals as goal

pub returns-clause-weighs : goal.returns-clause-weighs
returns-clause-weighs c =
    let least : IsLeastDue c.args.rules.now.tickets c.args.standing.now.dues.items c.least_due-ticket.result =
    rw (c.tickets-all.ensures.value, c.as_slice.ensures.value) at c.least_due-ticket.ensures in
    rw c.tickets-all.ensures.value
    (weight-standing c.args.rules.now c.args.left (rest_of c.args.rules.now c.args.left c.args.standing.now) c.args.standing.now c.least_due-ticket.result c.requires.next c.requires.some c.requires.fewer least)

pub returns-clause-least : goal.returns-clause-least
returns-clause-least c =
    let all : ℕ = c.args.rules.now.tickets in
    let ticket : ℕ = c.least_due-ticket.result in
    let least : IsLeastDue all c.args.standing.now.dues.items ticket =
    rw (c.tickets-all.ensures.value, c.as_slice.ensures.value) at c.least_due-ticket.ensures in
    let weighs = weight-standing c.args.rules.now c.args.left (rest_of c.args.rules.now c.args.left c.args.standing.now) c.args.standing.now ticket c.requires.next c.requires.some c.requires.fewer least in
    let same : all - c.args.left + (ticket - (all - c.args.left)) ≡ ticket = omega (arith, weighs.some) in
    rw (c.tickets-all.ensures.value, same) least

pub least_due-ticket-requires-clause-waiting : goal.least_due-ticket-requires-clause-waiting
least_due-ticket-requires-clause-waiting c = rw (c.tickets-all.ensures.value, c.as_slice.ensures.value) c.requires.next.stands.waiting

pub least_due-ticket-requires-clause-some : goal.least_due-ticket-requires-clause-some
least_due-ticket-requires-clause-some c = omega (arith, c.tickets-all.ensures.value, c.requires.some, c.requires.fewer)

pub least_due-ticket-requires-clause-after : goal.least_due-ticket-requires-clause-after
least_due-ticket-requires-clause-after c = rw (c.tickets-all.ensures.value, c.as_slice.ensures.value)
    (due-after c.args.rules.now c.args.left (rest_of c.args.rules.now c.args.left c.args.standing.now) c.args.standing.now c.requires.next c.requires.some c.requires.fewer)
