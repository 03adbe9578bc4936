use Rattle.std.proofs.Common.{◌≡◌, ℕ, ◌<◌, length, sym, subst, arith}
use Rattle.std.specs.Prelude.{slice_index}
use Rattle.std.proofs.lemmas.List.{get_or_read}
use Rattle.bounded_network.specs.Network.{NetworkValue, arc_at, with_bounds}
use Rattle.lottery_peel.specs.declared.standing.Standing.{Standing}
use Rattle.lottery_peel.specs.Standing.{IsStanding, IsTight, rest_of}
use Rattle.lottery_peel.proofs.StandingLaws.{standing-held, tight-held}
use Rattle.lottery_peel.proofs.settling.settle.Goals as goal

pub returns-clause-stands : goal.returns-clause-stands
returns-clause-stands c =
    let s : Standing = c.turn_if_due.new.standing in
    let count : ℕ = slice_index s.counts.items c.args.arc in
    let stands = c.in_ok-turn_if_due.ensures.stands in
    let lt : c.args.arc < length s.net.arcs = rw c.in_ok-turn_if_due.ensures.net c.requires.arc_in in
    let here : c.index-count.result.now ≡ count = get_or_read s.counts.items c.args.arc c.index-count.result.now (omega (arith, lt, stands.circulates.long)) c.index-count.ensures 0 in
    let room = (c.nodes-nodes.ensures.kept.each c.args.arc lt).room in
    let done = c.rebound-held.ensures.set (c.rebound-held.ensures.bounds.1 (lt, omega arith, omega (arith, here, room, stands.circulates.rooms c.args.arc lt))) in
    let held : c.rebound-held.new.self ≡ with_bounds s.net c.args.arc count count = rw here at done in
    subst (λ (net : NetworkValue). IsStanding c.args.rules.now c.args.left (rest_of c.args.rules.now c.args.left c.args.standing.now) (record s { net = net })) (sym held)
    (standing-held c.args.rules.now c.args.left (rest_of c.args.rules.now c.args.left c.args.standing.now) s c.args.arc stands lt c.in_ok-turn_if_due.ensures.last)

pub returns-clause-settled : goal.returns-clause-settled
returns-clause-settled c =
    let s : Standing = c.turn_if_due.new.standing in
    let count : ℕ = slice_index s.counts.items c.args.arc in
    let stands = c.in_ok-turn_if_due.ensures.stands in
    let lt : c.args.arc < length s.net.arcs = rw c.in_ok-turn_if_due.ensures.net c.requires.arc_in in
    let here : c.index-count.result.now ≡ count = get_or_read s.counts.items c.args.arc c.index-count.result.now (omega (arith, lt, stands.circulates.long)) c.index-count.ensures 0 in
    let room = (c.nodes-nodes.ensures.kept.each c.args.arc lt).room in
    let done = c.rebound-held.ensures.set (c.rebound-held.ensures.bounds.1 (lt, omega arith, omega (arith, here, room, stands.circulates.rooms c.args.arc lt))) in
    let held : c.rebound-held.new.self ≡ with_bounds s.net c.args.arc count count = rw here at done in
    subst (λ (net : NetworkValue). IsTight c.args.rules.now.tickets c.args.left (arc_at net c.args.arc) (slice_index s.dues.items c.args.arc)) (sym held)
    (tight-held c.args.rules.now.tickets c.args.left s.net c.args.arc count (slice_index s.dues.items c.args.arc) lt)
