use Rattle.std.proofs.Common.{◌<◌, ◌≤◌, true, false, length, arith, inl, inr}
use Rattle.std.proofs.lemmas.Bool.{cases_lt}
use Rattle.unit_turns.proofs.Growing.{side_short, IsMeeting-turned, IsGrown-then, AreScannedTo-more, IsEnded-from}
use Rattle.unit_turns.proofs.scanning.search.Goals as goal

pub returns-in-Some-found-clause-met : goal.returns-in-Some-found-clause-met
returns-in-Some-found-clause-met c =
    let same = c.turned.ensures in
    let meets = rw c.in-Some-found.is at c.in_ok-found-2.ensures.met in
    IsMeeting-turned c.args.net.now c.args.flow.now c.args.avoid c.scan-in-loop-next.new.side c.scan.new.side c.in-Some-found.meeting c.turned.result meets same.from same.to same.arc same.forward

pub overflow_add-next : goal.overflow_add-next
overflow_add-next c =
    omega (arith, side_short c.args.net.now c.loop-next.ahead c.loop-next.invariant.ahead.numbered, c.nodes-nodes.ensures.kept.few_nodes, c.loop-next-test.true)

pub loop-next-smaller : goal.loop-next-smaller
loop-next-smaller c = omega (arith, side_short c.args.net.now c.loop-next.ahead c.loop-next.invariant.ahead.numbered, c.loop-next-test.true)

pub loop-next-preserved : goal.loop-next-preserved
loop-next-preserved c =
    let net = c.args.net.now in
    let flow = c.args.flow.now in
    let was = c.loop-next.invariant in
    let on = c.in_ok-found.ensures in
    let back = c.in_ok-found-2.ensures in
    let ahead_in : c.loop-next.next < length c.loop-next.ahead.reaches.items = omega (arith, c.loop-next-test.true, c.loop-next.ahead.reaches.ok.0) in
    let behind_in : c.loop-next.next < length c.loop-next.behind.reaches.items = omega (arith, c.loop-next-test.true, c.loop-next.behind.reaches.ok.0) in
    record {
      ahead = on.side;
      behind = back.side;
      apart = λ v here there. back.apart v there here;
      ahead_grown = IsGrown-then c.args.ahead.now c.loop-next.ahead c.scan.new.side was.ahead_grown on.grown;
      behind_grown = IsGrown-then c.args.behind.now c.loop-next.behind c.scan-in-loop-next.new.side was.behind_grown back.grown;
      ahead_scanned = AreScannedTo-more net flow (record { ahead = true; avoid = c.args.avoid }) c.loop-next.ahead c.scan.new.side c.loop-next.next ahead_in on.grown was.ahead_scanned (rw c.in_default.is at on.scanned);
      behind_scanned = AreScannedTo-more net flow (record { ahead = false; avoid = c.args.avoid }) c.loop-next.behind c.scan-in-loop-next.new.side c.loop-next.next behind_in back.grown was.behind_scanned (rw c.in_default-found.is at back.scanned);
    }

pub returns-clause-ended : goal.returns-clause-ended
returns-clause-ended c =
    let net = c.args.net.now in
    let flow = c.args.flow.now in
    let was = c.loop-next.invariant in
    elim (cases_lt c.loop-next.next (length c.loop-next.ahead.reaches.items)) [
      | inl some ↦
          let all : length c.loop-next.behind.reaches.items ≤ c.loop-next.next = omega (arith, some, c.loop-next-test.false, c.loop-next.ahead.reaches.ok.0, c.loop-next.behind.reaches.ok.0) in
          inr (IsEnded-from net flow (record { ahead = false; avoid = c.args.avoid }) c.loop-next.behind c.loop-next.next was.behind.numbered all was.behind_scanned)
      | inr all ↦ inl (IsEnded-from net flow (record { ahead = true; avoid = c.args.avoid }) c.loop-next.ahead c.loop-next.next was.ahead.numbered all was.ahead_scanned)
    ]
