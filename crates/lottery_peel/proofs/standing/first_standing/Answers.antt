use Rattle.std.proofs.Common.{sym, ◌∙◌, arith}
use Rattle.match_rules.specs.Rules.{RulesValue}
use Rattle.bounded_network.specs.Compile.{flow_of}
use Rattle.bounded_network.proofs.Compiled.{flow-length}
use Rattle.lottery_peel.specs.Standing.{AreFirstDues, AreWaiting}
use Rattle.lottery_peel.proofs.StandingLaws.{first-at}
use Rattle.lottery_peel.proofs.standing.first_standing.Goals as goal

pub returns : goal.returns
returns c =
    let all : RulesValue = c.args.rules.now in
    let passes = c.in_ok-net.ensures.passes in
    let first : AreFirstDues all.tickets (flow_of all c.args.shares.now) c.in_ok-counts.counts.items c.in_ok-dues.dues.items = rw c.as_slice.ensures.value at c.in_ok-dues.ensures in
    let at = first-at all c.args.shares.now c.in_ok-net.net c.in_ok-counts.counts.items c.in_ok-dues.dues.items c.rounded_network.ensures.kept passes c.in_ok-net.ensures.rounds c.in_ok-counts.ensures first in
    let waiting : AreWaiting all.tickets c.in_ok-dues.dues.items c.in_ok-waiting.waiting = rw (c.tickets.ensures.value, c.as_slice-2.ensures.value) at c.in_ok-waiting.ensures in
    record {
      stands = record {
        passes = passes;
        links = c.links_serve.ensures.made c.in_ok-links.ensures;
        circulates = c.in_ok-counts.ensures;
        long = first.long ∙ flow-length all c.args.shares.now ∙ sym passes.size;
        lines = λ a lt. (at a lt).0;
        chosen = c.into_vec-chosen.ensures ∙ rw (c.pairs.ensures.value, c.deref.ensures.value) at c.in_ok-places.ensures.value;
        ahead = c.in_ok-ahead.ensures;
        behind = c.in_ok-behind.ensures;
        waiting = waiting;
      };
      tight = λ a lt. (at a lt).1;
    }

pub all_waiting-requires : goal.all_waiting-requires
all_waiting-requires c =
    let all : RulesValue = c.args.rules.now in
    let first : AreFirstDues all.tickets (flow_of all c.args.shares.now) c.in_ok-counts.counts.items c.in_ok-dues.dues.items = rw c.as_slice.ensures.value at c.in_ok-dues.ensures in
    record {
      few = rw c.as_slice-2.ensures.value
          (omega (arith, first.long, flow-length all c.args.shares.now, c.in_ok-net.ensures.passes.size, c.arcs-arcs.ensures.kept.few_arcs));
    }
