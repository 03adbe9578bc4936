use Rattle.std.proofs.Common.{◌≡◌, arith, length, rules, vec_len, ◌+◌}
use Rattle.flow_solver.proofs.Starts.{Suits-more}
use Rattle.flow_solver.proofs.start.first_flow.Goals as goal

pub loop-place-preserved : goal.loop-place-preserved
loop-place-preserved c =
    let long : length c.loop-place.flow.items ≡ c.loop-place.place = omega (arith, c.loop-place.flow.ok.0, c.loop-place.invariant.long) in
    let more : vec_len c.push.new.self ≡ c.loop-place.place + 1 = search rules in
    record {
      long = more;
      each = rw c.in_ok-push.ensures.items (Suits-more c.args.net.now c.args.potentials.now c.loop-place.place c.loop-place.flow.items _ long c.loop-place.invariant.each c.amount_from.ensures);
    }
