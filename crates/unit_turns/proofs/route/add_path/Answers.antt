use Rattle.std.proofs.Common.{◌≡◌, ◌<◌, length, arith}
use Rattle.std.proofs.lemmas.List.{get_or_read}
use Rattle.unit_turns.specs.Side.{reach_at, no_reach}
use Rattle.unit_turns.proofs.Stepping.{HasPath-more}
use Rattle.unit_turns.proofs.route.add_path.Goals as goal

pub loop-at-preserved : goal.loop-at-preserved
loop-at-preserved c =
    let side = c.args.side.now in
    let at = c.loop-at.at in
    let above : 0 < at = omega arith in
    let inside : at < length side.reaches.items = c.loop-at.invariant.inside in
    let here : c.index-reach.result.now ≡ reach_at side at = get_or_read _ _ _ inside c.index-reach.ensures no_reach in
    let arc = rw here at c.taken.ensures.arc in
    let forward = rw here at c.taken.ensures.forward in
    record {
      path = rw (c.in_ok-push.ensures.items, here)
          (HasPath-more c.args.net.now c.args.flow.now c.args.aim side c.requires.side c.args.steps.now.items c.requires.aside at c.args.place c.loop-at.steps.items c.taken.result above inside c.loop-at.invariant.path arc forward);
      inside = rw here (omega (arith, (c.requires.side.each at above inside).from, inside));
    }
