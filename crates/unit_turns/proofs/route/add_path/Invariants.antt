use Rattle.std.proofs.Common.{◌<◌, length}
use Rattle.unit_turns.specs.Paths.{HasPath}
use Rattle.unit_turns.proofs.route.add_path.Given as goal

-- the steps so far lead between the node where the way down has come to and the one where it began
abbrev pub invariant-loop-at : goal.invariant-loop-at
invariant-loop-at l = record {
  path : HasPath l.net l.flow l.aim l.side l.at l.place l.initial.steps.items l.steps.items;
  inside : l.at < length l.side.reaches.items;
}

abbrev pub decreases-loop-at : goal.decreases-loop-at
decreases-loop-at l = l.at
