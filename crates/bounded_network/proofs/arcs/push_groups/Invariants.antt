use Rattle.std.proofs.Common.{◌++◌, ◌≡◌}
use Rattle.bounded_network.specs.Compile.{listed, group_arc}
use Rattle.bounded_network.specs.Spans.{spans_of}
use Rattle.bounded_network.proofs.arcs.push_groups.Given as goal

-- the arcs so far stand behind the others
abbrev pub invariant-loop-g : goal.invariant-loop-g
invariant-loop-g l = l.arcs.items ≡ l.fn.arcs.items ++ listed l.g (group_arc l.rules (spans_of l.rules l.sieve l.amounts))
