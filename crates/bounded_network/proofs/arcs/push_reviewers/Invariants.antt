use Rattle.std.proofs.Common.{◌++◌, ◌≡◌}
use Rattle.bounded_network.specs.Compile.{listed, reviewer_arc}
use Rattle.bounded_network.specs.Spans.{spans_of}
use Rattle.bounded_network.proofs.arcs.push_reviewers.Given as goal

-- the arcs so far stand behind the others
abbrev pub invariant-loop-r : goal.invariant-loop-r
invariant-loop-r l = l.arcs.items ≡ l.fn.arcs.items ++ listed l.r (reviewer_arc l.rules (spans_of l.rules l.sieve l.amounts))
