use Rattle.std.proofs.Common.{◌++◌, ◌≡◌}
use Rattle.bounded_network.specs.Compile.{listed, pair_arc}
use Rattle.bounded_network.specs.Spans.{spans_of}
use Rattle.bounded_network.proofs.arcs.push_pairs.Given as goal

-- the arcs so far stand behind the others
abbrev pub invariant-loop-e : goal.invariant-loop-e
invariant-loop-e l = l.arcs.items ≡ l.fn.arcs.items ++ listed l.e (pair_arc l.rules (spans_of l.rules l.sieve l.amounts))
