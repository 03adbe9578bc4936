use Rattle.std.proofs.Common.{◌++◌, ◌≡◌}
use Rattle.bounded_network.specs.Compile.{listed, paper_arc}
use Rattle.bounded_network.specs.Spans.{spans_of}
use Rattle.bounded_network.proofs.arcs.push_papers.Given as goal

-- the arcs so far stand behind the others
abbrev pub invariant-loop-p : goal.invariant-loop-p
invariant-loop-p l = l.arcs.items ≡ l.fn.arcs.items ++ listed l.p (paper_arc l.rules (spans_of l.rules l.sieve l.amounts))
