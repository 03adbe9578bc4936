use Rattle.residual_arcs.proofs.Chaining.{AreChainsTo}
use Rattle.residual_arcs.proofs.chains.chains_of.Given as goal

-- the chains of the arcs so far
abbrev pub invariant-loop-place : goal.invariant-loop-place
invariant-loop-place l = AreChainsTo l.net l.place l.last.items l.before_tail.items l.before_head.items
