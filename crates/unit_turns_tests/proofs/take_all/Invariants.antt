use Rattle.bounded_network.specs.Network.{IsCirculation}
use Rattle.unit_turns.specs.Side.{IsBlank}
use Rattle.unit_turns_tests.proofs.take_all.Given as goal

-- the amounts are a circulation, and the sides are blank
abbrev pub invariant-loop-arc : goal.invariant-loop-arc
invariant-loop-arc l = record {
  circulation : IsCirculation l.net l.flow;
  ahead : IsBlank l.net l.ahead;
  behind : IsBlank l.net l.behind;
}
