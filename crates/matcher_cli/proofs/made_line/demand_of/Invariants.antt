use Rattle.std.proofs.Common.{◌≡◌, take}
use Rattle.match_rules.specs.Rules.{demand_total}
use Rattle.matcher_cli.proofs.made_line.demand_of.Given as goal

abbrev pub invariant-loop-paper : goal.invariant-loop-paper
invariant-loop-paper l = l.sum ≡ demand_total (take l.paper-index l.papers)
