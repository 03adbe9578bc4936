use Rattle.match_rules.specs.Rules.{RulesValue}
use Rattle.bounded_network.specs.Compile.{flow_of}
use Rattle.fair_threshold.proofs.probing.probed.Goals as goal

pub returns : goal.returns
returns c =
    let all : RulesValue = c.args.rules.now in
    let none = rw c.in-Unsat.is at c.in_ok-flow.ensures.none in
    record {
      known = c.in_ok-cut-in-Unsat.ensures.fitting;
      violated = c.in_ok-cut-in-Unsat.ensures.violated;
      none = λ shares fit. none (flow_of all shares) ((c.in_ok-network.ensures.circulations (flow_of all shares)).1 (c.in_ok-priced.ensures.serves.all shares fit));
    }
