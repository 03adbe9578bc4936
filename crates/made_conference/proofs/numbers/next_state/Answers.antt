use Rattle.made_conference.specs.Numbers.{next_state}
use Rattle.made_conference.proofs.NumberLaws.{reduced}
use Rattle.made_conference.proofs.numbers.next_state.Goals as goal

pub returns-clause-value : goal.returns-clause-value
unfolding next_state
returns-clause-value c = reduced c.args.state 1664525 1013904223 4294967296
