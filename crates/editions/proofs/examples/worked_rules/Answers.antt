use Rattle.std.proofs.Common.{refl}
use Rattle.score_spec.specs.Scores.{score_of}
use Rattle.venue_rules.specs.Candidates.{candidates}
use Rattle.venue_rules.specs.VenueRules.{rules_of}
use Rattle.editions.proofs.examples.worked_rules.Goals as goal

pub returns-clause-rules : goal.returns-clause-rules
unfolding rules_of candidates score_of
returns-clause-rules c = refl

pub returns-clause-forbidden : goal.returns-clause-forbidden
unfolding rules_of candidates score_of
returns-clause-forbidden c = refl
