-- Rules and a right answer to them have a text.
use Rattle.std.proofs.Common.{◌≡◌}
use Rattle.match_rules.specs.declared.answer.Answer.{Answer}
use Rattle.match_rules.specs.declared.answer.Answer.TheVariants.{Lottery, Infeasible}
use Rattle.match_rules.specs.declared.answer.Mode.{Mode}
use Rattle.match_rules.specs.Rules.{AreRules, RulesValue}
use Rattle.publication.specs.Certificates.{IsCertificate, IsSpelled}
use Rattle.desk_history.specs.Steps.{IsRight}

pub right_certificate : (rules : RulesValue) (mode : Mode) (answer : Answer) → AreRules rules → IsRight rules mode answer → IsSpelled answer → IsCertificate rules answer
right_certificate rules mode (Lottery winning) are is spelled = record { rules_kept = are; suits = rw is.of_mode is.suits; matching = is.fitting; spelled = spelled }
right_certificate rules mode (Infeasible blocked) are is spelled = record { rules_kept = are; suits = tt; matching = is.fitting; spelled = spelled }
