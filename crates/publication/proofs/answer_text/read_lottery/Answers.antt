use Rattle.std.proofs.Common.{◌≡◌}
use Rattle.std.proofs.lemmas.Result.{IfOk-weaker}
use Rattle.match_rules.specs.declared.answer.Winning.{Winning}
use Rattle.match_rules.specs.Answers.{SuitsMode}
use Rattle.publication.specs.AskedForms.{mode_of_level}
use Rattle.publication.proofs.AskedLaws.{level_suits}
use Rattle.publication.proofs.answer_text.read_lottery.Goals as goal

pub returns-clause-suits : goal.returns-clause-suits
returns-clause-suits g c =
    IfOk-weaker c.read_lottery_with.result (λ (w : Winning). w.mode ≡ mode_of_level w.level) (λ (w : Winning). SuitsMode w.mode w.level) (λ w is. rw is (level_suits w.level)) c.read_lottery_with.ensures.mode
