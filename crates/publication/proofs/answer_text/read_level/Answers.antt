use Rattle.std.proofs.Common.{◌≡◌}
use Rattle.std.proofs.lemmas.Result.{IfOk-weaker}
use Rattle.match_rules.specs.declared.answer.Level.{Level}
use Rattle.match_rules.specs.declared.answer.Level.TheVariants.{Unasked, Free}
use Rattle.publication.specs.Certificates.{LevelFits}
use Rattle.publication.proofs.answer_text.read_level.Goals as goal

pub returns-in-Whole-clause-fits : goal.returns-in-Whole-clause-fits
returns-in-Whole-clause-fits g c =
    IfOk-weaker c.read_no_cut.result (λ (found : Level). found ≡ Unasked) (LevelFits c.args.sizes) (λ found same. rw same tt) c.read_no_cut.ensures.same

pub returns-in-Free-clause-fits : goal.returns-in-Free-clause-fits
returns-in-Free-clause-fits g c =
    IfOk-weaker c.read_no_cut-in-Free.result (λ (found : Level). found ≡ Free) (LevelFits c.args.sizes) (λ found same. rw same tt) c.read_no_cut-in-Free.ensures.same
