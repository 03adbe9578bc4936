use Rattle.std.proofs.Common.{[]}
use Rattle.std.proofs.lemmas.Result.{IfOk-weaker}
use Rattle.publication.specs.AskedForms.{IsAsked}
use Rattle.publication.proofs.AskedLaws.{threshold_spells}
use Rattle.publication.proofs.answer_text.read_threshold.Goals as goal

pub returns-clause-fits : goal.returns-clause-fits
returns-clause-fits g c = IfOk-weaker c.read_line.result _ IsAsked (λ found from. ((threshold_spells c.args.mode).sound [] from.0 found from.1).0.1) c.read_line.ensures.from
