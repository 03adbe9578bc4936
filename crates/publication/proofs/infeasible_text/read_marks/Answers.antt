use Rattle.std.proofs.lemmas.Result.{IfOk-weaker}
use Rattle.match_rules.specs.Answers.{AreMarks}
use Rattle.publication.proofs.CutLaws.{marks_found}
use Rattle.publication.proofs.infeasible_text.read_marks.Goals as goal

pub returns-clause-fits : goal.returns-clause-fits
returns-clause-fits g c = IfOk-weaker c.read_line.result _ (AreMarks c.args.count) (λ places from. marks_found c.args.word.now c.args.count from.0 places c.ranges.count.fits from.1) c.read_line.ensures.from
