use Rattle.std.proofs.Common.{◌≤◌, arith}
use Rattle.std.proofs.lemmas.Result.{IfOk-weaker}
use Rattle.text_lines.proofs.FormLaws.{number_after_takes}
use Rattle.text_lines.proofs.words.read_count.Goals as goal

pub returns-clause-low : goal.returns-clause-low
returns-clause-low g c = IfOk-weaker c.read_line.result _ (λ n. c.args.least ≤ n) (λ n from. (number_after_takes c.args.word.now c.args.least c.args.most from.0 n (omega (arith, c.ranges.most.fits)) from.1).1) c.read_line.ensures.from

pub returns-clause-high : goal.returns-clause-high
returns-clause-high g c = IfOk-weaker c.read_line.result _ (λ n. n ≤ c.args.most) (λ n from. (number_after_takes c.args.word.now c.args.least c.args.most from.0 n (omega (arith, c.ranges.most.fits)) from.1).2) c.read_line.ensures.from
