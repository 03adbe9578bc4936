use Rattle.std.proofs.Common.{◌≡◌, ◌∙◌, rules}
use Rattle.std.proofs.lemmas.Int.{to_z-of_z}
use Rattle.std.specs.Int.{w64, w128}
use Rattle.std.specs.Prelude.{FitsSigned}
use Rattle.reports.proofs.lines.push_score.Goals as goal

pub returns-clause-text : goal.returns-clause-text
returns-clause-text c =
    let narrow : FitsSigned w64 c.args.pair.now.score = search rules in
    let wide : FitsSigned w128 c.from.result = search rules in
    let is : c.from.result ≡ c.args.pair.now.score = c.from.ensures ∙ to_z-of_z w64 c.args.pair.now.score narrow in
    rw (to_z-of_z w128 c.from.result wide, is) at c.push_signed.ensures.text
