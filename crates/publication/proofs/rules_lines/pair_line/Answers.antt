use Rattle.std.proofs.Common.{ap, rules}
use Rattle.std.proofs.lemmas.Int.{to_z-of_z}
use Rattle.std.specs.Int.{w64}
use Rattle.std.specs.Prelude.{FitsSigned}
use Rattle.text_lines.specs.Texts.{line_of}
use Rattle.publication.specs.RulesText.{pair_line}
use Rattle.publication.proofs.WriteLaws.{five_fields}
use Rattle.publication.proofs.rules_lines.pair_line.Goals as goal

pub returns : goal.returns
unfolding pair_line
returns c =
    let fits : FitsSigned w64 c.args.pair.now.score = search rules in
    rw (c.end_line.ensures, c.push_number-4.ensures.text, c.push_number-3.ensures.text, c.push_score.ensures.text, c.push_number-2.ensures.text, c.push_number.ensures.text, c.new-line.ensures, c.from.ensures, to_z-of_z w64 c.args.pair.now.score fits)
    (ap line_of (five_fields _ _ _ _ _))
