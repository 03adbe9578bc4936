use Rattle.std.proofs.Common.{[], arith}
use Rattle.std.proofs.lemmas.Int.{ints}
use Rattle.publication.proofs.AnswerLaws.{total_spells}
use Rattle.publication.proofs.answer_text.read_worth.Goals as goal

pub returns-clause-total : goal.returns-clause-total
returns-clause-total g c =
    let from = c.in_ok-total.ensures.from in
    let within = (total_spells.sound [] from.0 c.in_ok-total.total from.1).0 in
    (omega (arith, ints, within.0, within.1), omega (arith, ints, within.0, within.1))
