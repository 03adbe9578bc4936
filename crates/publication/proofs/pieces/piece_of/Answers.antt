use Rattle.std.proofs.Common.{sym, ◌∙◌}
use Rattle.text_lines.specs.Fields.{fields}
use Rattle.publication.specs.AnswerForms.{piece_of}
use Rattle.publication.proofs.PieceLaws.{piece_no_number, piece_numbers}
use Rattle.publication.proofs.pieces.piece_of.Goals as goal

pub returns-in_default : goal.returns-in_default
unfolding piece_of
returns-in_default c =
    let found = rw c.in_default.is at c.in_ok-numbers.ensures in
    piece_no_number c.args.pairs c.args.before.now (fields c.args.line.now) (sym found)

pub returns-in-Ok : goal.returns-in-Ok
unfolding piece_of
returns-in-Ok c =
    let found = rw c.in-Some.is at c.in_ok-numbers.ensures in
    piece_numbers c.args.pairs c.args.before.now (fields c.args.line.now) c.in-Some.numbers.items c.ranges.pairs.fits (sym found) ∙ sym c.piece_from.ensures ∙ c.in-Ok.is

pub returns-in-Err : goal.returns-in-Err
unfolding piece_of
returns-in-Err c =
    let found = rw c.in-Some.is at c.in_ok-numbers.ensures in
    piece_numbers c.args.pairs c.args.before.now (fields c.args.line.now) c.in-Some.numbers.items c.ranges.pairs.fits (sym found) ∙ sym c.piece_from.ensures ∙ c.in-Err.is
