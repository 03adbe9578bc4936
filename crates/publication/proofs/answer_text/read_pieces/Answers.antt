use Rattle.std.proofs.lemmas.Result.{err_from_is_err_and}
use Rattle.publication.proofs.FitLaws.{pieces_fit}
use Rattle.publication.proofs.LotteryReading.{pieces_end_fails, pieces_read}
use Rattle.publication.proofs.answer_text.read_pieces.Goals as goal

pub returns-in_err-read_words-clause-reads : goal.returns-in_err-read_words-clause-reads
returns-in_err-read_words-clause-reads g c =
    let p = err_from_is_err_and c.from_residual-in_err-read_words.result c.from_residual-in_err-read_words.ensures.1 in
    rw (p.1, p.2) (λ tells. pieces_end_fails c.args.sizes _ _ c.in_ok-pieces.pieces.items c.in_err-read_words.field-0.0 (c.in_ok-pieces.ensures.reads (c.in_err-read_words.ensures.untold tells)) (c.in_err-read_words.ensures.reads tells))

pub of_tested-requires : goal.of_tested-requires
of_tested-requires g c = (pieces_fit c.args.sizes c.in_ok-pieces.pieces.items c.requires c.in_ok-pieces.ensures.high c.in_ok-pieces.ensures.from).0

pub returns-clause-reads : goal.returns-clause-reads
returns-clause-reads g c = λ tells.
    rw c.of_tested.ensures (pieces_read c.args.sizes _ _ _ c.in_ok-pieces.pieces.items c.in_ok-read_words.field-0 (c.in_ok-pieces.ensures.reads (c.in_ok-read_words.ensures.untold tells)) (c.in_ok-read_words.ensures.reads tells))

pub returns-clause-fits : goal.returns-clause-fits
returns-clause-fits g c = rw c.of_tested.ensures (pieces_fit c.args.sizes c.in_ok-pieces.pieces.items c.requires c.in_ok-pieces.ensures.high c.in_ok-pieces.ensures.from)
