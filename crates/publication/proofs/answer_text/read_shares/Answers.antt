use Rattle.publication.proofs.FitLaws.{shares_fit}
use Rattle.publication.proofs.answer_text.read_shares.Goals as goal

pub returns-clause-fits : goal.returns-clause-fits
returns-clause-fits g c = rw c.from_vec.ensures (shares_fit c.args.count c.in_ok-shares.shares.items c.in_ok-shares.ensures.low c.in_ok-shares.ensures.high c.in_ok-shares.ensures.from)
