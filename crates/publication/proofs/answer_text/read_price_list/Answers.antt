use Rattle.publication.proofs.FitLaws.{prices_fit}
use Rattle.publication.proofs.answer_text.read_price_list.Goals as goal

pub returns-clause-fits : goal.returns-clause-fits
returns-clause-fits g c = rw c.from_vec.ensures (prices_fit c.args.count c.in_ok-prices.prices.items c.in_ok-prices.ensures.low c.in_ok-prices.ensures.high c.in_ok-prices.ensures.from)
