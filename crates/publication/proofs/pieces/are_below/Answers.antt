use Rattle.publication.proofs.TestLaws.{below_is}
use Rattle.publication.proofs.pieces.are_below.Goals as goal

pub returns : goal.returns
returns c = below_is c.are_below.result c.args.count c.args.places.now c.are_below.ensures
