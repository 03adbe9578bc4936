use Rattle.publication.proofs.TestLaws.{ascends_is}
use Rattle.publication.proofs.pieces.do_ascend.Goals as goal

pub returns : goal.returns
returns c = ascends_is c.do_ascend.result c.args.places.now c.do_ascend.ensures
