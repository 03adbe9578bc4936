use Rattle.publication.proofs.CheckLaws.{none_certified, certified_none, none_best}
use Rattle.publication.proofs.checking.check_lottery.Goals as goal

pub returns-clause-certified : goal.returns-clause-certified
returns-clause-certified c =
    none_certified c.args.rules.now c.args.winning.now c.broken_lottery.result c.pairs-pairs.ensures.kept c.pieces-pieces.ensures.kept c.requires.matching c.broken_lottery.ensures.exact

pub returns-clause-only : goal.returns-clause-only
returns-clause-only c =
    certified_none c.args.rules.now c.args.winning.now c.broken_lottery.result c.pairs-pairs.ensures.kept c.pieces-pieces.ensures.kept c.broken_lottery.ensures.exact

pub returns-clause-best : goal.returns-clause-best
returns-clause-best c =
    none_best c.args.rules.now c.args.winning.now c.broken_lottery.result c.pairs-pairs.ensures.kept c.pieces-pieces.ensures.kept c.requires.matching c.broken_lottery.ensures.exact
