use Rattle.publication.proofs.CheckLaws.{none_iff_blocked, blocked_fits_none}
use Rattle.publication.proofs.checking.check_cut.Goals as goal

pub returns-clause-blocked : goal.returns-clause-blocked
returns-clause-blocked c = none_iff_blocked c.args.rules.now c.args.blocked.now c.broken_cut.result c.requires c.broken_cut.ensures

pub returns-clause-none : goal.returns-clause-none
returns-clause-none c = λ none. blocked_fits_none c.args.rules.now c.args.blocked.now c.pairs-pairs.ensures.kept ((returns-clause-blocked c).0 none)
