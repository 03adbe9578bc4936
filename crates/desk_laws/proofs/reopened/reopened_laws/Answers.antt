use Rattle.desk_laws.proofs.ReopenedLaws.{legal_opens}
use Rattle.desk_laws.proofs.SameEvidence.{same_lottery}
use Rattle.desk_laws.proofs.SameJobs.{same_edition, same_edits, same_kept, same_publications}
use Rattle.desk_laws.proofs.reopened.reopened_laws.Goals as goal

pub returns-clause-opens : goal.returns-clause-opens
returns-clause-opens c chairs H names legal = legal_opens chairs H names legal

pub returns-clause-commands : goal.returns-clause-commands
returns-clause-commands c H caller number = same_kept H caller number

pub returns-clause-editions : goal.returns-clause-editions
returns-clause-editions c H n = same_edition H n

pub returns-clause-edits : goal.returns-clause-edits
returns-clause-edits c H = same_edits H

pub returns-clause-publications : goal.returns-clause-publications
returns-clause-publications c H = same_publications H

pub returns-clause-lotteries : goal.returns-clause-lotteries
returns-clause-lotteries c chairs H number publication names legal found = same_lottery chairs H number publication legal found
