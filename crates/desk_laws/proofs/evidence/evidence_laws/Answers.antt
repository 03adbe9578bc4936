use Rattle.desk_laws.proofs.LegalLaws.{certified_best, legal_shown, right_certificate}
use Rattle.desk_laws.proofs.BestLaws.{legal_best}
use Rattle.std.proofs.Common.{refl}
use Rattle.desk_history.specs.Histories.{job_of}
use Rattle.desk_laws.proofs.PublishedLaws.{legal_published, publishable_right}
use Rattle.desk_laws.proofs.evidence.evidence_laws.Goals as goal

pub returns-clause-evidence : goal.returns-clause-evidence
returns-clause-evidence c chairs H legal = legal_shown chairs H legal

pub returns-clause-readable : goal.returns-clause-readable
returns-clause-readable c rules mode answer are is spelled = right_certificate rules mode answer are is spelled

pub returns-clause-best : goal.returns-clause-best
returns-clause-best c rules mode winning are is = certified_best rules mode winning are is

pub returns-clause-published : goal.returns-clause-published
returns-clause-published c chairs H legal = legal_published chairs H legal

pub returns-clause-publishable : goal.returns-clause-publishable
returns-clause-publishable c chairs H number certificate legal right there = publishable_right chairs H number (job_of H number) legal refl right certificate there

pub returns-clause-each_best : goal.returns-clause-each_best
returns-clause-each_best c chairs H legal make = legal_best chairs H legal make
