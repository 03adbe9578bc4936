use Rattle.http_desk.proofs.AcknowledgedLaws.{acknowledged, goes_on}
use Rattle.http_desk.proofs.FaultLaws.{defined, unavailable}
use Rattle.http_desk.proofs.KeptLaws.{edition_stays, has_row, repeated}
use Rattle.http_desk.proofs.laws.session_laws.Goals as goal

pub returns-clause-kept : goal.returns-clause-kept
returns-clause-kept c routes start trail end is = goes_on routes start trail end is

pub returns-clause-stays : goal.returns-clause-stays
returns-clause-stays c H later n goes few = edition_stays c.history_laws.ensures.editions H later n goes few

pub returns-clause-acknowledged : goal.returns-clause-acknowledged
returns-clause-acknowledged c routes start trail end is = acknowledged routes start trail end is

pub returns-clause-row : goal.returns-clause-row
returns-clause-row c H caller number earlier there = has_row H caller number earlier there

pub returns-clause-repeated : goal.returns-clause-repeated
returns-clause-repeated c chairs H its earlier chair there same = repeated chairs H its earlier chair there same

pub returns-clause-unavailable : goal.returns-clause-unavailable
returns-clause-unavailable c routes start trail end is = unavailable routes start trail end is

pub returns-clause-defined : goal.returns-clause-defined
returns-clause-defined c old asked answer new serves same = defined old asked answer new serves same
