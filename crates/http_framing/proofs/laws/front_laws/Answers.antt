use Rattle.http_framing.proofs.EndLaws.{head_is_all}
use Rattle.http_framing.proofs.FrontLaws.{continue_stays, head_stays, one_front, one_reading, refusal_stays, request_stays, request_takes}
use Rattle.http_framing.proofs.laws.front_laws.Goals as goal

pub returns-clause-reading : goal.returns-clause-reading
returns-clause-reading c = one_reading

pub returns-clause-one : goal.returns-clause-one
returns-clause-one c = one_front

pub returns-clause-head : goal.returns-clause-head
returns-clause-head c = head_stays

pub returns-clause-request : goal.returns-clause-request
returns-clause-request c = request_stays

pub returns-clause-refusal : goal.returns-clause-refusal
returns-clause-refusal c = refusal_stays

pub returns-clause-continued : goal.returns-clause-continued
returns-clause-continued c = continue_stays

pub returns-clause-takes : goal.returns-clause-takes
returns-clause-takes c = request_takes

pub returns-clause-whole_head : goal.returns-clause-whole_head
returns-clause-whole_head c = head_is_all
