use Rattle.std.proofs.Common.{[], refl}
use Rattle.http_stream.proofs.ReadingLaws.{added_none}
use Rattle.http_stream.proofs.stream.close.Goals as goal

pub returns-in-Finished-clause-out : goal.returns-in-Finished-clause-out
returns-in-Finished-clause-out g c = rw c.in-Finished.is ([], added_none, (refl, refl))

pub returns-in-ReadFault-clause-out : goal.returns-in-ReadFault-clause-out
returns-in-ReadFault-clause-out g c = rw c.in-ReadFault.is ([], added_none, (refl, refl))

pub returns-in-Refused-clause-out : goal.returns-in-Refused-clause-out
returns-in-Refused-clause-out g c = rw c.in-Refused.is c.refuse.ensures.out

pub returns-in-Memory-clause-out : goal.returns-in-Memory-clause-out
returns-in-Memory-clause-out g c = rw c.in-Memory.is c.end_for_memory.ensures.out

pub returns-in-Refused-clause-read : goal.returns-in-Refused-clause-read
returns-in-Refused-clause-read g c = λ e. absurd (c.refuse.ensures.read e)
