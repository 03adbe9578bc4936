use Rattle.std.proofs.Common.{[], refl}
use Rattle.http_stream.proofs.ReadingLaws.{added_none}
use Rattle.http_stream.proofs.StreamLaws.{adds_out}
use Rattle.http_stream.proofs.TurnLaws.{reply_fault, reply_read, writes_then}
use Rattle.http_stream.proofs.stream.respond_fault.Goals as goal

pub returns-in-Memory-clause-out : goal.returns-in-Memory-clause-out
returns-in-Memory-clause-out g c =
    let sent = adds_out _ _ c.write_memory.result _ c.write_memory.ensures.taken in
    rw c.in-Memory.is (sent.0, sent.1, writes_then c.write_memory.result c.args.closes _ sent.0 c.behind_reply.result sent.2 c.behind_reply.ensures)

pub returns-in-Spent-clause-out : goal.returns-in-Spent-clause-out
returns-in-Spent-clause-out g c = rw c.in-Spent.is ([], added_none, (refl, refl))

pub returns-in-Memory-clause-fault : goal.returns-in-Memory-clause-fault
returns-in-Memory-clause-fault g c = reply_fault _ _ c.write_memory.result c.args.closes c.behind_reply.result c.write_memory.ensures.cause c.behind_reply.ensures

pub returns-in-Memory-clause-read : goal.returns-in-Memory-clause-read
returns-in-Memory-clause-read g c = reply_read c.write_memory.result c.args.closes c.behind_reply.result c.behind_reply.ensures
