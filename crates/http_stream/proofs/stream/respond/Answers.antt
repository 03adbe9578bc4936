use Rattle.http_stream.proofs.StreamLaws.{adds_out}
use Rattle.http_stream.proofs.TurnLaws.{reply_fault, reply_read, writes_then}
use Rattle.http_stream.proofs.stream.respond.Goals as goal

pub returns-in-Ok-clause-out : goal.returns-in-Ok-clause-out
returns-in-Ok-clause-out g c =
    let sent = adds_out _ _ c.write_reply.result _ c.write_reply.ensures.taken in
    rw c.in-Ok.is (sent.0, sent.1, writes_then c.write_reply.result c.args.closes _ sent.0 c.behind_reply.result sent.2 c.behind_reply.ensures)

pub returns-in-Err-clause-out : goal.returns-in-Err-clause-out
returns-in-Err-clause-out g c = rw c.in-Err.is c.respond_fault.ensures.out

pub returns-in-Ok-clause-fault : goal.returns-in-Ok-clause-fault
returns-in-Ok-clause-fault g c = reply_fault _ _ c.write_reply.result c.args.closes c.behind_reply.result c.write_reply.ensures.cause c.behind_reply.ensures

pub returns-in-Ok-clause-read : goal.returns-in-Ok-clause-read
returns-in-Ok-clause-read g c = reply_read c.write_reply.result c.args.closes c.behind_reply.result c.behind_reply.ensures
