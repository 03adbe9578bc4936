use Rattle.std.proofs.Common.{[], true, false, refl}
use Rattle.http_stream.proofs.ReadingLaws.{added_none}
use Rattle.http_stream.proofs.StreamLaws.{adds_out, sent_continue}
use Rattle.http_stream.proofs.stream.ask_for_body.Goals as goal

pub returns-then-due-clause-out : goal.returns-then-due-clause-out
returns-then-due-clause-out g c =
    let sent = adds_out _ _ c.write_continue.result _ c.write_continue.ensures.taken in
    (sent.0, sent.1, rw c.if-due.true (sent_continue c.write_continue.result sent.0 sent.2))

pub returns-else-due-clause-out : goal.returns-else-due-clause-out
returns-else-due-clause-out g c = ([], added_none, rw c.if-due.false refl)
