use Rattle.edge_io.proofs.Adding.{adds_front, adds_then}
use Rattle.http_messages.proofs.writing.write_reply.Goals as goal

pub returns-in_err-write_head-clause-taken : goal.returns-in_err-write_head-clause-taken
returns-in_err-write_head-clause-taken g c =
    adds_front _ (rw c.body-body.ensures at c.in_err-write_head.ensures.taken) c.from_residual.ensures.0

pub returns-clause-taken : goal.returns-clause-taken
returns-clause-taken g c =
    adds_then (rw c.body-body.ensures at c.in_ok-write_head.ensures.taken) (rw c.body-body.ensures at c.write_all.ensures.taken)
