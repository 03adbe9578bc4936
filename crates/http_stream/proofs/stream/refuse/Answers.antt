use Rattle.std.proofs.Common.{inl, inr, refl}
use Rattle.http_stream.proofs.StreamLaws.{adds_out}
use Rattle.http_stream.proofs.stream.refuse.Goals as goal

pub returns-in-Ok-clause-out : goal.returns-in-Ok-clause-out
returns-in-Ok-clause-out g c =
    let sent = adds_out _ _ _ _ c.in-Ok.ensures.taken in
    (sent.0, sent.1, inl (refl, sent.2))

pub returns-in-Err-clause-out : goal.returns-in-Err-clause-out
returns-in-Err-clause-out g c =
    let sent = adds_out _ _ _ _ c.in-Err.ensures.taken in
    (sent.0, sent.1, inr (refl, sent.2))
