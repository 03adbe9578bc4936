use Rattle.std.proofs.Common.{[], refl, sym, ◌∙◌}
use Rattle.std.proofs.lemmas.List.{append-nil}
use Rattle.http_stream.proofs.StreamLaws.{adds_out}
use Rattle.http_stream.proofs.stream.end_for_memory.Goals as goal

pub returns-in-Ok-clause-out : goal.returns-in-Ok-clause-out
returns-in-Ok-clause-out g c =
    let sent = adds_out _ _ _ _ c.in-Ok.ensures.taken in
    (sent.0, sent.1, (refl, ([], sym (append-nil sent.0 ∙ sent.2))))

pub returns-in-Err-clause-out : goal.returns-in-Err-clause-out
returns-in-Err-clause-out g c =
    let sent = adds_out _ _ _ _ c.in-Err.ensures.taken in
    (sent.0, sent.1, (refl, sent.2))
