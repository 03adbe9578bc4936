use Rattle.http_stream.proofs.stream.answer.Goals as goal

pub returns-clause-answered : goal.returns-clause-answered
returns-clause-answered g c =
    let out = c.respond.ensures.out in
    (c.handle-answer.result, out.0, c.handle-answer.ensures.does, out.1, out.2)
