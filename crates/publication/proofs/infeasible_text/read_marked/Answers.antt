use Rattle.std.proofs.lemmas.Result.{err_from_is_err_and}
use Rattle.publication.proofs.CutReading.{second_marks_fail, third_marks_fail, marked_read}
use Rattle.publication.proofs.infeasible_text.read_marked.Goals as goal

pub returns-in_err-groups-clause-reads : goal.returns-in_err-groups-clause-reads
returns-in_err-groups-clause-reads g c =
    let p = err_from_is_err_and c.from_residual-in_err-groups.result c.from_residual-in_err-groups.ensures.1 in
    rw (p.1, p.2) (λ tells. second_marks_fail c.args.sizes _ _ c.in_ok-papers.papers c.in_err-groups.field-0.0 (c.in_ok-papers.ensures.reads (c.in_err-groups.ensures.untold tells)) (c.in_err-groups.ensures.reads tells))

pub returns-in_err-reviewers-clause-reads : goal.returns-in_err-reviewers-clause-reads
returns-in_err-reviewers-clause-reads g c =
    let p = err_from_is_err_and c.from_residual-in_err-reviewers.result c.from_residual-in_err-reviewers.ensures.1 in
    rw (p.1, p.2) (λ tells.
    let before = c.in_err-reviewers.ensures.untold tells in
    third_marks_fail c.args.sizes _ _ _ c.in_ok-papers.papers c.in_ok-groups.groups c.in_err-reviewers.field-0.0 (c.in_ok-papers.ensures.reads (c.in_ok-groups.ensures.untold before)) (c.in_ok-groups.ensures.reads before) (c.in_err-reviewers.ensures.reads tells))

pub returns-clause-reads : goal.returns-clause-reads
returns-clause-reads g c = λ tells.
    let before = c.in_ok-reviewers.ensures.untold tells in
    marked_read c.args.sizes _ _ _ _ c.in_ok-papers.papers c.in_ok-groups.groups c.in_ok-reviewers.reviewers (c.in_ok-papers.ensures.reads (c.in_ok-groups.ensures.untold before)) (c.in_ok-groups.ensures.reads before) (c.in_ok-reviewers.ensures.reads tells)
