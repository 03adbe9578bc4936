use Rattle.std.proofs.Common.{◌≡◌, length, arith}
use Rattle.std.proofs.lemmas.Result.{err_from_is_err_and}
use Rattle.publication.proofs.ListsLaws.{reviewers_fail, pairs_fail, lists_read, lists_from}
use Rattle.publication.proofs.rules_reading.read_lists.Goals as goal

pub returns-in_err-reviewers-clause-reads : goal.returns-in_err-reviewers-clause-reads
returns-in_err-reviewers-clause-reads g c =
    let p = err_from_is_err_and c.from_residual-in_err-reviewers.result c.from_residual-in_err-reviewers.ensures.1 in
    rw (p.1, p.2) (λ tells. reviewers_fail _ _ c.in_ok-papers.papers.items c.in_err-reviewers.field-0.0 (c.in_ok-papers.ensures.reads (c.in_err-reviewers.ensures.untold tells)) (c.in_err-reviewers.ensures.reads tells))

pub returns-in_err-pairs-clause-reads : goal.returns-in_err-pairs-clause-reads
returns-in_err-pairs-clause-reads g c =
    let p = err_from_is_err_and c.from_residual-in_err-pairs.result c.from_residual-in_err-pairs.ensures.1 in
    let n : c.len.result ≡ length c.in_ok-papers.papers.items = omega (arith, c.len.ensures, c.in_ok-papers.papers.ok.0) in
    let m : c.len-2.result ≡ length c.in_ok-reviewers.reviewers.items = omega (arith, c.len-2.ensures, c.in_ok-reviewers.reviewers.ok.0) in
    rw (p.1, p.2) (λ tells.
    let before = c.in_err-pairs.ensures.untold tells in
    pairs_fail _ _ _ c.in_ok-papers.papers.items c.in_ok-reviewers.reviewers.items c.len.result c.len-2.result c.in_err-pairs.field-0.0 (c.in_ok-papers.ensures.reads (c.in_ok-reviewers.ensures.untold before)) (c.in_ok-reviewers.ensures.reads before) n m (c.in_err-pairs.ensures.reads tells))

pub returns-clause-reads : goal.returns-clause-reads
returns-clause-reads g c = λ tells.
    let before = c.in_ok-pairs.ensures.untold tells in
    let n : c.len.result ≡ length c.in_ok-papers.papers.items = omega (arith, c.len.ensures, c.in_ok-papers.papers.ok.0) in
    let m : c.len-2.result ≡ length c.in_ok-reviewers.reviewers.items = omega (arith, c.len-2.ensures, c.in_ok-reviewers.reviewers.ok.0) in
    lists_read _ _ _ _ c.in_ok-papers.papers.items c.in_ok-reviewers.reviewers.items c.in_ok-pairs.pairs.items c.len.result c.len-2.result (c.in_ok-papers.ensures.reads (c.in_ok-reviewers.ensures.untold before)) (c.in_ok-reviewers.ensures.reads before) n m (c.in_ok-pairs.ensures.reads tells)

pub returns-clause-lists : goal.returns-clause-lists
returns-clause-lists g c =
    let n : c.len.result ≡ length c.in_ok-papers.papers.items = omega (arith, c.len.ensures, c.in_ok-papers.papers.ok.0) in
    let m : c.len-2.result ≡ length c.in_ok-reviewers.reviewers.items = omega (arith, c.len-2.ensures, c.in_ok-reviewers.reviewers.ok.0) in
    lists_from c.in_ok-papers.papers.items c.in_ok-reviewers.reviewers.items c.in_ok-pairs.pairs.items c.len.result c.len-2.result c.in_ok-papers.ensures.high c.in_ok-reviewers.ensures.high c.in_ok-pairs.ensures.high n m c.in_ok-papers.ensures.from c.in_ok-reviewers.ensures.from c.in_ok-pairs.ensures.from
