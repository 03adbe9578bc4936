use Rattle.std.proofs.Common.{◌≡◌, ◌<◌, length, rules, arith}
use Rattle.std.proofs.lemmas.List.{get_or_read}
use Rattle.std.proofs.lemmas.Int.{to_z-of_z}
use Rattle.std.specs.Int.{w128}
use Rattle.std.specs.Prelude.{ℤ, FitsSigned, slice_index_or, pos}
use Rattle.match_rules.specs.Rules.{paper_in, no_paper}
use Rattle.text_lines.specs.Texts.{line_of}
use Rattle.reports.specs.Tables.{paper_line}
use Rattle.reports.proofs.TextLaws.{texts_more, texts_fail, texts_all}
use Rattle.reports.proofs.papers.write_paper_lines.Goals as goal

pub returns-in_err-write_all-clause-taken : goal.returns-in_err-write_all-clause-taken
returns-in_err-write_all-clause-taken g c =
    let below : c.loop-p.p < length c.args.papers.now = omega arith in
    let read : c.index-papers-p.result ≡ paper_in c.args.papers.now c.loop-p.p = get_or_read c.args.papers.now c.loop-p.p _ below c.index-papers-p.is no_paper in
    let score : ℤ = slice_index_or c.args.scores.now c.loop-p.p (pos 0) in
    let fits : FitsSigned w128 score = search rules in
    let adds = rw (c.as_slice.ensures, c.paper_line.ensures, read, to_z-of_z w128 score fits) at c.in_err-write_all.ensures.taken in
    texts_fail (λ p. line_of (paper_line (paper_in c.args.papers.now p) (slice_index_or c.args.scores.now p (pos 0)))) (length c.args.papers.now) c.loop-p.p _ _ _ _ _ below
    c.loop-p.invariant.front adds c.from_residual.ensures.0

pub loop-p-preserved : goal.loop-p-preserved
loop-p-preserved g c =
    let below : c.loop-p.p < length c.args.papers.now = omega arith in
    let read : c.index-papers-p.result ≡ paper_in c.args.papers.now c.loop-p.p = get_or_read c.args.papers.now c.loop-p.p _ below c.index-papers-p.is no_paper in
    let score : ℤ = slice_index_or c.args.scores.now c.loop-p.p (pos 0) in
    let fits : FitsSigned w128 score = search rules in
    let adds = rw (c.as_slice.ensures, c.paper_line.ensures, read, to_z-of_z w128 score fits) at c.in_ok-write_all.ensures.taken in
    record {
      front = texts_more (λ p. line_of (paper_line (paper_in c.args.papers.now p) (slice_index_or c.args.scores.now p (pos 0)))) c.loop-p.p _ _ _ _ c.loop-p.invariant.front adds;
      later = search rules;
    }

pub returns-clause-taken : goal.returns-clause-taken
returns-clause-taken g c =
    texts_all (λ p. line_of (paper_line (paper_in c.args.papers.now p) (slice_index_or c.args.scores.now p (pos 0)))) (length c.args.papers.now) c.loop-p.p _ _ _ (omega arith) c.loop-p.invariant.front
