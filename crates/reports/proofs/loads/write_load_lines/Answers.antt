use Rattle.std.proofs.Common.{◌≡◌, ◌<◌, length, rules, arith}
use Rattle.std.proofs.lemmas.List.{get_or_read}
use Rattle.std.specs.Prelude.{slice_index}
use Rattle.match_rules.specs.Rules.{reviewer_in, no_reviewer}
use Rattle.text_lines.specs.Texts.{line_of}
use Rattle.reports.specs.Tables.{load_line}
use Rattle.reports.proofs.TextLaws.{texts_more, texts_fail, texts_all}
use Rattle.reports.proofs.loads.write_load_lines.Goals as goal

pub returns-in_err-write_all-clause-taken : goal.returns-in_err-write_all-clause-taken
returns-in_err-write_all-clause-taken g c =
    let below : c.loop-r.r < length c.args.reviewers.now = omega arith in
    let read : c.index-reviewers-r.result ≡ reviewer_in c.args.reviewers.now c.loop-r.r = get_or_read c.args.reviewers.now c.loop-r.r _ below c.index-reviewers-r.is no_reviewer in
    let adds = rw (c.as_slice.ensures, c.load_line.ensures, read) at c.in_err-write_all.ensures.taken in
    texts_fail (λ r. line_of (load_line (reviewer_in c.args.reviewers.now r) (slice_index c.args.loads.now r))) (length c.args.reviewers.now) c.loop-r.r _ _ _ _ _ below
    c.loop-r.invariant.front adds c.from_residual.ensures.0

pub loop-r-preserved : goal.loop-r-preserved
loop-r-preserved g c =
    let below : c.loop-r.r < length c.args.reviewers.now = omega arith in
    let read : c.index-reviewers-r.result ≡ reviewer_in c.args.reviewers.now c.loop-r.r = get_or_read c.args.reviewers.now c.loop-r.r _ below c.index-reviewers-r.is no_reviewer in
    let adds = rw (c.as_slice.ensures, c.load_line.ensures, read) at c.in_ok-write_all.ensures.taken in
    record {
      front = texts_more (λ r. line_of (load_line (reviewer_in c.args.reviewers.now r) (slice_index c.args.loads.now r))) c.loop-r.r _ _ _ _ c.loop-r.invariant.front adds;
      later = search rules;
    }

pub returns-clause-taken : goal.returns-clause-taken
returns-clause-taken g c =
    texts_all (λ r. line_of (load_line (reviewer_in c.args.reviewers.now r) (slice_index c.args.loads.now r))) (length c.args.reviewers.now) c.loop-r.r _ _ _ (omega arith) c.loop-r.invariant.front
