use Rattle.std.proofs.Common.{length, rules, arith}
use Rattle.std.specs.Prelude.{slice_index}
use Rattle.text_lines.specs.Texts.{line_of}
use Rattle.reports.specs.Tables.{pair_line}
use Rattle.reports.proofs.TextLaws.{texts_more, texts_fail, texts_all, lines_below}
use Rattle.reports.proofs.assignment.write_pair_lines.Goals as goal

pub returns-in_err-write_all-clause-taken : goal.returns-in_err-write_all-clause-taken
returns-in_err-write_all-clause-taken g c =
    let adds = rw (c.as_slice.ensures, c.pair_line.ensures) at c.in_err-write_all.ensures.taken in
    rw (lines_below (pair_line c.args.rules.now) c.args.places.now 0)
    (texts_fail (λ i. line_of (pair_line c.args.rules.now (slice_index c.args.places.now i))) (length c.args.places.now) c.loop-place.place-index _ _ _ _ _ c.loop-place-test.true
    c.loop-place.invariant.front adds c.from_residual.ensures.0)

pub loop-place-preserved : goal.loop-place-preserved
loop-place-preserved g c =
    let adds = rw (c.as_slice.ensures, c.pair_line.ensures) at c.in_ok-write_all.ensures.taken in
    record {
      front = texts_more (λ i. line_of (pair_line c.args.rules.now (slice_index c.args.places.now i))) c.loop-place.place-index _ _ _ _ c.loop-place.invariant.front adds;
      later = search rules;
    }

pub returns-clause-taken : goal.returns-clause-taken
returns-clause-taken g c =
    rw (lines_below (pair_line c.args.rules.now) c.args.places.now 0)
    (texts_all (λ i. line_of (pair_line c.args.rules.now (slice_index c.args.places.now i))) (length c.args.places.now) c.loop-place.place-index _ _ _ (omega arith) c.loop-place.invariant.front)
