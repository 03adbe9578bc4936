use Rattle.std.proofs.Common.{arith, rules}
use Rattle.publication.specs.RulesText.{paper_line}
use Rattle.publication.proofs.WriteLaws.{wrote_none, wrote_more, wrote_front}
use Rattle.publication.proofs.rules_writing.write_paper_lines.Goals as goal

pub loop-paper-init : goal.loop-paper-init
loop-paper-init g c = record { front = wrote_none paper_line c.args.papers.now (g.K.Sink.taken c.args.sink.now); later = omega arith }

pub returns-in_err-write_all-clause-taken : goal.returns-in_err-write_all-clause-taken
returns-in_err-write_all-clause-taken g c =
    let adds = rw (c.as_slice.ensures, c.paper_line.ensures) at c.in_err-write_all.ensures.taken in
    wrote_front paper_line c.args.papers.now c.loop-paper.paper-index c.paper-item.result c.paper-item.result _ _ _ _ _ c.loop-paper-test.true c.paper-item.is
    c.loop-paper.invariant.front adds c.from_residual.ensures.0

pub loop-paper-preserved : goal.loop-paper-preserved
loop-paper-preserved g c =
    let adds = rw (c.as_slice.ensures, c.paper_line.ensures) at c.in_ok-write_all.ensures.taken in
    record {
      front = wrote_more paper_line c.args.papers.now c.loop-paper.paper-index c.paper-item.result c.paper-item.result _ _ _ _ c.loop-paper-test.true c.paper-item.is
          c.loop-paper.invariant.front adds;
      later = search rules;
    }
