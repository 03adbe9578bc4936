use Rattle.std.proofs.Common.{arith, refl, rules}
use Rattle.match_rules.specs.Rules.{no_pair, pair_in}
use Rattle.publication.specs.RulesText.{pair_line}
use Rattle.publication.proofs.WriteLaws.{wrote_none, wrote_more, wrote_front}
use Rattle.publication.proofs.rules_writing.write_pair_lines.Goals as goal

pub loop-pair-init : goal.loop-pair-init
loop-pair-init g c = record { front = wrote_none pair_line c.args.pairs.now (g.K.Sink.taken c.args.sink.now); later = omega arith }

pub returns-in_err-write_all-clause-taken : goal.returns-in_err-write_all-clause-taken
returns-in_err-write_all-clause-taken g c =
    let adds = rw (c.as_slice.ensures, c.pair_line.ensures) at c.in_err-write_all.ensures.taken in
    wrote_front pair_line c.args.pairs.now c.loop-pair.pair-index (pair_in c.args.pairs.now c.loop-pair.pair-index) no_pair _ _ _ _ _ c.loop-pair-test.true refl
    c.loop-pair.invariant.front adds c.from_residual.ensures.0

pub loop-pair-preserved : goal.loop-pair-preserved
loop-pair-preserved g c =
    let adds = rw (c.as_slice.ensures, c.pair_line.ensures) at c.in_ok-write_all.ensures.taken in
    record {
      front = wrote_more pair_line c.args.pairs.now c.loop-pair.pair-index (pair_in c.args.pairs.now c.loop-pair.pair-index) no_pair _ _ _ _ c.loop-pair-test.true refl
          c.loop-pair.invariant.front adds;
      later = search rules;
    }
