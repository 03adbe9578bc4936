use Rattle.std.proofs.Common.{length, rules, arith}
use Rattle.reports.specs.Tables.{share_text}
use Rattle.reports.proofs.TextLaws.{texts_more, texts_fail, texts_all}
use Rattle.reports.proofs.shares.write_share_lines.Goals as goal

pub returns-in_err-write_share-clause-taken : goal.returns-in_err-write_share-clause-taken
returns-in_err-write_share-clause-taken g c =
    texts_fail (share_text c.args.rules.now c.args.shares.now) (length c.args.rules.now.pairs) c.loop-pair.pair _ _ _ _ _ (omega arith)
    c.loop-pair.invariant.front c.in_err-write_share.ensures.taken c.from_residual.ensures.0

pub loop-pair-preserved : goal.loop-pair-preserved
loop-pair-preserved g c = record {
  front = texts_more (share_text c.args.rules.now c.args.shares.now) c.loop-pair.pair _ _ _ _ c.loop-pair.invariant.front c.in_ok-write_share.ensures.taken;
  later = search rules;
}

pub returns-clause-taken : goal.returns-clause-taken
returns-clause-taken g c = texts_all (share_text c.args.rules.now c.args.shares.now) (length c.args.rules.now.pairs) c.loop-pair.pair _ _ _ (omega arith) c.loop-pair.invariant.front
