use Rattle.std.proofs.Common.{refl, rules}
use Rattle.std.specs.Prelude.{decimal}
use Rattle.publication.proofs.WaitingLaws.{put_more, put_fails, put_all, text_line, lines_are}
use Rattle.publication.proofs.lottery_writing.put_share_lines.Goals as goal

pub returns-in_err-put_number-clause-puts : goal.returns-in_err-put_number-clause-puts
returns-in_err-put_number-clause-puts g c = rw (lines_are decimal c.args.shares.now) (put_fails (text_line decimal) c.args.shares.now c.loop-share.share-index _ 0 _ _ _ _ _ _ _ _ _ c.loop-share-test.true refl c.loop-share.invariant.front c.in_err-put_number.ensures.puts c.from_residual.ensures.0)

pub loop-share-preserved : goal.loop-share-preserved
loop-share-preserved g c = record {
  front = put_more (text_line decimal) c.args.shares.now c.loop-share.share-index _ 0 _ _ _ _ _ _ _ c.loop-share-test.true refl c.loop-share.invariant.front c.in_ok-put_number.ensures.puts;
  later = search rules;
}

pub returns-clause-puts : goal.returns-clause-puts
returns-clause-puts g c = rw (lines_are decimal c.args.shares.now) (put_all (text_line decimal) c.args.shares.now c.loop-share.share-index _ _ _ _ _ c.loop-share-test.false c.loop-share.invariant.front)
