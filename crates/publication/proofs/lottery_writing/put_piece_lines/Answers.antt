use Rattle.std.proofs.Common.{rules}
use Rattle.publication.specs.AnswerForms.{piece_line}
use Rattle.publication.proofs.WaitingLaws.{put_more, put_fails, put_all, text_line, lines_are}
use Rattle.publication.proofs.lottery_writing.put_piece_lines.Goals as goal

pub returns-in_err-put_piece-clause-puts : goal.returns-in_err-put_piece-clause-puts
returns-in_err-put_piece-clause-puts g c = rw (lines_are piece_line c.args.pieces.now) (put_fails (text_line piece_line) c.args.pieces.now c.loop-piece.piece-index _ _ _ _ _ _ _ _ _ _ _ c.loop-piece-test.true c.piece-item.is c.loop-piece.invariant.front c.in_err-put_piece.ensures.puts c.from_residual.ensures.0)

pub loop-piece-preserved : goal.loop-piece-preserved
loop-piece-preserved g c = record {
  front = put_more (text_line piece_line) c.args.pieces.now c.loop-piece.piece-index _ _ _ _ _ _ _ _ _ c.loop-piece-test.true c.piece-item.is c.loop-piece.invariant.front c.in_ok-put_piece.ensures.puts;
  later = search rules;
}

pub returns-clause-puts : goal.returns-clause-puts
returns-clause-puts g c = rw (lines_are piece_line c.args.pieces.now) (put_all (text_line piece_line) c.args.pieces.now c.loop-piece.piece-index _ _ _ _ _ c.loop-piece-test.false c.loop-piece.invariant.front)
