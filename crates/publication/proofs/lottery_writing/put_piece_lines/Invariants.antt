use Rattle.std.proofs.Common.{◌≤◌, take}
use Rattle.std.specs.List.{flat_map}
use Rattle.publication.specs.AnswerForms.{piece_line}
use Rattle.publication.proofs.WaitingLaws.{Put, text_line}
use Rattle.publication.proofs.lottery_writing.put_piece_lines.Given as goal

abbrev pub invariant-loop-piece : goal.invariant-loop-piece
invariant-loop-piece g l = record {
  front : Put (g.K.Sink.taken l.fn.sink) l.fn.waiting (g.K.Sink.taken l.sink) l.waiting (flat_map (text_line piece_line) (take l.piece-index l.pieces));
  later : g.K.Sink.faults l.fn.sink ≤ g.K.Sink.faults l.sink;
}
