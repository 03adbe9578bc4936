use Rattle.std.proofs.Common.{◌+◌, sym, ap, ◌∙◌, arith}
use Rattle.std.proofs.lemmas.List.{take_rest}
use Rattle.http_framing.specs.Heads.{line_end}
use Rattle.http_framing.proofs.HeadLaws.{goes_on}
use Rattle.http_framing.proofs.blanks.head_length.Goals.{then-byte-eq10+else-end-gt0, else-byte-eq10}
use Rattle.http_framing.proofs.blanks.head_length.Goals as goal

pub loop-place-preserved : goal.loop-place-preserved
loop-place-preserved c =
    elim c.if-byte-eq10.branch [
      | then-byte-eq10+else-end-gt0 w ↦ goes_on c.args.bytes.now c.loop-place.place (omega arith) (λ e. ap line_end (sym (take_rest c.args.bytes.now (c.loop-place.place + 1))) ∙ sym w.line_end-end.ensures ∙ omega arith) c.loop-place.invariant
      | else-byte-eq10 w ↦ goes_on c.args.bytes.now c.loop-place.place (omega arith) (λ e. absurd (w.if-byte-eq10.false e)) c.loop-place.invariant
    ]
