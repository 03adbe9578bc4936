use Rattle.std.proofs.Common.{not, sym, ap, ◌∙◌, arith}
use Rattle.std.proofs.lemmas.List.Sums.{position_or_len_is}
use Rattle.http_framing.specs.Heads.{is_line_byte}
use Rattle.http_framing.proofs.blanks.blank_length.Goals as goal

pub returns-then-not-is_line_byte-clause-count : goal.returns-then-not-is_line_byte-clause-count
returns-then-not-is_line_byte-clause-count c =
    sym (position_or_len_is (λ byte. not (is_line_byte byte)) c.args.bytes.now c.loop-place.place 0 (omega arith) (λ k lt. ap not (c.loop-place.invariant k lt)) (λ _. ap not (sym c.is_line_byte.ensures ∙ c.if-not-is_line_byte.true)))

pub returns-clause-count : goal.returns-clause-count
returns-clause-count c =
    sym (position_or_len_is (λ byte. not (is_line_byte byte)) c.args.bytes.now c.loop-place.place 0 (omega arith) (λ k lt. ap not (c.loop-place.invariant k lt)) (λ lt. absurd (omega arith)) ∙ omega arith)
