use Rattle.std.proofs.Common.{◌≡◌, ℕ, ◌+◌, ap, ◌∙◌, arith}
use Rattle.http_framing.specs.Heads.{blank_length}
use Rattle.http_stream.proofs.Blanks.{blank_drop}
use Rattle.http_stream.proofs.intake.Intake.drop_blank.Goals as goal

pub returns-then-count-gt0-clause-none : goal.returns-then-count-gt0-clause-none
returns-then-count-gt0-clause-none c =
    let bytes = c.args.self.now.bytes.items in
    let n = c.blank_length-count.result in
    let is : n ≡ blank_length bytes = c.blank_length-count.ensures.count ∙ ap blank_length c.deref.ensures.value in
    let less = blank_drop n bytes (omega arith) in
    ap blank_length c.drop_front.ensures.rest ∙ omega arith
