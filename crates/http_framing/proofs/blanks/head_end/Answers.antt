use Rattle.std.proofs.Common.{ℕ, take, ap, ◌∙◌}
use Rattle.std.proofs.lemmas.List.{take_min}
use Rattle.http_framing.specs.Heads.{head_length}
use Rattle.http_framing.specs.declared.blanks.TheConstants.{MOST_HEAD_BYTES}
use Rattle.http_framing.proofs.blanks.head_end.Goals as goal

pub returns : goal.returns
returns c =
    let front = ap (λ (n : ℕ). take n c.args.bytes.now) c.min-count.ensures ∙ take_min MOST_HEAD_BYTES c.args.bytes.now in
    c.head_length.ensures ∙ ap head_length front
