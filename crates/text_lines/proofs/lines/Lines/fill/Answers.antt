use Rattle.text_lines.proofs.lines.Lines.fill.Goals as goal

pub returns-in-Ok-clause-cause : goal.returns-in-Ok-clause-cause
returns-in-Ok-clause-cause g c = record { later = c.read.ensures.cause.later; failed = λ fault. absurd (cc); ended = λ tells fault. absurd (cc) }

pub returns-in-Err-clause-cause : goal.returns-in-Err-clause-cause
returns-in-Err-clause-cause g c = record { later = c.read.ensures.cause.later; failed = λ fault. c.in-Err.ensures.cause.failed; ended = λ tells fault. absurd (cc) }
