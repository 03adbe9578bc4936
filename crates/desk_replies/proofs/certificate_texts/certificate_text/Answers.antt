use Rattle.std.proofs.Common.{rules}
use Rattle.publication.specs.Certificates.{certificate_text}
use Rattle.desk_replies.proofs.certificate_texts.certificate_text.Goals as goal

pub returns : goal.returns
unfolding certificate_text
returns c = search rules
