-- The digest computes where its steps are unfolded.
use Rattle.std.proofs.Common.{refl}
use Rattle.sha2.specs.Sha256.{sha256, digest_bytes, hash_after, compress, rounds, schedule, first_words}
use Rattle.publication.proofs.drawing.worked_tickets.Goals as goal

pub returns-clause-digest : goal.returns-clause-digest
unfolding sha256 digest_bytes hash_after compress rounds schedule first_words
returns-clause-digest c = refl

pub returns-clause-hundred : goal.returns-clause-hundred
unfolding sha256 digest_bytes hash_after compress rounds schedule first_words
returns-clause-hundred c = refl

pub returns-clause-usual : goal.returns-clause-usual
unfolding sha256 digest_bytes hash_after compress rounds schedule first_words
returns-clause-usual c = refl

pub returns-clause-many : goal.returns-clause-many
unfolding sha256 digest_bytes hash_after compress rounds schedule first_words
returns-clause-many c = refl
