use Rattle.std.proofs.Common.{refl}
use Rattle.httparse.specs.Grammar.{trim_ows}
use Rattle.http_framing.proofs.examples.worked_tests.Goals as goal

pub returns-clause-ends : goal.returns-clause-ends
unfolding trim_ows
returns-clause-ends c = refl

pub returns-clause-parameter : goal.returns-clause-parameter
unfolding trim_ows
returns-clause-parameter c = refl

pub returns-clause-quoted : goal.returns-clause-quoted
unfolding trim_ows
returns-clause-quoted c = refl
