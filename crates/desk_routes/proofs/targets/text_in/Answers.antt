use Rattle.std.proofs.lemmas.Bool.{false_from_ne_true}
use Rattle.std.proofs.lemmas.Str.{IsUtf8-from_is_utf8, is_utf8-from_IsUtf8}
use Rattle.desk_routes.proofs.targets.text_in.Goals as goal

pub returns-in-Ok-clause-some : goal.returns-in-Ok-clause-some
returns-in-Ok-clause-some c = is_utf8-from_IsUtf8 c.args.target.now c.in-Ok.ensures.cases.1

pub returns-in-Err-clause-none : goal.returns-in-Err-clause-none
returns-in-Err-clause-none c = λ none. false_from_ne_true _ (λ is. c.in-Err.ensures.cases.0 (IsUtf8-from_is_utf8 c.args.target.now is))
