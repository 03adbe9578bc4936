use Rattle.std.proofs.lemmas.Bool.{false_from_ne_true}
use Rattle.desk_keeper.proofs.FieldSpells.{chair_word}
use Rattle.desk_routes.proofs.fields.name_text.Goals as goal

pub returns-in-Err-clause-none : goal.returns-in-Err-clause-none
returns-in-Err-clause-none c = λ none. false_from_ne_true _ (λ is. c.in-Err.ensures.cases.0 (chair_word c.args.value.now is).text)
