use Rattle.std.proofs.Common.{◌∙◌}
use Rattle.std.proofs.lemmas.List.{get_or_default}
use Rattle.match_rules.proofs.groups.code_places.Goals as goal

pub code_place-requires-clause-there : goal.code_place-requires-clause-there
code_place-requires-clause-there c x at =
    c.requires.there x (c.loop-code.code-index, c.loop-code-test.true, get_or_default _ _ _ _ c.loop-code-test.true ∙ at)
