use Rattle.match_rules.proofs.groups.ranks.Goals as goal

pub ranks_among-requires-clause-there : goal.ranks_among-requires-clause-there
ranks_among-requires-clause-there c r name h is =
    rw c.deref.ensures.value (c.distinct_names-names.ensures.kept name (c.in_ok-all_names.ensures.named r name h is))
