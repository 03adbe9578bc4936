use Rattle.made_conference.proofs.pairs.made_pairs.Given as goal

abbrev pub ghost-pairs_of : goal.ghost-pairs_of
ghost-pairs_of a = a.numbers.state
