use Rattle.desk_reopening.proofs.laws.edition_laws.Goals as goal

pub returns : goal.returns
returns c H are = (c.args.tables.now.rules, record { made = are.rules; are = c.pairs.ensures.kept })
