use Rattle.matcher_cli.proofs.made_line.counts_text.Goals as goal

pub demand_of-requires : goal.demand_of-requires
demand_of-requires c = rw c.papers-papers.ensures.value c.papers-papers.ensures.kept.papers.in_all
