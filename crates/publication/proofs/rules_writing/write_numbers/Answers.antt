use Rattle.edge_io.proofs.Adding.{adds_then}
use Rattle.publication.proofs.rules_writing.write_numbers.Goals as goal

pub returns-clause-taken : goal.returns-clause-taken
returns-clause-taken g c =
    adds_then (rw (c.from.ensures, c.tickets.ensures.value) at c.in_ok-write_count.ensures.taken) (rw (c.from-2.ensures, c.limit.ensures.value) at c.write_count-2.ensures.taken)
