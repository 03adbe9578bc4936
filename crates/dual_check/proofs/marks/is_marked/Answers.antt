use Rattle.std.proofs.Common.{◌∙◌}
use Rattle.dual_check.proofs.MarkLaws.{marks-found}
use Rattle.dual_check.proofs.marks.is_marked.Goals as goal

pub returns : goal.returns
returns c = record { value = c.is_ok.ensures.value ∙ marks-found c.args.places.now c.args.place c.binary_search.result c.requires.ascending (rw c.as_slice.ensures at c.binary_search.ensures.position) }
