use Rattle.dual_check.proofs.CutLaws.{none_fits_at_violated}
use Rattle.dual_check.proofs.PriceLaws.{best_at_bound}
use Rattle.dual_check.proofs.laws.evidence_laws.Goals as goal

pub returns : goal.returns
returns c = record { best = best_at_bound; none = none_fits_at_violated }
