use Rattle.std.proofs.Common.{◌∙◌}
use Rattle.csv.specs.Records.{fields_of}
use Rattle.bid_import.proofs.Texts.{header-three, no_header-three}
use Rattle.bid_import.proofs.fields.has_three.Goals as goal

pub returns-in-Some : goal.returns-in-Some
returns-in-Some c = c.three_same.ensures ∙ header-three _ _ _ (fields_of c.args.found.now) _ _ _ c.in-Some.ensures

pub returns-in-None : goal.returns-in-None
returns-in-None c = no_header-three _ _ _ (fields_of c.args.found.now) c.in-None.ensures
