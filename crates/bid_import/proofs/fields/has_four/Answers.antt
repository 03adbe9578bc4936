use Rattle.std.proofs.Common.{◌∙◌, ap}
use Rattle.std.specs.Prelude.{◌&&◌}
use Rattle.std.specs.Str.{bytes_eq}
use Rattle.csv.specs.Records.{fields_of}
use Rattle.bid_import.proofs.Texts.{header-four, no_header-four}
use Rattle.bid_import.proofs.fields.has_four.Goals as goal

pub returns-in-Some : goal.returns-in-Some
returns-in-Some c =
    c.and_same.ensures ∙ ap (λ front. front && bytes_eq c.args.fourth.now c.in-Some.w.now) c.three_same-front.ensures
    ∙ header-four _ _ _ _ (fields_of c.args.found.now) _ _ _ _ c.in-Some.ensures

pub returns-in-None : goal.returns-in-None
returns-in-None c = no_header-four _ _ _ _ (fields_of c.args.found.now) c.in-None.ensures
