use Rattle.std.proofs.Common.{sym, ◌∙◌}
use Rattle.bid_import.proofs.Texts.{four-some}
use Rattle.csv.specs.Records.{fields_of}
use Rattle.bid_import.proofs.fields.four.Goals as goal

pub returns : goal.returns
returns c = four-some (fields_of c.args.found.now) _ _ _ _ (sym c.len.ensures ∙ c.if-len-ne4.false) c.field-first.ensures c.field-second.ensures c.field-third.ensures c.field-fourth.ensures
