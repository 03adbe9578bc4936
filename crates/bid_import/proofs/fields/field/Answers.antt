use Rattle.std.proofs.Common.{sym}
use Rattle.bid_import.proofs.Texts.{field-there}
use Rattle.csv.specs.Records.{fields_of}
use Rattle.bid_import.proofs.fields.field.Goals as goal

pub unreachable-requires : goal.unreachable-requires
unreachable-requires c = field-there (fields_of c.args.found.now) c.args.place c.requires (sym c.in-None.ensures.value)
