use Rattle.std.proofs.Common.{◌∙◌, sym}
use Rattle.bid_import.proofs.Counts.{never-refused}
use Rattle.bid_import.proofs.fields.count.Goals as goal

pub returns-in-Err : goal.returns-in-Err
returns-in-Err c = absurd (never-refused c.args.text.now (sym c.is_count.ensures ∙ c.if-not-is_count.false) c.in-Err.ensures.value.0)
