use Rattle.std.proofs.Common.{◌≡◌, ◌∙◌, refl, ap, Err}
use Rattle.match_rules.specs.declared.ids.IdFault.TheVariants.{BadId}
use Rattle.bid_import.proofs.Names.{one-bad}
use Rattle.bid_import.proofs.fields.all_institutions.Goals as goal

pub returns-in-Err-BadId : goal.returns-in-Err-BadId
returns-in-Err-BadId c =
    let refused : c.read.result ≡ Err BadId = c.in-Err-BadId.is ∙ ap Err c.in-Err-BadId.field-0-is in
    (refl, one-bad c.args.names.now c.loop-name.name-index _ c.loop-name-test.true (c.read.ensures.bad.0 refused))
