-- The closure compares a row's key with the one that is looked for.
use Rattle.std.proofs.Common.{rules}
use Rattle.std.proofs.lemmas.Fn.{always_returns_same}
use Rattle.roster.specs.Table.{id_cmp}
use Rattle.roster.proofs.Tables.{searched}
use Rattle.roster.proofs.table.find.Goals as goal

pub returns : goal.returns
returns g c =
    let facts = c.binary_search_by.ensures in
    let by_key = facts.position (λ row. id_cmp (g.R.Row.key row) c.args.id.now) (always_returns_same _ _ _ (λ a r f called. (search rules, search rules))) in
    searched g.R.Row.key c.args.id.now c.args.rows.now c.binary_search_by.result c.requires facts.bound by_key
