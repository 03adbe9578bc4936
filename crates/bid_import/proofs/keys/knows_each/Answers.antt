use Rattle.std.proofs.Common.{◌≡◌, true, false, sym, ◌∙◌}
use Rattle.std.specs.Option.{option_map_or}
use Rattle.toml.specs.Data.{as_table}
use Rattle.toml.specs.View.{view}
use Rattle.bid_import.specs.Settings.{knows, source_keys}
use Rattle.bid_import.proofs.Documents.{one-fails}
use Rattle.bid_import.proofs.keys.knows_each.Goals as goal

pub returns-then-not-knows_source : goal.returns-then-not-knows_source
returns-then-not-knows_source c =
    let item = c.node-item.result in
    let bad : option_map_or (knows source_keys) (as_table (view item)) true ≡ false = sym c.knows_source.ensures ∙ c.if-not-knows_source.true in
    sym (one-fails (λ d. option_map_or (knows source_keys) (as_table d) true) c.args.nodes.now c.loop-node.node-index item c.loop-node-test.true (rw (← c.node-item.is) bad))
