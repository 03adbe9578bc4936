use Rattle.std.proofs.Common.{◌≡◌, true, map, take}
use Rattle.std.specs.Option.{option_map_or}
use Rattle.std.specs.List.{list_all}
use Rattle.toml.specs.Data.{as_table}
use Rattle.toml.specs.View.{view}
use Rattle.bid_import.specs.Settings.{knows, source_keys}
use Rattle.bid_import.proofs.keys.knows_each.Given as goal

abbrev pub invariant-loop-node : goal.invariant-loop-node
invariant-loop-node l = list_all (λ d. option_map_or (knows source_keys) (as_table d) true) (map view (take l.node-index l.nodes)) ≡ true
