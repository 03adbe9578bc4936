use Rattle.std.proofs.Common.{◌≡◌, map, drop}
use Rattle.std.specs.Prelude.{option_and_then}
use Rattle.toml.specs.Data.{as_table}
use Rattle.toml.specs.View.{view}
use Rattle.bid_import.specs.Settings.{source_from, each}
use Rattle.bid_import.proofs.Documents.{after}
use Rattle.bid_import.proofs.sources.all_sources.Given as goal

abbrev pub invariant-loop-node : goal.invariant-loop-node
invariant-loop-node l =
    each (λ d. option_and_then source_from (as_table d)) (map view l.nodes) ≡ after (λ d. option_and_then source_from (as_table d)) l.sources.items (map view (drop l.node-index l.nodes))
