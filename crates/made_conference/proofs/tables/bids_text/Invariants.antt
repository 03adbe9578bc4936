use Rattle.std.proofs.Common.{◌≡◌, take}
use Rattle.std.specs.List.{flat_map}
use Rattle.made_conference.specs.Rows.{bid_lines}
use Rattle.made_conference.proofs.tables.bids_text.Given as goal

abbrev pub invariant-loop-pair : goal.invariant-loop-pair
invariant-loop-pair l = l.text.items ≡ flat_map bid_lines (take l.pair-index l.pairs)
