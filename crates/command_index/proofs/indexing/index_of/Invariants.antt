use Rattle.std.proofs.Common.{◌≡◌, ◌≤◌, take, reverse}
use Rattle.command_index.specs.Maps.{place_at}
use Rattle.command_index.specs.Places.{IsIndexOf, command_count}
use Rattle.command_index.proofs.indexing.index_of.Given as goal

-- the index is that of the entries before this one
abbrev pub invariant-loop-entry : goal.invariant-loop-entry
invariant-loop-entry l = record {
  index : IsIndexOf (reverse (take l.entry-index l.entries.items)) (place_at l.index);
  commands : command_count (reverse (take l.entry-index l.entries.items)) ≡ l.commands;
  few : l.commands ≤ l.entry-index;
  place : l.place ≡ l.entry-index;
}
