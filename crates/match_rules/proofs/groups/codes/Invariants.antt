use Rattle.std.proofs.Common.{◌≡◌, map, take}
use Rattle.match_rules.specs.GroupTable.{code_of}
use Rattle.match_rules.proofs.groups.codes.Given as goal

abbrev pub invariant-loop-pair : goal.invariant-loop-pair
invariant-loop-pair l = l.codes.items ≡ map (code_of l.ranks) (take l.pair-index l.pairs)
