use Rattle.std.proofs.Common.{◌≡◌, true, take, map, List, ℕ, Bor}
use Rattle.std.specs.List.{list_all}
use Rattle.match_rules.specs.Id.{is_institution}
use Rattle.bid_import.proofs.fields.all_institutions.Given as goal

abbrev pub invariant-loop-name : goal.invariant-loop-name
invariant-loop-name l = record {
  items : l.items.items ≡ map (λ (n : Bor (List ℕ)). n.now) (take l.name-index l.names);
  good : list_all is_institution (map (λ (n : Bor (List ℕ)). n.now) (take l.name-index l.names)) ≡ true;
}
