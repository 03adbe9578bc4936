use Rattle.std.proofs.Common.{◌≡◌, ◌≤◌, [], length, map, List, ℕ, Bor}
use Rattle.bid_import.specs.Fields.{new_names}
use Rattle.bid_import.proofs.fields.names.Given as goal

abbrev pub invariant-loop-name : goal.invariant-loop-name
invariant-loop-name l = record {
  known : map (λ (n : Bor (List ℕ)). n.now) l.known.items ≡ new_names [] (map (λ (n : Bor (List ℕ)). n.now) l.yielded);
  few : length l.known.items ≤ 64;
}
