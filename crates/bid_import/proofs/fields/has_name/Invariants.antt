use Rattle.std.proofs.Common.{◌≡◌, false, take, List, ℕ, Bor}
use Rattle.std.specs.List.{list_any}
use Rattle.std.specs.Str.{bytes_eq}
use Rattle.bid_import.proofs.fields.has_name.Given as goal

abbrev pub invariant-loop-other : goal.invariant-loop-other
invariant-loop-other l = list_any (λ (other : Bor (List ℕ)). bytes_eq other.now l.name) (take l.other-index l.known) ≡ false
