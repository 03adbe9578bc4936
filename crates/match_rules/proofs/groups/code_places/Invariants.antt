use Rattle.std.proofs.Common.{◌≡◌, ℕ, ◌<◌, None, length, get_or}
use Rattle.match_rules.specs.GroupTable.{IsCodePlace}
use Rattle.match_rules.proofs.groups.code_places.Given as goal

abbrev pub invariant-loop-code : goal.invariant-loop-code
invariant-loop-code l = record {
  as_long : length l.places.items ≡ l.code-index;
  each : (e : ℕ) → e < l.code-index → IsCodePlace l.numbers (get_or l.codes e None) (get_or l.places.items e None);
}
