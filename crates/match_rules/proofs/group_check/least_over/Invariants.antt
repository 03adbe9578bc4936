use Rattle.std.proofs.Common.{◌≡◌, ℕ, ◌<◌, ◌≤◌, get_or, Some}
use Rattle.match_rules.specs.Groups.{group_count, group_of}
use Rattle.match_rules.proofs.group_check.least_over.Given as goal

-- the least group over the limit so far
abbrev pub invariant-loop-e : goal.invariant-loop-e
invariant-loop-e l = record {
  within : l.first ≤ group_count l.rules;
  over : l.first < group_count l.rules → l.rules.limit < get_or l.counts l.first 0;
  least : (i g : ℕ) → i < l.e-index → group_of l.rules (get_or l.places i 0) ≡ Some g → l.rules.limit < get_or l.counts g 0 → l.first ≤ g;
}
