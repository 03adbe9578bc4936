-- What passes the marked nodes of a cut, by the way that it goes.
use Rattle.std.specs.Prelude.{ℕ, Bool, ◌&&◌, not}
use Rattle.match_rules.specs.declared.answer.Cut.{Cut}
use Rattle.match_rules.specs.declared.answer.Side.{Side}
use Rattle.match_rules.specs.declared.answer.Side.TheVariants.{Into, OutOf}
use Rattle.match_rules.specs.declared.answer.Sieve.{Sieve}
use Rattle.match_rules.specs.Rules.{RulesValue}
use Rattle.match_rules.specs.Evidence.{enters, leaves, enters_group, leaves_group}

-- whether the tail alone is marked, or the head alone
abbrev pub goes : Side → Bool → Bool → Bool
goes Into tail head = not tail && head
goes OutOf tail head = tail && not head

-- whether a kept pair goes into, or out of, the marked nodes
abbrev pub crosses : Side → RulesValue → Sieve → Cut → ℕ → Bool
crosses Into rules sieve cut e = enters rules sieve cut e
crosses OutOf rules sieve cut e = leaves rules sieve cut e

-- whether the way from a paper to its group does
abbrev pub crosses_group : Side → RulesValue → Cut → ℕ → Bool
crosses_group Into rules cut g = enters_group rules cut g
crosses_group OutOf rules cut g = leaves_group rules cut g
