-- Sieves that keep more than others.
use Rattle.std.specs.Prelude.{◌≡◌, true, ℤ}
use Rattle.match_rules.specs.declared.answer.Sieve.{Sieve}
use Rattle.match_rules.specs.Assignments.{lets_pass}

-- each score that passes the one passes the other
abbrev pub IsFiner : Sieve → Sieve → Type 0
IsFiner fine coarse = (score : ℤ) → lets_pass fine score ≡ true → lets_pass coarse score ≡ true
