-- The places of the locked pairs, by the pairs alone.
use Rattle.std.proofs.Common.{◌≡◌, ℕ, zero, suc, ◌+◌, ◌++◌, ◌∷◌, [], List, length, true, false, refl, add-one}
use Rattle.match_rules.specs.declared.rules.RulePair.{RulePair}
use Rattle.match_rules.specs.declared.rules.RulePaper.{RulePaper}
use Rattle.match_rules.specs.declared.rules.RuleReviewer.{RuleReviewer}
use Rattle.match_rules.specs.Rules.{RulesValue, is_locked, locked_below, locked_places, rules_value}

-- they are those of any rules with these pairs
pub locked_below-of_pairs : (tickets limit : ℕ) (papers : List RulePaper) (reviewers : List RuleReviewer) (pairs : List RulePair) (n : ℕ)
    → locked_below (rules_value tickets 0 [] [] pairs) n ≡ locked_below (rules_value tickets limit papers reviewers pairs) n
locked_below-of_pairs tickets limit papers reviewers pairs zero = refl
locked_below-of_pairs tickets limit papers reviewers pairs (suc n) = rw (locked_below-of_pairs tickets limit papers reviewers pairs n) refl

pub locked_places-of_pairs : (tickets limit : ℕ) (papers : List RulePaper) (reviewers : List RuleReviewer) (pairs : List RulePair)
    → locked_places (rules_value tickets 0 [] [] pairs) ≡ locked_places (rules_value tickets limit papers reviewers pairs)
unfolding locked_places
locked_places-of_pairs tickets limit papers reviewers pairs = locked_below-of_pairs tickets limit papers reviewers pairs (length pairs)

-- one more place
pub locked_below-more : (rules : RulesValue) (e : ℕ) → is_locked rules e ≡ true → locked_below rules (e + 1) ≡ locked_below rules e ++ (e ∷ [])
locked_below-more rules e h = rw add-one (rw h refl)

pub locked_below-same : (rules : RulesValue) (e : ℕ) → is_locked rules e ≡ false → locked_below rules (e + 1) ≡ locked_below rules e
locked_below-same rules e h = rw add-one (rw h refl)
