-- Worked examples of reports, which can be followed by hand.
use Rattle.std.specs.Prelude.{[], ◌∷◌, Some, None, pos}
use Rattle.match_rules.specs.declared.answer.Level.TheVariants.{Unasked}
use Rattle.match_rules.specs.declared.answer.Mode.TheVariants.{Whole}
use Rattle.match_rules.specs.declared.answer.Winning.{Winning}
use Rattle.match_rules.specs.Examples.{one_paper, pair, prices, reviewer, seven_three, two_pieces, r1, r2, r3, u, v}
use Rattle.match_rules.specs.Rules.{RulesValue}

-- the best lottery of two papers and two reviewers with the scores 1, 0, 0.8, 0.5 and caps 0.7
abbrev pub small_winning : Winning
small_winning = record {
  mode = Whole;
  level = Unasked;
  total = pos 12900000000;
  prices = prices (pos 0 ∷ (pos 500000 ∷ [])) [] (pos 300000 ∷ (pos 0 ∷ []));
  shares = seven_three;
  lottery = two_pieces 7000 3000;
}

-- three reviewers, the first of an institution v, the second of none, and the third of an institution u and without a pair
abbrev pub three_homes : RulesValue
three_homes =
    one_paper 1 (reviewer r1 (Some v) ∷ (reviewer r2 None ∷ (reviewer r3 (Some u) ∷ [])))
    (pair 0 0 (pos 300000) 10000 ∷ (pair 0 1 (pos 200000) 10000 ∷ []))
