-- The clauses on shares and caps over counted weights.
use Rattle.std.proofs.Common.{◌≡◌, ℕ, eqb, leb, List, length, get_or, arith, ap, ◌∙◌}
use Rattle.match_rules.specs.declared.breaks.Break.TheVariants.{Share, Cap}
use Rattle.match_rules.specs.declared.lottery.Piece.{Piece}
use Rattle.match_rules.specs.Rules.{RulesValue, pair_at}
use Rattle.match_rules.specs.Assignments.{times}
use Rattle.match_rules.specs.Breaks.{unless, share_break, cap_break}
use Rattle.match_rules.specs.First.{first_below}
use Rattle.match_rules.specs.Sound.{AreCounts, share_counted, cap_counted}
use Rattle.match_rules.proofs.Firsts.{first_below-same}

pub shares_counted : (shares counts : List ℕ) (lottery : List Piece) (n : ℕ) → AreCounts counts n (times lottery) → first_below (length counts) (share_counted shares counts) ≡ first_below n (share_break shares lottery)
shares_counted shares counts lottery n are =
    ap (λ number. first_below number (share_counted shares counts)) are.size
    ∙ first_below-same n (share_counted shares counts) (share_break shares lottery)
    (λ e h. let size = are.size in ap (λ weight. unless (eqb weight (get_or shares e 0)) (Share e (get_or shares e 0) weight)) (are.each e (omega arith)))

pub caps_counted : (rules : RulesValue) (counts : List ℕ) (lottery : List Piece) (n : ℕ) → AreCounts counts n (times lottery) → first_below n (cap_counted rules counts) ≡ first_below n (cap_break rules lottery)
caps_counted rules counts lottery n are =
    first_below-same n (cap_counted rules counts) (cap_break rules lottery)
    (λ e h. let size = are.size in ap (λ weight. unless (leb weight (pair_at rules e).cap) (Cap e)) (are.each e (omega arith)))
