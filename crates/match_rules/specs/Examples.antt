-- Worked examples: rules, lotteries, prices and cuts that can be followed by hand.
use Rattle.std.specs.Prelude.{ℕ, List, [], ◌∷◌, Option, Some, None, ℤ, pos, neg_ℤ, codes}
use Rattle.match_rules.specs.declared.answer.Cut.{Cut}
use Rattle.match_rules.specs.declared.answer.Prices.{Prices}
use Rattle.match_rules.specs.declared.answer.Side.TheVariants.{Into, OutOf}
use Rattle.match_rules.specs.declared.lottery.Piece.{Piece}
use Rattle.match_rules.specs.declared.rules.RulePaper.{RulePaper}
use Rattle.match_rules.specs.declared.rules.RuleReviewer.{RuleReviewer}
use Rattle.match_rules.specs.declared.rules.RulePair.{RulePair}
use Rattle.match_rules.specs.declared.rules.TheConstants.{RULES_TICKETS}
use Rattle.match_rules.specs.Groups.{GroupKey}
use Rattle.match_rules.specs.Rules.{RulesValue, rules_value}

abbrev pub paper : List ℕ → ℕ → RulePaper
paper id demand = record { id = id; demand = demand }

-- a reviewer with an institution or none, and a load of 0 to 1
abbrev pub reviewer : List ℕ → Option (List ℕ) → RuleReviewer
reviewer id institution = record { id = id; institution = institution; least = 0; greatest = 1 }

-- a pair that isn't locked
abbrev pub pair : ℕ → ℕ → ℤ → ℕ → RulePair
pair p r score cap = record { paper = p; reviewer = r; score = score; floor = 0; cap = cap }

-- a locked pair
abbrev pub locked_pair : ℕ → ℕ → ℤ → RulePair
locked_pair p r score = record { paper = p; reviewer = r; score = score; floor = RULES_TICKETS; cap = RULES_TICKETS }

abbrev pub piece : ℕ → List ℕ → Piece
piece weight pairs = record { weight = weight; pairs = pairs }

abbrev pub prices : List ℤ → List ℤ → List ℤ → Prices
prices papers groups reviewers = record { papers = papers; groups = groups; reviewers = reviewers }

abbrev pub cut_into : List ℕ → List ℕ → Cut
cut_into papers reviewers = record { side = Into; papers = papers; groups = []; reviewers = reviewers }

abbrev pub cut_out_of : List ℕ → List ℕ → Cut
cut_out_of papers reviewers = record { side = OutOf; papers = papers; groups = []; reviewers = reviewers }

-- the ids
abbrev pub p1 : List ℕ
p1 = codes "p1"

abbrev pub p2 : List ℕ
p2 = codes "p2"

abbrev pub r1 : List ℕ
r1 = codes "r1"

abbrev pub r2 : List ℕ
r2 = codes "r2"

abbrev pub r3 : List ℕ
r3 = codes "r3"

-- two papers, each of demand 1, and two reviewers
abbrev pub small_of : List RulePair → RulesValue
small_of pairs = rules_value RULES_TICKETS 1500 (paper p1 1 ∷ (paper p2 1 ∷ [])) (reviewer r1 None ∷ (reviewer r2 None ∷ [])) pairs

-- with the scores 1, 0, 0.8, 0.5 and one cap
abbrev pub small : ℕ → RulesValue
small cap = small_of (pair 0 0 (pos 1000000) cap ∷ (pair 0 1 (pos 0) cap ∷ (pair 1 0 (pos 800000) cap ∷ (pair 1 1 (pos 500000) cap ∷ []))))

-- with the cap 6999 of the first pair, and 7000 of the others
abbrev pub small_uneven : RulesValue
small_uneven = small_of (pair 0 0 (pos 1000000) 6999 ∷ (pair 0 1 (pos 0) 7000 ∷ (pair 1 0 (pos 800000) 7000 ∷ (pair 1 1 (pos 500000) 7000 ∷ []))))

-- with all four pairs locked
abbrev pub small_locked : RulesValue
small_locked = small_of (locked_pair 0 0 (pos 1000000) ∷ (locked_pair 0 1 (pos 0) ∷ (locked_pair 1 0 (pos 800000) ∷ (locked_pair 1 1 (pos 500000) ∷ []))))

-- with the first and the last pair locked
abbrev pub small_fixed : RulesValue
small_fixed = small_of (locked_pair 0 0 (pos 1000000) ∷ (pair 0 1 (pos 0) 10000 ∷ (pair 1 0 (pos 800000) 10000 ∷ (locked_pair 1 1 (pos 500000) ∷ []))))

-- with the scores -1, -0.5, -0.5, -1 and no caps
abbrev pub small_negative : RulesValue
small_negative =
    small_of
    (pair 0 0 (neg_ℤ (pos 1000000)) 10000
    ∷ (pair 0 1 (neg_ℤ (pos 500000)) 10000 ∷ (pair 1 0 (neg_ℤ (pos 500000)) 10000 ∷ (pair 1 1 (neg_ℤ (pos 1000000)) 10000 ∷ []))))

-- the first and the last pair, or else the two others, by weights
abbrev pub two_pieces : ℕ → ℕ → List Piece
two_pieces a b = piece a (0 ∷ (3 ∷ [])) ∷ (piece b (1 ∷ (2 ∷ [])) ∷ [])

-- the shares of the pairs of Small when the two pieces have 7000 and 3000 tickets
abbrev pub seven_three : List ℕ
seven_three = 7000 ∷ (3000 ∷ (3000 ∷ (7000 ∷ [])))

abbrev pub no_prices : Prices
no_prices = prices (pos 0 ∷ (pos 0 ∷ [])) [] (pos 0 ∷ (pos 0 ∷ []))

-- one paper of demand 2, and a pair with each reviewer
abbrev pub one_paper : ℕ → List RuleReviewer → List RulePair → RulesValue
one_paper limit reviewers pairs = rules_value RULES_TICKETS limit (paper p1 2 ∷ []) reviewers pairs

abbrev pub u : List ℕ
u = codes "u"

abbrev pub v : List ℕ
v = codes "v"

abbrev pub key : ℕ → List ℕ → GroupKey
key p institution = record { paper = p; institution = institution }

-- two reviewers of one institution, of whom a paper may have one
abbrev pub one_house : RulesValue
one_house =
    one_paper 1 (reviewer r1 (Some u) ∷ (reviewer r2 (Some u) ∷ []))
    (pair 0 0 (pos 900000) 10000 ∷ (pair 0 1 (pos 600000) 10000 ∷ []))

-- and a third of another institution
abbrev pub two_houses : RulesValue
two_houses =
    one_paper 1 (reviewer r1 (Some u) ∷ (reviewer r2 (Some u) ∷ (reviewer r3 (Some v) ∷ [])))
    (pair 0 0 (pos 900000) 10000 ∷ (pair 0 1 (pos 600000) 10000 ∷ (pair 0 2 (pos 100000) 10000 ∷ [])))

-- three reviewers of whom a paper needs two, with one cap
abbrev pub thirds : ℕ → RulesValue
thirds cap =
    one_paper 1500 (reviewer r1 None ∷ (reviewer r2 None ∷ (reviewer r3 None ∷ [])))
    (pair 0 0 (pos 300000) cap ∷ (pair 0 1 (pos 200000) cap ∷ (pair 0 2 (pos 100000) cap ∷ [])))

abbrev pub three_pieces : List Piece
three_pieces = piece 3334 (0 ∷ (1 ∷ [])) ∷ (piece 3333 (0 ∷ (2 ∷ [])) ∷ (piece 3333 (1 ∷ (2 ∷ [])) ∷ []))

-- a reviewer who needs a paper and is no candidate
abbrev pub idle_reviewer : RulesValue
idle_reviewer =
    rules_value RULES_TICKETS 1500 (paper p1 1 ∷ []) (reviewer r1 None ∷ (record { id = r2; institution = None; least = 1; greatest = 1 } ∷ []))
    (pair 0 0 (pos 1000000) 10000 ∷ [])

-- no papers, no reviewers, no pairs
abbrev pub empty_rules : RulesValue
empty_rules = rules_value RULES_TICKETS 1500 [] [] []
