-- Prices that bound every lottery, and cuts that forbid all.
use Rattle.std.specs.Prelude.{ℕ, ◌+◌, ◌*◌, ◌<◌, Bool, ◌&&◌, not, ◌==◌, List, length, slice_index_or, ℤ, pos, ◌+ℤ◌, ◌-ℤ◌, ◌*ℤ◌}
use Rattle.std.specs.Int.{int_max}
use Rattle.std.specs.List.{list_any}
use Rattle.std.specs.Option.{option_map_or}
use Rattle.match_rules.specs.declared.answer.Cut.{Cut}
use Rattle.match_rules.specs.declared.answer.Prices.{Prices}
use Rattle.match_rules.specs.declared.answer.Side.{Side}
use Rattle.match_rules.specs.declared.answer.Side.TheVariants.{Into, OutOf}
use Rattle.match_rules.specs.declared.answer.Sieve.{Sieve}
use Rattle.match_rules.specs.Rules.{RulesValue, paper_at, reviewer_at, pair_at}
use Rattle.match_rules.specs.Groups.{group_count, group_of, paper_of_group}
use Rattle.match_rules.specs.Assignments.{keeps}
use Rattle.match_rules.specs.Sums.{sum_below, count_below, when, int_when}

abbrev pub price_at : List ℤ → ℕ → ℤ
price_at prices k = slice_index_or prices k (pos 0)

-- the price of the pair's group, where it has one
abbrev pub group_price : RulesValue → List ℤ → ℕ → ℤ
group_price rules prices e = option_map_or (price_at prices) (group_of rules e) (pos 0)

-- the score of a pair less the prices of its paper, its group and its reviewer
abbrev pub rest : RulesValue → Prices → ℕ → ℤ
rest rules prices e =
    (((pair_at rules e).score -ℤ price_at prices.papers (pair_at rules e).paper) -ℤ group_price rules prices.groups e)
    -ℤ price_at prices.reviewers (pair_at rules e).reviewer

-- what a price makes of an amount between two bounds, at most
abbrev pub most_at : ℕ → ℕ → ℤ → ℤ
most_at least greatest price = int_max (pos least *ℤ price) (pos greatest *ℤ price)

abbrev pub paper_part : RulesValue → Prices → ℤ
paper_part rules prices = sum_below (length rules.papers) (λ p. pos (paper_at rules p).demand *ℤ price_at prices.papers p)

abbrev pub group_part : RulesValue → Prices → ℤ
group_part rules prices = sum_below (group_count rules) (λ g. pos rules.limit *ℤ int_max (pos 0) (price_at prices.groups g))

abbrev pub reviewer_part : RulesValue → Prices → ℤ
reviewer_part rules prices = sum_below (length rules.reviewers) (λ r. most_at (reviewer_at rules r).least (reviewer_at rules r).greatest (price_at prices.reviewers r))

abbrev pub pair_part : RulesValue → Sieve → Prices → ℤ
pair_part rules sieve prices = sum_below (length rules.pairs) (λ e. int_when (keeps rules sieve e) (most_at (pair_at rules e).floor (pair_at rules e).cap (rest rules prices e)))

-- the dual value of the linear program over the shares with bounded variables
abbrev pub bound : RulesValue → Sieve → Prices → ℤ
bound rules sieve prices =
    (pos rules.tickets *ℤ ((paper_part rules prices +ℤ group_part rules prices) +ℤ reviewer_part rules prices)) +ℤ pair_part rules sieve prices

-- whether a place is marked
abbrev pub marks : List ℕ → ℕ → Bool
marks places k = list_any (λ place. place == k) places

-- the tail of a pair is its group where it has one, else its paper; the head is its reviewer
abbrev pub tail_marked : RulesValue → Cut → ℕ → Bool
tail_marked rules cut e = option_map_or (marks cut.groups) (group_of rules e) (marks cut.papers (pair_at rules e).paper)

abbrev pub head_marked : RulesValue → Cut → ℕ → Bool
head_marked rules cut e = marks cut.reviewers (pair_at rules e).reviewer

-- whether a kept pair enters or leaves the marked nodes
abbrev pub enters : RulesValue → Sieve → Cut → ℕ → Bool
enters rules sieve cut e = keeps rules sieve e && (not (tail_marked rules cut e) && head_marked rules cut e)

abbrev pub leaves : RulesValue → Sieve → Cut → ℕ → Bool
leaves rules sieve cut e = keeps rules sieve e && (tail_marked rules cut e && not (head_marked rules cut e))

-- whether a group stands between a marked paper and itself unmarked, or the other way round
abbrev pub leaves_group : RulesValue → Cut → ℕ → Bool
leaves_group rules cut g = not (marks cut.groups g) && marks cut.papers (paper_of_group rules g)

abbrev pub enters_group : RulesValue → Cut → ℕ → Bool
enters_group rules cut g = marks cut.groups g && not (marks cut.papers (paper_of_group rules g))

-- all tickets for each demanded reviewer of a marked paper
abbrev pub demand_marked : RulesValue → Cut → ℕ
demand_marked rules cut = rules.tickets * count_below (length rules.papers) (λ p. when (marks cut.papers p) (paper_at rules p).demand)

abbrev pub least_marked : RulesValue → Cut → ℕ
least_marked rules cut = rules.tickets * count_below (length rules.reviewers) (λ r. when (marks cut.reviewers r) (reviewer_at rules r).least)

abbrev pub greatest_marked : RulesValue → Cut → ℕ
greatest_marked rules cut = rules.tickets * count_below (length rules.reviewers) (λ r. when (marks cut.reviewers r) (reviewer_at rules r).greatest)

abbrev pub groups_where : RulesValue → (ℕ → Bool) → ℕ
groups_where rules test = rules.tickets * count_below (group_count rules) (λ g. when (test g) rules.limit)

abbrev pub floors_where : RulesValue → (ℕ → Bool) → ℕ
floors_where rules test = count_below (length rules.pairs) (λ e. when (test e) (pair_at rules e).floor)

abbrev pub caps_where : RulesValue → (ℕ → Bool) → ℕ
caps_where rules test = count_below (length rules.pairs) (λ e. when (test e) (pair_at rules e).cap)

-- what has to pass the cut, by its side
abbrev pub need_by : Side → RulesValue → Sieve → Cut → ℕ
need_by Into rules sieve cut = demand_marked rules cut + floors_where rules (enters rules sieve cut)
need_by OutOf rules sieve cut = least_marked rules cut + floors_where rules (leaves rules sieve cut)

-- what may pass it
abbrev pub room_by : Side → RulesValue → Sieve → Cut → ℕ
room_by Into rules sieve cut = (greatest_marked rules cut + caps_where rules (leaves rules sieve cut)) + groups_where rules (leaves_group rules cut)
room_by OutOf rules sieve cut = (demand_marked rules cut + caps_where rules (enters rules sieve cut)) + groups_where rules (enters_group rules cut)

abbrev pub need : RulesValue → Sieve → Cut → ℕ
need rules sieve cut = need_by cut.side rules sieve cut

abbrev pub room : RulesValue → Sieve → Cut → ℕ
room rules sieve cut = room_by cut.side rules sieve cut

-- more has to pass the cut than may
abbrev pub Violated : RulesValue → Sieve → Cut → Type 0
Violated rules sieve cut = room rules sieve cut < need rules sieve cut
