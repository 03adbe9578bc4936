-- Between which bounds the amounts of pairs, papers, groups and reviewers lie.
use Rattle.std.specs.Prelude.{◌≡◌, ℕ, ◌+◌, ◌*◌, ◌/◌, ◌%◌, ◌<◌, ◌≤◌, min, List, length, slice_index, ℤ, pos, neg_ℤ, ◌*ℤ◌}
use Rattle.match_rules.specs.declared.answer.Sieve.{Sieve}
use Rattle.match_rules.specs.Rules.{RulesValue, paper_at, reviewer_at, pair_at}
use Rattle.match_rules.specs.Groups.{group_count}
use Rattle.match_rules.specs.Assignments.{cap_under}
use Rattle.match_rules.specs.SharesFit.{paper_shares, group_shares, reviewer_shares}
use Rattle.match_rules.specs.Sums.{sum_below}
use Rattle.bounded_network.specs.declared.spans.Span.{Span}
use Rattle.bounded_network.specs.declared.spans.Amounts.{Amounts}
use Rattle.bounded_network.specs.declared.spans.Amounts.TheVariants.{Tickets, Rounded}

-- the bounds of each pair, paper, group and reviewer, by its place, and the cost of a pair's unit
pub record Spans : Type 0 where
  pub pairs : ℕ → Span
  pub papers : ℕ → Span
  pub of_groups : ℕ → Span
  pub reviewers : ℕ → Span
  pub cost : ℕ → ℤ

abbrev pub span : ℕ → ℕ → Span
span floor room = record { floor = floor; room = room }

abbrev pub IsBetween : Span → ℕ → Type 0
IsBetween bounds amount = (bounds.floor ≤ amount) × (amount ≤ bounds.room)

-- one amount a pair, and the sums of each paper, group and reviewer, all within their bounds
pub record AreWithin (rules : RulesValue) (spans : Spans) (amounts : List ℕ) : Type 0 where
  pub long : length amounts ≡ length rules.pairs
  pub pairs : (e : ℕ) → e < length rules.pairs → IsBetween (spans.pairs e) (slice_index amounts e)
  pub papers : (p : ℕ) → p < length rules.papers → IsBetween (spans.papers p) (paper_shares rules amounts p)
  pub of_groups : (g : ℕ) → g < group_count rules → IsBetween (spans.of_groups g) (group_shares rules amounts g)
  pub reviewers : (r : ℕ) → r < length rules.reviewers → IsBetween (spans.reviewers r) (reviewer_shares rules amounts r)

-- the costs of the pairs, each times its amount
abbrev pub amounts_cost : RulesValue → Spans → List ℕ → ℤ
amounts_cost rules spans amounts = sum_below (length rules.pairs) (λ e. pos (slice_index amounts e) *ℤ spans.cost e)

-- the bounds of shares under a sieve, counted in tickets; the cost of a ticket is minus the score
abbrev pub ticket_spans : RulesValue → Sieve → Spans
ticket_spans rules sieve = record {
  pairs = λ e. span (pair_at rules e).floor (cap_under rules sieve e);
  papers = λ p. span (rules.tickets * (paper_at rules p).demand) (rules.tickets * (paper_at rules p).demand);
  of_groups = λ g. span 0 (rules.tickets * rules.limit);
  reviewers = λ r. span (rules.tickets * (reviewer_at rules r).least) (rules.tickets * (reviewer_at rules r).greatest);
  cost = λ e. neg_ℤ (pair_at rules e).score;
}

-- an amount divided by the tickets that are left, rounded down and up
abbrev pub rounded : ℕ → ℕ → Span
rounded left amount = span (amount / left) (amount / left + min 1 (amount % left))

-- the bounds of a whole assignment in which each pair, paper, group and reviewer has its amount in the shares, divided
-- by the tickets that are left and rounded; nothing has a cost
abbrev pub rounded_spans : RulesValue → List ℕ → ℕ → Spans
rounded_spans rules shares left = record {
  pairs = λ e. rounded left (slice_index shares e);
  papers = λ p. rounded left (paper_shares rules shares p);
  of_groups = λ g. rounded left (group_shares rules shares g);
  reviewers = λ r. rounded left (reviewer_shares rules shares r);
  cost = λ e. pos 0;
}

-- the bounds by the kind of amounts
abbrev pub spans_of : RulesValue → Sieve → Amounts → Spans
spans_of rules sieve Tickets = ticket_spans rules sieve
spans_of rules sieve (Rounded shares left) = rounded_spans rules shares.now left

-- some ticket is left, and there is a share for each pair
abbrev pub CanDivide : RulesValue → Amounts → Type 0
CanDivide rules Tickets = Unit {0}
CanDivide rules (Rounded shares left) = (1 ≤ left) × (length shares.now ≡ length rules.pairs)
