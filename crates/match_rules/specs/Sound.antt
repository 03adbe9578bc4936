-- Lotteries that break no clause of the check, and what the check counts.
use Rattle.std.specs.Prelude.{◌≡◌, ℕ, ◌<◌, ◌≤◌, ◌==◌, nat_le, List, length, Option, All, slice_index}
use Rattle.match_rules.specs.declared.answer.Sieve.TheVariants.{All as EveryPair}
use Rattle.match_rules.specs.declared.breaks.Break.{Break}
use Rattle.match_rules.specs.declared.breaks.Break.TheVariants.{Share, Cap}
use Rattle.match_rules.specs.declared.lottery.Piece.{Piece}
use Rattle.match_rules.specs.declared.sizes.Sizes.{Sizes}
use Rattle.match_rules.specs.Rules.{RulesValue, pair_at}
use Rattle.match_rules.specs.Breaks.{unless}
use Rattle.match_rules.specs.Groups.{group_count}
use Rattle.match_rules.specs.Pieces.{DoAscend}
use Rattle.match_rules.specs.Assignments.{Fits, member_count, tickets, times}

-- a lottery that fits the rules, has all tickets, and gives each pair its share of them
pub record IsSound (rules : RulesValue) (shares : List ℕ) (lottery : List Piece) : Type 0 where
  pub fits : Fits rules EveryPair lottery
  pub whole : tickets lottery ≡ rules.tickets
  pub exact : (e : ℕ) → e < length rules.pairs → times lottery e ≡ slice_index shares e

-- how many papers, groups, reviewers and pairs rules have
abbrev pub sizes_of : RulesValue → Sizes
sizes_of rules = record { papers = length rules.papers; groups = group_count rules; reviewers = length rules.reviewers; pairs = length rules.pairs }

-- places of pairs of the rules, ascending
pub record ArePlaces (rules : RulesValue) (places : List ℕ) : Type 0 where
  pub known : All (λ e. e < length rules.pairs) places
  pub ascending : DoAscend places

-- each counter has the count of its place
pub record AreCounts (counts : List ℕ) (number : ℕ) (count : ℕ → ℕ) : Type 0 where
  pub size : length counts ≡ number
  pub each : (place : ℕ) → place < length counts → slice_index counts place ≡ count place

-- the least group that the pairs have more often than the limit, or else the number of groups
pub record IsLeastOver (rules : RulesValue) (places : List ℕ) (g : ℕ) : Type 0 where
  pub within : g ≤ group_count rules
  pub over : g < group_count rules → rules.limit < member_count rules places g
  pub least : (h : ℕ) → h < g → member_count rules places h ≤ rules.limit

-- the clauses on shares and caps, with the weights of a pair's pieces counted already
abbrev pub share_counted : List ℕ → List ℕ → ℕ → Option Break
share_counted shares counts e = unless (slice_index counts e == slice_index shares e) (Share e (slice_index shares e) (slice_index counts e))

abbrev pub cap_counted : RulesValue → List ℕ → ℕ → Option Break
cap_counted rules counts e = unless (nat_le (slice_index counts e) (pair_at rules e).cap) (Cap e)
