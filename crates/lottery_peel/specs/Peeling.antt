-- How shares become pieces: at each step a whole assignment whose counts are the amounts that are left, divided by the
-- tickets that are left and rounded, stands for as many tickets as leave room for a next one.
use Rattle.std.specs.Prelude.{◌≡◌, ℕ, ◌+◌, ◌-◌, ◌*◌, ◌/◌, ◌%◌, ◌<◌, ◌≤◌, ◌⊎◌, ◌==◌, min, Bool, if◌then◌else◌, List, length, All, slice_index}
use Rattle.std.specs.Cmp.Lexicographic.{slice_cmp}
use Rattle.std.specs.List.{IsDistinct}
use Rattle.std.specs.Ordering.{nat_cmp, is_eq}
use Rattle.match_rules.specs.declared.lottery.Piece.{Piece}
use Rattle.match_rules.specs.Answers.{Rounded}
use Rattle.match_rules.specs.Assignments.{Meets, tickets, times}
use Rattle.match_rules.specs.Chosen.{chosen_places}
use Rattle.match_rules.specs.Groups.{group_count}
use Rattle.match_rules.specs.Pieces.{DoAscend, piece_at}
use Rattle.match_rules.specs.Rules.{RulesValue}
use Rattle.match_rules.specs.SharesFit.{HasShares, group_shares, reviewer_shares}
use Rattle.match_rules.specs.Sums.{count_below}
use Rattle.bounded_network.specs.declared.spans.Span.{Span}
use Rattle.bounded_network.specs.Compile.{amounts_in, flow_of}
use Rattle.bounded_network.specs.Spans.{IsBetween, rounded}

-- 1 where an amount is no multiple of the tickets that are left, so that it may be rounded down or up, else 0
abbrev pub open_part : ℕ → ℕ → ℕ
open_part left amount = min 1 (amount % left)

-- how many amounts of a list are no multiples
abbrev pub open_count : ℕ → List ℕ → ℕ
open_count left amounts = count_below (length amounts) (λ a. open_part left (slice_index amounts a))

-- how many pairs, groups and reviewers have a sum of shares that is no multiple of all tickets
abbrev pub unwhole_count : RulesValue → List ℕ → ℕ
unwhole_count rules shares =
    (count_below (length rules.pairs) (λ e. open_part rules.tickets (slice_index shares e))
    + count_below (group_count rules) (λ g. open_part rules.tickets (group_shares rules shares g)))
    + count_below (length rules.reviewers) (λ r. open_part rules.tickets (reviewer_shares rules shares r))

-- for how many of the tickets that are left a count may stand: that of a multiple for all of them, and another until what is
-- left of the amount is a multiple again. As many tickets as are over need one count more, so a count that is rounded up may
-- stand for these, and one that is rounded down for the others.
abbrev pub limit : ℕ → ℕ → ℕ → ℕ
limit left amount count =
    if amount % left == 0 then left else (if count == amount / left then (left - amount % left) else (amount % left))

-- one count for each amount, which is the amount divided by the tickets that are left, rounded down or up
pub record AreRounded (left : ℕ) (amounts counts : List ℕ) : Type 0 where
  pub long : length counts ≡ length amounts
  pub each : (a : ℕ) → a < length amounts → IsBetween (rounded left (slice_index amounts a)) (slice_index counts a)

-- the greatest number of tickets for which the first counts may stand, up to all that are left
pub record IsWeight (left : ℕ) (amounts counts : List ℕ) (first weight : ℕ) : Type 0 where
  pub some : 1 ≤ weight
  pub most : weight ≤ left
  pub within : (a : ℕ) → a < first → weight ≤ limit left (slice_index amounts a) (slice_index counts a)
  pub reached : (weight ≡ left) ⊎ ((a : ℕ) × ((a < first) × (weight ≡ limit left (slice_index amounts a) (slice_index counts a))))

-- what is left of old amounts after a number of tickets with these counts
pub record AreLess (old counts new : List ℕ) (weight : ℕ) : Type 0 where
  pub long : length new ≡ length old
  pub same : length counts ≡ length old
  pub each : (a : ℕ) → a < length old → slice_index new a + weight * slice_index counts a ≡ slice_index old a

-- counts of a whole assignment of the amounts that are left: those of pairs, papers, groups and reviewers are rounded, and
-- those of papers, groups and reviewers are the sums of their pairs' counts
pub record IsNext (rules : RulesValue) (rest : List ℕ) (left : ℕ) (counts : List ℕ) : Type 0 where
  pub rounds : AreRounded left (flow_of rules rest) counts
  pub flows : counts ≡ flow_of rules (amounts_in rules counts)

-- bounds that lie within other bounds
abbrev pub IsNarrower : Span → Span → Type 0
IsNarrower outer inner = (outer.floor ≤ inner.floor) × (inner.room ≤ outer.room)

-- a piece with a ticket, whose places ascend, meet the rules and are rounded from the shares
pub record IsGoodPiece (rules : RulesValue) (shares : List ℕ) (piece : Piece) : Type 0 where
  pub some : 1 ≤ piece.weight
  pub ascends : DoAscend piece.pairs
  pub meets : Meets rules piece.pairs
  pub rounds : Rounded rules shares piece.pairs

-- whether two pieces have the same places
abbrev pub same_places : Piece → Piece → Bool
same_places a b = is_eq (slice_cmp nat_cmp a.pairs b.pairs)

-- shares of which some are given to pieces and the rest is left. The tickets of the pieces and those that are left are all
-- tickets, and so for each pair. Where tickets are left, the rounded bounds of each amount lie within its first ones, each
-- piece has settled an amount that was open, and no next assignment is one of the pieces. Where none is left, nothing is.
pub record IsPeeling (rules : RulesValue) (shares : List ℕ) (left : ℕ) (rest : List ℕ) (pieces : List Piece) : Type 0 where
  pub long : length rest ≡ length rules.pairs
  pub good : All (IsGoodPiece rules shares) pieces
  pub whole : tickets pieces + left ≡ rules.tickets
  pub exact : (e : ℕ) → e < length rules.pairs → times pieces e + slice_index rest e ≡ slice_index shares e
  pub narrow : 1 ≤ left → (a : ℕ) → a < length (flow_of rules shares) → IsNarrower (rounded rules.tickets (slice_index (flow_of rules shares) a)) (rounded left (slice_index (flow_of rules rest) a))
  pub few : 1 ≤ left → length pieces + open_count left (flow_of rules rest) ≤ open_count rules.tickets (flow_of rules shares)
  pub gone : 1 ≤ left → (counts : List ℕ) → IsNext rules rest left counts → (k : ℕ) → k < length pieces → ¬ ((piece_at pieces k).pairs ≡ chosen_places (amounts_in rules counts))
  pub empty : left ≡ 0 → (e : ℕ) → e < length rules.pairs → slice_index rest e ≡ 0
  pub last : left ≡ 0 → length pieces ≤ 1 + open_count rules.tickets (flow_of rules shares)
  pub apart : IsDistinct same_places pieces

-- a step of the loop: a next assignment stands for as many tickets as it may, and what it takes is taken off
pub record IsStepTo (rules : RulesValue) (left : ℕ) (rest counts : List ℕ) (piece : Piece) (next : ℕ) (new : List ℕ) : Type 0 where
  pub assigns : IsNext rules rest left counts
  pub weighs : IsWeight left (flow_of rules rest) counts (length (flow_of rules rest)) piece.weight
  pub takes : AreLess rest (amounts_in rules counts) new piece.weight
  pub places : piece.pairs ≡ chosen_places (amounts_in rules counts)
  pub after : next + piece.weight ≡ left

-- all pieces of shares, in any order: they have all tickets and exactly the shares, there are few, and no two have the same
-- places
pub record IsPeeled (rules : RulesValue) (shares : List ℕ) (pieces : List Piece) : Type 0 where
  pub good : All (IsGoodPiece rules shares) pieces
  pub whole : tickets pieces ≡ rules.tickets
  pub exact : HasShares rules shares pieces
  pub few : length pieces ≤ 1 + unwhole_count rules shares
  pub apart : IsDistinct same_places pieces
