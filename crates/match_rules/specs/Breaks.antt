-- The first clause of the check that a lottery breaks: the least clause, in it the least piece, and then the least place.
use Rattle.std.specs.Prelude.{ℕ, Bool, ◌&&◌, not, ◌==◌, nat_le, if◌then◌else◌, List, length, Option, Some, None, slice_index}
use Rattle.match_rules.specs.declared.breaks.Break.{Break}
use Rattle.match_rules.specs.declared.breaks.Break.TheVariants.{Tickets, Demand, Load, Group, Lock, Share, Cap}
use Rattle.match_rules.specs.declared.lottery.Piece.{Piece}
use Rattle.match_rules.specs.Rules.{RulesValue, paper_at, reviewer_at, pair_at, is_locked}
use Rattle.match_rules.specs.Groups.{group_count}
use Rattle.match_rules.specs.Pieces.{piece_at}
use Rattle.match_rules.specs.Assignments.{holds, paper_count, reviewer_count, member_count, tickets, times}
use Rattle.match_rules.specs.First.{first_of_two, first_below}

-- None where a test holds, else the break
abbrev pub unless : Bool → Break → Option Break
unless holds broken = if holds then None else Some broken

-- the weights sum to all tickets
abbrev pub tickets_break : RulesValue → List Piece → Option Break
tickets_break rules lottery = unless (tickets lottery == rules.tickets) (Tickets (tickets lottery))

-- piece k with the pairs has paper p as often as it demands
abbrev pub demand_break : RulesValue → ℕ → List ℕ → ℕ → Option Break
demand_break rules k places p = unless (paper_count rules places p == (paper_at rules p).demand) (Demand k p (paper_count rules places p))

-- it has reviewer r from least to greatest times
abbrev pub is_load : RulesValue → ℕ → ℕ → Bool
is_load rules r count = nat_le (reviewer_at rules r).least count && nat_le count (reviewer_at rules r).greatest

abbrev pub load_break : RulesValue → ℕ → List ℕ → ℕ → Option Break
load_break rules k places r = unless (is_load rules r (reviewer_count rules places r)) (Load k r (reviewer_count rules places r))

-- it has group g at most limit times
abbrev pub group_break : RulesValue → ℕ → List ℕ → ℕ → Option Break
group_break rules k places g = unless (nat_le (member_count rules places g) rules.limit) (Group k g (member_count rules places g))

-- it has pair e where that is locked
abbrev pub lock_break : RulesValue → ℕ → List ℕ → ℕ → Option Break
lock_break rules k places e = unless (not (is_locked rules e && (holds places e == 0))) (Lock k e)

-- the weights of the pieces with pair e sum to its share
abbrev pub share_break : List ℕ → List Piece → ℕ → Option Break
share_break shares lottery e = unless (times lottery e == slice_index shares e) (Share e (slice_index shares e) (times lottery e))

-- that sum is at most the cap of the pair
abbrev pub cap_break : RulesValue → List Piece → ℕ → Option Break
cap_break rules lottery e = unless (nat_le (times lottery e) (pair_at rules e).cap) (Cap e)

-- the first break of a clause over pieces and then places
abbrev pub in_pieces : List Piece → ℕ → (ℕ → List ℕ → ℕ → Option Break) → Option Break
in_pieces lottery count broken = first_below (length lottery) (λ k. first_below count (broken k (piece_at lottery k).pairs))

abbrev pub piece_breaks : RulesValue → List Piece → Option Break
piece_breaks rules lottery =
    first_of_two (in_pieces lottery (length rules.papers) (demand_break rules))
    (first_of_two (in_pieces lottery (length rules.reviewers) (load_break rules))
    (first_of_two (in_pieces lottery (group_count rules) (group_break rules))
    (in_pieces lottery (length rules.pairs) (lock_break rules))))

abbrev pub pair_breaks : RulesValue → List ℕ → List Piece → Option Break
pair_breaks rules shares lottery =
    first_of_two (first_below (length rules.pairs) (share_break shares lottery)) (first_below (length rules.pairs) (cap_break rules lottery))

-- the first broken clause of 1 to 7
unfoldable pub first_break_of : RulesValue → List ℕ → List Piece → Option Break
first_break_of rules shares lottery =
    first_of_two (tickets_break rules lottery) (first_of_two (piece_breaks rules lottery) (pair_breaks rules shares lottery))
