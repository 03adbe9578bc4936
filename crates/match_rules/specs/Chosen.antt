-- An assignment that is given by a count for each pair: 1 for a pair that is in it, 0 for one that isn't.
use Rattle.std.specs.Prelude.{◌≡◌, ℕ, zero, suc, ◌<◌, ◌≤◌, ◌==◌, true, if◌then◌else◌, List, [], ◌∷◌, ◌++◌, length, slice_index}
use Rattle.match_rules.specs.Rules.{RulesValue, paper_at, reviewer_at, is_locked}
use Rattle.match_rules.specs.Groups.{group_count}
use Rattle.match_rules.specs.Answers.{IsRounding}
use Rattle.match_rules.specs.SharesFit.{paper_shares, group_shares, reviewer_shares}

-- the places below a number whose count isn't 0, ascending
abbrev pub chosen_below : List ℕ → ℕ → List ℕ
chosen_below counts zero = []
chosen_below counts (suc n) = if slice_index counts n == 0 then chosen_below counts n else chosen_below counts n ++ (n ∷ [])

-- the places of the pairs that are in the assignment
unfoldable pub chosen_places : List ℕ → List ℕ
chosen_places counts = chosen_below counts (length counts)

-- a count of 0 or 1 for each pair
pub record AreChoices (rules : RulesValue) (counts : List ℕ) : Type 0 where
  pub long : length counts ≡ length rules.pairs
  pub single : (e : ℕ) → e < length counts → slice_index counts e ≤ 1

-- the sums of the counts keep the rules of an assignment
pub record CountsMeet (rules : RulesValue) (counts : List ℕ) : Type 0 where
  pub choices : AreChoices rules counts
  pub papers : (p : ℕ) → p < length rules.papers → paper_shares rules counts p ≡ (paper_at rules p).demand
  pub least : (r : ℕ) → r < length rules.reviewers → (reviewer_at rules r).least ≤ reviewer_shares rules counts r
  pub greatest : (r : ℕ) → r < length rules.reviewers → reviewer_shares rules counts r ≤ (reviewer_at rules r).greatest
  pub of_groups : (g : ℕ) → g < group_count rules → group_shares rules counts g ≤ rules.limit
  pub locked : (e : ℕ) → e < length rules.pairs → is_locked rules e ≡ true → slice_index counts e ≡ 1

-- the sums of the counts are those of shares, rounded down or up
pub record CountsRound (rules : RulesValue) (shares counts : List ℕ) : Type 0 where
  pub choices : AreChoices rules counts
  pub reviewers : (r : ℕ) → r < length rules.reviewers → IsRounding rules.tickets (reviewer_shares rules shares r) (reviewer_shares rules counts r)
  pub of_groups : (g : ℕ) → g < group_count rules → IsRounding rules.tickets (group_shares rules shares g) (group_shares rules counts g)
  pub pairs : (e : ℕ) → e < length rules.pairs → IsRounding rules.tickets (slice_index shares e) (slice_index counts e)
