-- How groups are counted once: institutions by their places among names that ascend, one number for each paper and
-- place, the groups in the order of these numbers, and the first pair of each.
use Rattle.std.specs.Prelude.{◌≡◌, ℕ, ◌+◌, ◌*◌, ◌<◌, ◌≤◌, List, [], length, map, slice_index, slice_index_or, Option, Some, None}
use denote.Ref.{Bor}
use Rattle.std.specs.Option.{option_map}
use Rattle.std.specs.List.Sorted.{IsStrictlySortedBy}
use Rattle.match_rules.specs.declared.rules.TheConstants.{MOST_REVIEWERS}
use Rattle.match_rules.specs.declared.rules.RulePair.{RulePair}
use Rattle.match_rules.specs.declared.rules.RuleReviewer.{RuleReviewer}
use Rattle.match_rules.specs.Rules.{RulesValue, reviewer_in, id_cmp}
use Rattle.match_rules.specs.Groups.{group_count, group_of}

-- the texts behind references
abbrev pub texts : List (Bor (List ℕ)) → List (List ℕ)
texts references = map (λ (reference : Bor (List ℕ)). reference.now) references

-- the name stands at this place
abbrev pub IsPlaceOf : List (List ℕ) → List ℕ → ℕ → Type 0
IsPlaceOf names name place = (place < length names) × (slice_index_or names place [] ≡ name)

-- it stands somewhere
abbrev pub HasName : List (List ℕ) → List ℕ → Type 0
HasName names name = (place : ℕ) × IsPlaceOf names name place

-- the place of the name, where there is one
abbrev pub IsRank : List (List ℕ) → Option (List ℕ) → Option ℕ → Type 0
IsRank names None None = Unit {0}
IsRank names None (Some place) = ⊥
IsRank names (Some name) None = ⊥
IsRank names (Some name) (Some place) = IsPlaceOf names name place

-- the names of all institutions of some reviewers
abbrev pub AreNamed : List (List ℕ) → List RuleReviewer → Type 0
AreNamed names reviewers = (r : ℕ) (name : List ℕ) → r < length reviewers → (reviewer_in reviewers r).institution ≡ Some name → HasName names name

-- each reviewer has the place of their institution among names that ascend
pub record AreRanks (names : List (List ℕ)) (reviewers : List RuleReviewer) (ranks : List (Option ℕ)) : Type 0 where
  pub few : length names ≤ MOST_REVIEWERS
  pub ascending : IsStrictlySortedBy id_cmp names
  pub as_long : length ranks ≡ length reviewers
  pub each : (r : ℕ) → r < length reviewers → IsRank names (reviewer_in reviewers r).institution (slice_index_or ranks r None)

-- each place is one of a reviewer
abbrev pub AreSmall : List (Option ℕ) → Type 0
AreSmall ranks = (r rank : ℕ) → slice_index_or ranks r None ≡ Some rank → rank < MOST_REVIEWERS

-- one number for the paper and the place of the institution
abbrev pub code_of : List (Option ℕ) → RulePair → Option ℕ
code_of ranks pair = option_map (λ rank. pair.paper * MOST_REVIEWERS + rank) (slice_index_or ranks pair.reviewer None)

-- the place of the number, where there is one
abbrev pub IsCodePlace : List ℕ → Option ℕ → Option ℕ → Type 0
IsCodePlace codes None None = Unit {0}
IsCodePlace codes None (Some place) = ⊥
IsCodePlace codes (Some code) None = ⊥
IsCodePlace codes (Some code) (Some place) = (place < length codes) × (slice_index codes place ≡ code)

pub record AreCodePlaces (codes : List ℕ) (wanted places : List (Option ℕ)) : Type 0 where
  pub as_long : length places ≡ length wanted
  pub each : (e : ℕ) → e < length wanted → IsCodePlace codes (slice_index_or wanted e None) (slice_index_or places e None)

-- the place of the first pair of a group
pub record IsFirstPair (groups : List (Option ℕ)) (g first : ℕ) : Type 0 where
  pub within : first < length groups
  pub has : slice_index_or groups first None ≡ Some g
  pub before : (e : ℕ) → e < first → ¬ (slice_index_or groups e None ≡ Some g)

-- the places of the numbers of the pairs among numbers, and the first pair of each place that a pair has
pub record IsCounted (codes : List (Option ℕ)) (numbers : List ℕ) (of_pair : List (Option ℕ)) (firsts : List ℕ) : Type 0 where
  pub places : AreCodePlaces numbers codes of_pair
  pub count : length firsts ≡ length numbers
  pub first : (e g : ℕ) → e < length of_pair → slice_index_or of_pair e None ≡ Some g → IsFirstPair of_pair g (slice_index firsts g)

-- the group of each pair, and the first pair of each group
pub record IsGroupTable (rules : RulesValue) (of_pair : List (Option ℕ)) (firsts : List ℕ) : Type 0 where
  pub pairs : length of_pair ≡ length rules.pairs
  pub each : (e : ℕ) → e < length rules.pairs → slice_index_or of_pair e None ≡ group_of rules e
  pub count : length firsts ≡ group_count rules
  pub first : (g : ℕ) → g < group_count rules → IsFirstPair of_pair g (slice_index firsts g)
