-- Candidate pairs as they are found.
use Rattle.std.specs.Prelude.{◌≡◌, ℕ, ◌≤◌, ◌⊎◌, if◌then◌else◌, List, [], ◌∷◌, length, All, pos, neg_ℤ, ◌≤ℤ◌}
use Rattle.match_rules.specs.declared.rules.RulePair.{RulePair}
use Rattle.match_rules.specs.declared.rules.TheConstants.{MOST_PAIRS, RULES_TICKETS}
use Rattle.match_rules.specs.Rules.{most_score}
use Rattle.roster.specs.declared.rows.PaperRow.{PaperRow}
use Rattle.roster.specs.declared.rows.ReviewerRow.{ReviewerRow}
use Rattle.score_spec.specs.PaperScores.{PaperScoresValue}
use Rattle.venue_rules.specs.declared.candidates.Found.{Found}
use Rattle.venue_rules.specs.Candidates.{is_candidate, pair_of}
use Rattle.venue_rules.specs.Venues.{VenueValue}

-- a pair that rules may have: its score and tickets are within their limits
pub record IsPair (pair : RulePair) : Type 0 where
  pub low : neg_ℤ (pos most_score) ≤ℤ pair.score
  pub high : pair.score ≤ℤ pos most_score
  pub whole : (pair.floor ≡ 0) ⊎ (pair.floor ≡ RULES_TICKETS)
  pub ordered : pair.floor ≤ pair.cap
  pub within : pair.cap ≤ RULES_TICKETS

-- these pairs were found: all are counted, and kept while they aren't too many
pub record AreFound (found : Found) (pairs : List RulePair) : Type 0 where
  pub counted : found.count ≡ length pairs
  pub kept : length pairs ≤ MOST_PAIRS → found.pairs.items ≡ pairs
  pub within : All IsPair found.pairs.items

-- the pair at these places, where it is a candidate
abbrev pub candidate_at : VenueValue → ℕ → PaperRow → ℕ → ReviewerRow → List RulePair
candidate_at venue i paper j reviewer = if is_candidate venue paper reviewer then pair_of venue i paper j reviewer ∷ [] else []

-- the scores of a paper's pairs
abbrev pub scores_of : VenueValue → PaperRow → PaperScoresValue
scores_of venue paper = record { spec = venue.settings.spec; scores = venue.scores; paper = paper.id }
