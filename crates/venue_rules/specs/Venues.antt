-- Venues: what a conference has handed in, as settings and six finite maps.
use Rattle.std.specs.Prelude.{ℕ, Bool, ◌≤◌, List, [], All, Option, Some, None, ℤ, pos, ◌≤ℤ◌}
use Rattle.std.specs.Option.{option_map_or}
use Rattle.match_rules.specs.declared.rules.TheConstants.{RULES_TICKETS}
use Rattle.roster.specs.declared.rows.PaperRow.{PaperRow}
use Rattle.roster.specs.declared.rows.ReviewerRow.{ReviewerRow}
use Rattle.score_spec.specs.PairTables.{PairsValue, value_of_pair}
use Rattle.score_spec.specs.Scores.{ScoresValue, no_scores, has_values, of_sources}
use Rattle.bid_import.specs.Settings.{SettingsValue, default_settings}

-- settings, and the tables of papers, reviewers, values and bids, marks and caps
pub record VenueValue : Type 0 where
  pub settings : SettingsValue
  pub papers : List PaperRow
  pub reviewers : List ReviewerRow
  pub scores : ScoresValue
  pub marks : PairsValue ℤ
  pub caps : PairsValue ℤ

abbrev pub paper_key : PaperRow → List ℕ
paper_key row = row.id

abbrev pub reviewer_key : ReviewerRow → List ℕ
reviewer_key row = row.id

-- the mark of a pair, 0 where it has none
abbrev pub mark_of : VenueValue → List ℕ → List ℕ → ℤ
mark_of venue paper reviewer = option_map_or (λ mark. mark) (value_of_pair venue.marks paper reviewer) (pos 0)

-- the cap of a pair in ten-thousandths: that of its row, else that of the settings
abbrev pub cap_of : VenueValue → List ℕ → List ℕ → ℤ
cap_of venue paper reviewer = option_map_or (λ cap. cap) (value_of_pair venue.caps paper reviewer) venue.settings.cap

-- a source of this name has its values in a table
abbrev pub is_values_source : SettingsValue → List ℕ → Bool
is_values_source settings name = has_values settings.spec.sources name

-- new settings drop the tables of values of sources that have none any more
abbrev pub with_settings : VenueValue → SettingsValue → VenueValue
with_settings venue settings = record venue { settings = settings; scores = of_sources settings.spec.sources venue.scores }

-- a venue into which nothing was handed
abbrev pub empty_venue : VenueValue
empty_venue = record {
  settings = default_settings;
  papers = [];
  reviewers = [];
  scores = no_scores;
  marks = [];
  caps = [];
}

abbrev pub IsDemand : Option ℕ → Type 0
IsDemand None = Unit {0}
IsDemand (Some demand) = demand ≤ 100

abbrev pub IsCap : ℤ → Type 0
IsCap cap = (pos 0 ≤ℤ cap) × (cap ≤ℤ pos RULES_TICKETS)

-- the limits of single rows, which the readers of the tables keep
pub record KeepsLimits (venue : VenueValue) : Type 0 where
  pub demands : All (λ (paper : PaperRow). IsDemand paper.demand) venue.papers
  pub caps : All (λ paper. All (λ entry. IsCap entry.value) paper.value) venue.caps
