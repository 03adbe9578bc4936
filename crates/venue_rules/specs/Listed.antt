-- The reviewers that are listed for a paper, by their places in the table of reviewers.
use Rattle.std.specs.Prelude.{ℕ, Bool, false, ◌↔◌, IsTrue, List, [], ◌∷◌, ◌++◌, slice_get, ℤ, pos}
use Rattle.std.specs.List.{Contains, filter}
use Rattle.std.specs.List.Sorted.{IsStrictlyIncreasing}
use Rattle.std.specs.Option.{option_map_or}
use Rattle.std.specs.Ordering.{int_eq}
use Rattle.roster.specs.Table.{place_of}
use Rattle.roster.specs.declared.rows.PaperRow.{PaperRow}
use Rattle.roster.specs.declared.rows.ReviewerRow.{ReviewerRow}
use Rattle.score_spec.specs.PairTables.{Entry, Entries, PairsValue, reviewers_of}
use Rattle.venue_rules.specs.Candidates.{is_listed}
use Rattle.venue_rules.specs.Venues.{VenueValue, reviewer_key}

-- a reviewer stands at this place, and is listed for the paper
abbrev pub is_listed_at : VenueValue → PaperRow → ℕ → Bool
is_listed_at venue paper j = option_map_or (is_listed venue paper) (slice_get venue.reviewers j) false

-- the places of exactly the listed reviewers, in ascending order
pub record AreListed (venue : VenueValue) (paper : PaperRow) (places : List ℕ) : Type 0 where
  pub ascend : IsStrictlyIncreasing places
  pub listed : (j : ℕ) → Contains places j ↔ IsTrue (is_listed_at venue paper j)

-- the place of the reviewer who has the id: none, where the id is unknown
abbrev pub place_with : List ReviewerRow → List ℕ → List ℕ
place_with reviewers id = option_map_or (λ place. place ∷ []) (place_of reviewer_key id reviewers) []

-- the places of the known reviewers that have an entry
abbrev pub places_in : {V : Type 0} → List ReviewerRow → Entries V → List ℕ
places_in reviewers [] = []
places_in reviewers (entry ∷ entries) = place_with reviewers entry.id ++ places_in reviewers entries

-- so by each table of values
abbrev pub places_by : List ReviewerRow → Entries (PairsValue ℤ) → List ℕ → List ℕ
places_by reviewers [] paper = []
places_by reviewers (table ∷ tables) paper = places_in reviewers (reviewers_of table.value paper) ++ places_by reviewers tables paper

abbrev pub is_lock : Entry ℤ → Bool
is_lock mark = int_eq mark.value (pos 1)

-- the places that the rows of a paper name: by values, by bids and by marks of 1
abbrev pub row_places : VenueValue → List ℕ → List ℕ
row_places venue paper =
    places_by venue.reviewers venue.scores.values paper ++ places_in venue.reviewers (reviewers_of venue.scores.bids paper) ++ places_in venue.reviewers (filter is_lock (reviewers_of venue.marks paper))
