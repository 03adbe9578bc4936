-- The rules of a venue, or the first limit that they pass.
use Rattle.std.specs.Prelude.{ℕ, ◌+◌, Bool, false, ◌&&◌, nat_lt, if◌then◌else◌, List, [], ◌∷◌, length, map, Option, Some, None, Result, Ok, Err, ℤ, pos}
use Rattle.std.specs.Option.{option_map_or}
use Rattle.std.specs.Ordering.{int_eq}
use Rattle.match_rules.specs.declared.rules.RulePaper.{RulePaper}
use Rattle.match_rules.specs.declared.rules.RuleReviewer.{RuleReviewer}
use Rattle.match_rules.specs.Rules.{RulesValue, rules_value}
use Rattle.roster.specs.Loads.{LoadValue}
use Rattle.roster.specs.Table.{row_of}
use Rattle.roster.specs.declared.rows.PaperRow.{PaperRow}
use Rattle.roster.specs.declared.rows.ReviewerRow.{ReviewerRow}
use Rattle.score_spec.specs.PairTables.{PairsValue, Entry}
use Rattle.venue_rules.specs.declared.fault.LimitFault.{LimitFault}
use Rattle.venue_rules.specs.declared.fault.LimitFault.TheVariants.{TooMuchDemand, LockForbidden, TooManyPairs}
use Rattle.match_rules.specs.declared.rules.TheConstants.{MOST_DEMAND_IN_ALL, MOST_PAIRS, RULES_TICKETS}
use Rattle.venue_rules.specs.Venues.{VenueValue, paper_key, reviewer_key}
use Rattle.venue_rules.specs.Candidates.{do_share, candidates}

-- a demand or a load that isn't given is that of the settings
abbrev pub demand_of : VenueValue → PaperRow → ℕ
demand_of venue paper = option_map_or (λ demand. demand) paper.demand venue.settings.demand

abbrev pub load_of : VenueValue → ReviewerRow → LoadValue
load_of venue reviewer = option_map_or (λ load. load) reviewer.load venue.settings.load

abbrev pub rule_paper : VenueValue → PaperRow → RulePaper
rule_paper venue paper = record { id = paper.id; demand = demand_of venue paper }

abbrev pub rule_reviewer : VenueValue → ReviewerRow → RuleReviewer
rule_reviewer venue reviewer = record {
  id = reviewer.id;
  institution = reviewer.institution;
  least = (load_of venue reviewer).least;
  greatest = (load_of venue reviewer).greatest;
}

-- the reviewers that the papers need in all
abbrev pub demand_sum : VenueValue → List PaperRow → ℕ
demand_sum venue [] = 0
demand_sum venue (paper ∷ papers) = demand_of venue paper + demand_sum venue papers

-- both are there, and share an institution
abbrev pub are_in_conflict : Option PaperRow → Option ReviewerRow → Bool
are_in_conflict None reviewer = false
are_in_conflict (Some paper) None = false
are_in_conflict (Some paper) (Some reviewer) = do_share paper reviewer

-- a mark of 1 for a paper and a reviewer of the tables that share an institution
abbrev pub is_forbidden_lock : VenueValue → List ℕ → List ℕ → ℤ → Bool
is_forbidden_lock venue paper reviewer mark =
    int_eq mark (pos 1) && are_in_conflict (row_of paper_key paper venue.papers) (row_of reviewer_key reviewer venue.reviewers)

abbrev pub forbidden_in_row : VenueValue → List ℕ → List (Entry ℤ) → Option (List ℕ × List ℕ)
forbidden_in_row venue paper [] = None
forbidden_in_row venue paper (entry ∷ entries) =
    if is_forbidden_lock venue paper entry.id entry.value then Some (paper, entry.id) else forbidden_in_row venue paper entries

abbrev pub or_else : {A : Type 0} → Option A → Option A → Option A
or_else (Some x) other = Some x
or_else None other = other

-- the first forbidden lock in the order of the marks: by paper, and then reviewer
abbrev pub forbidden_in : VenueValue → PairsValue ℤ → Option (List ℕ × List ℕ)
forbidden_in venue [] = None
forbidden_in venue (row ∷ rows) = or_else (forbidden_in_row venue row.id row.value) (forbidden_in venue rows)

abbrev pub made_rules : VenueValue → RulesValue
made_rules venue = rules_value RULES_TICKETS venue.settings.limit (map (rule_paper venue) venue.papers) (map (rule_reviewer venue) venue.reviewers) (candidates venue)

-- the rules, where the pairs aren't too many
abbrev pub if_few_pairs : VenueValue → Result RulesValue LimitFault
if_few_pairs venue = if nat_lt MOST_PAIRS (length (candidates venue)) then Err (TooManyPairs (length (candidates venue))) else Ok (made_rules venue)

abbrev pub if_no_lock : VenueValue → Option (List ℕ × List ℕ) → Result RulesValue LimitFault
if_no_lock venue None = if_few_pairs venue
if_no_lock venue (Some pair) = Err (LockForbidden pair.0 pair.1)

-- the rules of a venue: too much demand is refused first, then a forbidden lock, then too many pairs
unfoldable pub rules_of : VenueValue → Result RulesValue LimitFault
rules_of venue =
    if nat_lt MOST_DEMAND_IN_ALL (demand_sum venue venue.papers) then Err (TooMuchDemand (demand_sum venue venue.papers)) else if_no_lock venue (forbidden_in venue venue.marks)
