-- The papers and reviewers of rules, and the locks that are forbidden.
use Rattle.std.specs.Prelude.{◌≡◌, ℕ, ◌≤◌, true, if◌then◌else◌, List, Option, Some, None, IfSome, Result, Ok, Err, ℤ, ⊤}
use Rattle.match_rules.specs.Id.{is_id, is_institution}
use Rattle.match_rules.specs.Rules.{RulesValue}
use Rattle.roster.specs.declared.load.TheConstants.{MOST_LOAD}
use Rattle.roster.specs.declared.rows.PaperRow.{PaperRow}
use Rattle.roster.specs.declared.rows.ReviewerRow.{ReviewerRow}
use Rattle.score_spec.specs.declared.union.PairKey.{PairKey}
use Rattle.venue_rules.specs.declared.fault.LimitFault.{LimitFault}
use Rattle.venue_rules.specs.declared.fault.VenueFault.{VenueFault}
use Rattle.venue_rules.specs.declared.fault.VenueFault.TheVariants.{Memory, Limit}
use Rattle.venue_rules.specs.Venues.{VenueValue}
use Rattle.venue_rules.specs.VenueRules.{demand_of, load_of, is_forbidden_lock}

abbrev pub lock_of : List ℕ × List ℕ → PairKey
lock_of pair = record { paper = pair.0; reviewer = pair.1 }

-- the paper and the reviewer, where the mark locks them though they share an institution
abbrev pub lock_at : VenueValue → List ℕ → List ℕ → ℤ → Option PairKey
lock_at venue paper reviewer mark = if is_forbidden_lock venue paper reviewer mark then Some (record { paper = paper; reviewer = reviewer }) else None

-- a row that rules may have as a paper
pub record IsPaper (venue : VenueValue) (paper : PaperRow) : Type 0 where
  pub id : is_id paper.id ≡ true
  pub demand : demand_of venue paper ≤ 100

-- a row that rules may have as a reviewer
pub record IsReviewer (venue : VenueValue) (reviewer : ReviewerRow) : Type 0 where
  pub id : is_id reviewer.id ≡ true
  pub institution : IfSome reviewer.institution (λ name. is_institution name ≡ true)
  pub rises : (load_of venue reviewer).least ≤ (load_of venue reviewer).greatest
  pub few : (load_of venue reviewer).greatest ≤ MOST_LOAD

-- these rules, or the limit that they pass; or memory was wanting
abbrev pub AnswersRules : Result RulesValue VenueFault → Result RulesValue LimitFault → Type 0
AnswersRules (Ok rules) said = said ≡ Ok rules
AnswersRules (Err Memory) said = ⊤
AnswersRules (Err (Limit fault)) said = said ≡ Err fault
