-- The rows of a forbidden lock have its ids.
use Rattle.std.proofs.Common.{◌≡◌, ℕ, Bool, true, false, List, [], ◌∷◌, Option, Some, ℤ, pos, refl, sym, ap, ap₂, ◌∙◌}
use Rattle.std.specs.Prelude.{if◌then◌else◌}
use Rattle.std.specs.Ordering.{is_eq}
use Rattle.roster.specs.Table.{id_cmp, row_of}
use Rattle.roster.specs.declared.rows.PaperRow.{PaperRow}
use Rattle.roster.specs.declared.rows.ReviewerRow.{ReviewerRow}
use Rattle.score_spec.specs.declared.union.PairKey.{PairKey}
use Rattle.venue_rules.specs.Candidates.{do_share}
use Rattle.venue_rules.specs.Parts.{lock_at}
use Rattle.venue_rules.specs.Venues.{VenueValue, paper_key, reviewer_key}
use Rattle.score_spec.proofs.PairTables.{equal_same}

row-id : {R : Type 0} (key : R → List ℕ) (id : List ℕ) (rows : List R) (row : R) → row_of key id rows ≡ Some row → key row ≡ id
row-id key id [] row found = absurd cc
row-id {R} key id (r ∷ rows) row found = on (is_eq (id_cmp (key r) id)) refl (row_of key id rows) (row-id key id rows row) found
  where
    on : (b : Bool) → is_eq (id_cmp (key r) id) ≡ b → (rest : Option R) → (rest ≡ Some row → key row ≡ id) → (if b then Some r else rest) ≡ Some row → key row ≡ id
    on true e rest later found = let here : r ≡ row = cc in sym (ap key here) ∙ equal_same (key r) id e
    on false e rest later found = later found

abbrev pub lock_with : List ℕ → List ℕ → Option PairKey
lock_with paper reviewer = Some (record { paper = paper; reviewer = reviewer })

pub locked : (venue : VenueValue) (paper reviewer : List ℕ) (mark : ℤ) (p : PaperRow) (r : ReviewerRow)
    → mark ≡ pos 1 → row_of paper_key paper venue.papers ≡ Some p → row_of reviewer_key reviewer venue.reviewers ≡ Some r → do_share p r ≡ true
    → lock_with p.id r.id ≡ lock_at venue paper reviewer mark
locked venue paper reviewer mark p r one papers reviewers share =
    rw (one, papers, reviewers, share) (ap₂ lock_with (row-id paper_key paper venue.papers p papers) (row-id reviewer_key reviewer venue.reviewers r reviewers))
