-- Pairs found one after another, and papers.
use Rattle.std.proofs.Common.{◌≡◌, ℕ, zero, suc, ◌+◌, ◌<◌, ◌≤◌, Bool, true, false, List, [], ◌∷◌, ◌++◌, length, get_or, drop, append_assoc, refl, sym, ap, ◌∙◌, arith}
use Rattle.std.specs.Prelude.{if◌then◌else◌}
use Rattle.std.proofs.lemmas.List.{drop_more, append-nil}
use Rattle.match_rules.specs.declared.rules.RulePair.{RulePair}
use Rattle.roster.specs.declared.rows.PaperRow.{PaperRow}
use Rattle.roster.specs.declared.rows.ReviewerRow.{ReviewerRow}
use Rattle.venue_rules.specs.Candidates.{is_candidate, pair_of, pairs_of_paper, pairs_from}
use Rattle.venue_rules.specs.Found.{candidate_at}
use Rattle.venue_rules.specs.Venues.{VenueValue}

next_row : {A : Type 0} (rows : List A) (j : ℕ) (row : A) → j < length rows → row ≡ get_or rows j row → drop j rows ≡ row ∷ drop (j + 1) rows
next_row rows j row lt is = drop_more rows j row lt ∙ ap (λ r. r ∷ drop (j + 1) rows) (sym is)

pub one-pair : (venue : VenueValue) (i : ℕ) (paper : PaperRow) (j : ℕ) (row : ReviewerRow) (rows : List ReviewerRow) → pairs_of_paper venue i paper j (row ∷ rows) ≡ candidate_at venue i paper j row ++ pairs_of_paper venue i paper (j + 1) rows
one-pair venue i paper j row rows = on (is_candidate venue paper row) (pair_of venue i paper j row) (pairs_of_paper venue i paper (j + 1) rows)
  where
    on : (b : Bool) (p : RulePair) (rest : List RulePair) → (if b then p ∷ rest else rest) ≡ (if b then p ∷ [] else []) ++ rest
    on true p rest = refl
    on false p rest = refl

pub paper-turn : (venue : VenueValue) (i : ℕ) (row : PaperRow) (rows : List PaperRow) (done whole : List RulePair) → i < length rows → row ≡ get_or rows i row
    → done ++ pairs_from venue i (drop i rows) ≡ whole → (done ++ pairs_of_paper venue i row 0 venue.reviewers) ++ pairs_from venue (i + 1) (drop (i + 1) rows) ≡ whole
paper-turn venue i row rows done whole lt is so_far =
    append_assoc done (pairs_of_paper venue i row 0 venue.reviewers) (pairs_from venue (i + 1) (drop (i + 1) rows))
    ∙ ap (λ rs. done ++ pairs_from venue i rs) (sym (next_row rows i row lt is))
    ∙ so_far

pub drop-all : {A : Type 0} (rows : List A) (i : ℕ) → length rows ≤ i → drop i rows ≡ []
drop-all [] zero le = refl
drop-all [] (suc i) le = refl
drop-all (row ∷ rows) zero le = absurd (omega arith)
drop-all (row ∷ rows) (suc i) le = drop-all rows i (omega arith)

pub papers-done : (venue : VenueValue) (i : ℕ) (rows : List PaperRow) (done whole : List RulePair) → length rows ≤ i → done ++ pairs_from venue i (drop i rows) ≡ whole → done ≡ whole
papers-done venue i rows done whole le so_far = sym (append-nil done) ∙ ap (λ rs. done ++ pairs_from venue i rs) (sym (drop-all rows i le)) ∙ so_far
