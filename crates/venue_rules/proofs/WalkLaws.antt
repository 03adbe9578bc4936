-- Walking the places of the listed reviewers of a paper gives the paper's candidates.
use Rattle.std.proofs.Common.{◌≡◌, ℕ, suc, ◌+◌, ◌-◌, ◌<◌, ◌≤◌, ◌⊎◌, inl, inr, Bool, true, false, ◌&&◌, not, List, [], ◌∷◌, ◌++◌, length, get_or, drop, append_assoc, Some, None, refl, sym, ap, ap₂, ◌∙◌, subst, arith}
use Rattle.std.specs.Prelude.{◌↔◌, IsTrue, if◌then◌else◌, slice_get, slice_index}
use Rattle.std.specs.List.{Contains}
use Rattle.std.specs.List.Sorted.{IsStrictlyIncreasing}
use Rattle.std.specs.Option.{option_map_or}
use Rattle.std.proofs.lemmas.Bool.{cases_lt}
use Rattle.std.proofs.lemmas.List.{append-nil, drop_more}
use Rattle.std.proofs.lemmas.List.Elements.{Contains-get_or}
use Rattle.std.proofs.lemmas.Option.{slice_get_within}
use Rattle.match_rules.specs.declared.rules.RulePair.{RulePair}
use Rattle.roster.specs.declared.rows.PaperRow.{PaperRow}
use Rattle.roster.specs.declared.rows.ReviewerRow.{ReviewerRow}
use Rattle.venue_rules.specs.Candidates.{is_forbidden, is_listed, pair_of, pairs_of_paper}
use Rattle.venue_rules.specs.Found.{candidate_at}
use Rattle.venue_rules.specs.Listed.{is_listed_at, AreListed}
use Rattle.venue_rules.specs.Venues.{VenueValue}
use Rattle.venue_rules.proofs.FoundLaws.{drop-all, one-pair}
use Rattle.venue_rules.proofs.ListedLaws.{cons-cases, there, here, in_none, row-at}

-- ascending from j on
abbrev Rises : ℕ → List ℕ → Type 0
Rises j [] = Unit {0}
Rises j (p ∷ ps) = (j ≤ p) × Rises (p + 1) ps

rises : (j : ℕ) (ps : List ℕ) → (0 < length ps → j ≤ get_or ps 0 0) → IsStrictlyIncreasing ps → Rises j ps
rises j [] low up = tt
rises j (p ∷ ps) low up = (low (omega arith), rises (p + 1) ps (λ some. first some) rest)
  where
    first : 0 < length ps → p + 1 ≤ get_or ps 0 0
    first some = let next : p < get_or ps 0 0 = up 0 (omega arith) in omega arith

    rest : (k : ℕ) → k + 1 < length ps → slice_index ps k < slice_index ps (k + 1)
    rest k lt =
        let one : suc k + 1 ≡ suc (k + 1) = omega arith in
        subst (λ n. get_or ps k 0 < get_or (p ∷ ps) n 0) one (up (suc k) (omega arith))

from : (j : ℕ) (ps : List ℕ) (k : ℕ) → Rises j ps → Contains ps k → j ≤ k
from j [] k up has = absurd (in_none k has)
from j (p ∷ ps) k up has = on (cons-cases p ps k has) (λ later. from (p + 1) ps k up.1 later)
  where
    on : (p ≡ k) ⊎ Contains ps k → (Contains ps k → p + 1 ≤ k) → j ≤ k
    on (inl is) rest = omega (arith, up.0)
    on (inr later) rest = omega (arith, up.0, rest later)

few : (j n : ℕ) (ps : List ℕ) → Rises j ps → ((k : ℕ) → Contains ps k → k < n) → length ps ≤ n - j
few j n [] up below = omega arith
few j n (p ∷ ps) up below =
    let rest = few (p + 1) n ps up.1 (λ k has. below k (there p ps k has)) in
    let first = below p (here p ps) in
    omega (arith, up.0)

module _ (venue : VenueValue) (i : ℕ) (paper : PaperRow) where
  -- the candidates among the reviewers at these places
  abbrev pub pairs_at : List ℕ → List RulePair
  pairs_at [] = []
  pairs_at (j ∷ places) = option_map_or (candidate_at venue i paper j) (slice_get venue.reviewers j) [] ++ pairs_at places

  abbrev ListedFrom : ℕ → List ℕ → Type 0
  ListedFrom j places = (k : ℕ) → j ≤ k → Contains places k ↔ IsTrue (is_listed_at venue paper k)

  unlisted : (listed forbidden : Bool) (pair : RulePair) → listed ≡ false → [] ≡ (if listed && not forbidden then pair ∷ [] else [])
  unlisted true forbidden pair e = absurd cc
  unlisted false forbidden pair e = refl

  no-more : (j : ℕ) (places : List ℕ) → ((k : ℕ) → slice_get venue.reviewers (j + k) ≡ None) → Rises j places → ListedFrom j places → pairs_at places ≡ []
  no-more j [] none up listed = refl
  no-more j (p ∷ ps) none up listed =
      let there : j + (p - j) ≡ p = omega (arith, up.0) in
      let past : slice_get venue.reviewers p ≡ None = subst (λ k. slice_get venue.reviewers k ≡ None) there (none (p - j)) in
      let on_list = (listed p up.0).0 (here p ps) in
      let never : IsTrue false = subst (λ row. IsTrue (option_map_or (is_listed venue paper) row false)) past on_list in
      absurd cc

  step-listed : (j : ℕ) (row : ReviewerRow) (places : List ℕ) (rest : List RulePair) → slice_get venue.reviewers j ≡ Some row → is_listed venue paper row ≡ true → Rises j places → ListedFrom j places
      → ((ps : List ℕ) → Rises (j + 1) ps → ListedFrom (j + 1) ps → pairs_at ps ≡ rest) → pairs_at places ≡ candidate_at venue i paper j row ++ rest
  step-listed j row places rest at on_list up listed next = on places up listed ((listed j (omega arith)).1 (subst (λ found. IsTrue (option_map_or (is_listed venue paper) found false)) (sym at) on_list))
    where
      first : (p : ℕ) (ps : List ℕ) → Rises (p + 1) ps → j ≤ p → (p ≡ j) ⊎ Contains ps j → p ≡ j
      first p ps up le (inl is) = is
      first p ps up le (inr later) = absurd (omega (arith, from (p + 1) ps j up later))

      after : (p : ℕ) (ps : List ℕ) → p ≡ j → ListedFrom j (p ∷ ps) → ListedFrom (j + 1) ps
      after p ps is listed = λ k le. (
        λ has. (listed k (omega arith)).0 (there p ps k has),
        λ on_list. other k le (cons-cases p ps k ((listed k (omega arith)).1 on_list)),
      )
        where
          other : (k : ℕ) → j + 1 ≤ k → (p ≡ k) ⊎ Contains ps k → Contains ps k
          other k le (inl same) = absurd (omega arith)
          other k le (inr later) = later

      on : (places : List ℕ) → Rises j places → ListedFrom j places → Contains places j → pairs_at places ≡ candidate_at venue i paper j row ++ rest
      on [] up listed has = absurd (in_none j has)
      on (p ∷ ps) up listed has =
          let is : p ≡ j = first p ps up.1 up.0 (cons-cases p ps j has) in
          let here : option_map_or (candidate_at venue i paper p) (slice_get venue.reviewers p) [] ≡ candidate_at venue i paper j row =
          ap (λ k. option_map_or (candidate_at venue i paper k) (slice_get venue.reviewers k) []) is ∙ ap (λ found. option_map_or (candidate_at venue i paper j) found []) at in
          let later : pairs_at ps ≡ rest = next ps (subst (λ k. Rises (k + 1) ps) is up.1) (after p ps is listed) in
          ap₂ (λ xs ys. xs ++ ys) here later

  step-unlisted : (j : ℕ) (row : ReviewerRow) (places : List ℕ) (rest : List RulePair) → slice_get venue.reviewers j ≡ Some row → is_listed venue paper row ≡ false → Rises j places → ListedFrom j places
      → ((ps : List ℕ) → Rises (j + 1) ps → ListedFrom (j + 1) ps → pairs_at ps ≡ rest) → pairs_at places ≡ candidate_at venue i paper j row ++ rest
  step-unlisted j row places rest at off_list up listed next =
      next places (past places up listed) (λ k le. listed k (omega arith))
      ∙ ap (λ xs. xs ++ rest) (unlisted (is_listed venue paper row) (is_forbidden venue paper row) (pair_of venue i paper j row) off_list)
    where
      past : (places : List ℕ) → Rises j places → ListedFrom j places → Rises (j + 1) places
      past [] up listed = tt
      past (p ∷ ps) up listed = (above (cases_lt j p), up.1)
        where
          above : (j < p) ⊎ (p ≤ j) → j + 1 ≤ p
          above (inl lt) = omega arith
          above (inr le) =
              let is : p ≡ j = omega (arith, up.0) in
              let on_list = (listed j (omega arith)).0 (subst (λ k. Contains (p ∷ ps) k) is (here p ps)) in
              let stands : IsTrue (is_listed venue paper row) = subst (λ found. IsTrue (option_map_or (is_listed venue paper) found false)) at on_list in
              absurd (cc (stands, off_list))

  walk : (rows : List ReviewerRow) (j : ℕ) (places : List ℕ) → ((k : ℕ) → slice_get venue.reviewers (j + k) ≡ slice_get rows k) → Rises j places → ListedFrom j places → pairs_at places ≡ pairs_of_paper venue i paper j rows
  walk [] j places same up listed = no-more j places same up listed
  walk (row ∷ rows) j places same up listed =
      on (is_listed venue paper row) refl (λ ps. walk rows (j + 1) ps shifted) ∙ sym (one-pair venue i paper j row rows)
    where
      at : slice_get venue.reviewers j ≡ Some row
      at = let zeroed : j + 0 ≡ j = omega arith in subst (λ k. slice_get venue.reviewers k ≡ Some row) zeroed (same 0)

      shifted : (k : ℕ) → slice_get venue.reviewers ((j + 1) + k) ≡ slice_get rows k
      shifted k = let moved : j + suc k ≡ (j + 1) + k = omega arith in subst (λ n. slice_get venue.reviewers n ≡ slice_get rows k) moved (same (suc k))

      on : (b : Bool) → is_listed venue paper row ≡ b → ((ps : List ℕ) → Rises (j + 1) ps → ListedFrom (j + 1) ps → pairs_at ps ≡ pairs_of_paper venue i paper (j + 1) rows)
          → pairs_at places ≡ candidate_at venue i paper j row ++ pairs_of_paper venue i paper (j + 1) rows
      on true on_list next = step-listed j row places (pairs_of_paper venue i paper (j + 1) rows) at on_list up listed next
      on false off_list next = step-unlisted j row places (pairs_of_paper venue i paper (j + 1) rows) at off_list up listed next

  pub walk-listed : (places : List ℕ) → AreListed venue paper places → pairs_at places ≡ pairs_of_paper venue i paper 0 venue.reviewers
  walk-listed places are = walk venue.reviewers 0 places (λ k. let zeroed : 0 + k ≡ k = omega arith in ap (slice_get venue.reviewers) zeroed) (rises 0 places (λ some. omega arith) are.ascend) (λ k le. are.listed k)

  -- what a walk needs at each place, and one turn of it

  pub below-place : (p : ℕ) → IsTrue (is_listed_at venue paper p) → p < length venue.reviewers
  below-place p on_list = let found = row-at venue paper p on_list in slice_get_within venue.reviewers p found.0 found.1

  pub few-places : (places : List ℕ) → AreListed venue paper places → length places ≤ length venue.reviewers
  few-places places are =
      let all = few 0 (length venue.reviewers) places (rises 0 places (λ some. omega arith) are.ascend) (λ k has. below-place k ((are.listed k).0 has)) in
      omega arith

  pub at-place : (places : List ℕ) (n : ℕ) → AreListed venue paper places → n < length places → IsTrue (is_listed_at venue paper (get_or places n 0))
  at-place places n are lt = (are.listed (get_or places n 0)).0 (Contains-get_or places n 0 lt)

  pub listed-row : (p : ℕ) (row : ReviewerRow) → IsTrue (is_listed_at venue paper p) → slice_get venue.reviewers p ≡ Some row → IsTrue (is_listed venue paper row)
  listed-row p row on_list at = subst (λ found. IsTrue (option_map_or (is_listed venue paper) found false)) at on_list

  pub walk-turn : (places : List ℕ) (n : ℕ) (row : ReviewerRow) (done whole : List RulePair) → n < length places → slice_get venue.reviewers (get_or places n 0) ≡ Some row
      → done ++ pairs_at (drop n places) ≡ whole → (done ++ candidate_at venue i paper (get_or places n 0) row) ++ pairs_at (drop (n + 1) places) ≡ whole
  walk-turn places n row done whole lt at so_far =
      let p = get_or places n 0 in
      append_assoc done (candidate_at venue i paper p row) (pairs_at (drop (n + 1) places))
      ∙ ap (λ found. done ++ (option_map_or (candidate_at venue i paper p) found [] ++ pairs_at (drop (n + 1) places))) (sym at)
      ∙ ap (λ ps. done ++ pairs_at ps) (sym (drop_more places n 0 lt))
      ∙ so_far

  pub walk-done : (places : List ℕ) (n : ℕ) (done pairs : List RulePair) → AreListed venue paper places → length places ≤ n → done ++ pairs_at (drop n places) ≡ pairs ++ pairs_at places
      → done ≡ pairs ++ pairs_of_paper venue i paper 0 venue.reviewers
  walk-done places n done pairs are le so_far =
      sym (append-nil done) ∙ ap (λ ps. done ++ pairs_at ps) (sym (drop-all places n le)) ∙ so_far ∙ ap (λ ps. pairs ++ ps) (walk-listed places are)
