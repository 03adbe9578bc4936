-- The candidate pairs of a venue strictly ascend, and their places are those of its rows.
use Rattle.std.proofs.Common.{◌≡◌, ℕ, zero, suc, ◌+◌, ◌<◌, ◌≤◌, inl, inr, Bool, true, false, List, [], ◌∷◌, ◌++◌, length, get_or, All, refl, sym, ◌∙◌, arith}
use Rattle.std.specs.Prelude.{if◌then◌else◌}
use Rattle.match_rules.specs.declared.rules.RulePair.{RulePair}
use Rattle.match_rules.specs.declared.rules.TheConstants.{RULES_TICKETS}
use Rattle.match_rules.specs.Rules.{ArePairs, IsPairBefore, no_pair}
use Rattle.roster.specs.declared.rows.PaperRow.{PaperRow}
use Rattle.roster.specs.declared.rows.ReviewerRow.{ReviewerRow}
use Rattle.venue_rules.specs.Candidates.{is_candidate, pair_of, pairs_of_paper, pairs_from, candidates}
use Rattle.venue_rules.specs.Found.{IsPair}
use Rattle.venue_rules.specs.Venues.{VenueValue}

abbrev Each : (RulePair → Type 0) → List RulePair → Type 0
Each P [] = Unit {0}
Each P (p ∷ ps) = P p × Each P ps

each-weaker : (P Q : RulePair → Type 0) → ((p : RulePair) → P p → Q p) → (ps : List RulePair) → Each P ps → Each Q ps
each-weaker P Q h [] each = tt
each-weaker P Q h (p ∷ ps) each = (h p each.0, each-weaker P Q h ps each.1)

each-append : (P : RulePair → Type 0) (ps qs : List RulePair) → Each P ps → Each P qs → Each P (ps ++ qs)
each-append P [] qs first second = second
each-append P (p ∷ ps) qs first second = (first.0, each-append P ps qs first.1 second)

each-all : (P : RulePair → Type 0) (ps : List RulePair) → Each P ps → (e : ℕ) (d : RulePair) → e < length ps → P (get_or ps e d)
each-all P [] each e d lt = absurd (omega arith)
each-all P (p ∷ ps) each zero d lt = each.0
each-all P (p ∷ ps) each (suc e) d lt = each-all P ps each.1 e d (omega arith)

-- of paper i, with reviewers from place j to n
record IsOfRow (i j n : ℕ) (pair : RulePair) : Type 0 where
  pub paper : pair.paper ≡ i
  pub low : j ≤ pair.reviewer
  pub high : pair.reviewer < n

-- of papers from place i to m, with reviewers to n
record IsOfRows (i m n : ℕ) (pair : RulePair) : Type 0 where
  pub low : i ≤ pair.paper
  pub high : pair.paper < m
  pub reviewer : pair.reviewer < n

-- places

of-paper : (venue : VenueValue) (i : ℕ) (paper : PaperRow) (j : ℕ) (rows : List ReviewerRow) → Each (IsOfRow i j (j + length rows)) (pairs_of_paper venue i paper j rows)
of-paper venue i paper j [] = tt
of-paper venue i paper j (row ∷ rows) = on (is_candidate venue paper row) (on_rest (of-paper venue i paper (j + 1) rows))
  where
    pairs : List RulePair
    pairs = pairs_of_paper venue i paper (j + 1) rows

    on_rest : Each (IsOfRow i (j + 1) (j + 1 + length rows)) pairs → Each (IsOfRow i j (j + length (row ∷ rows))) pairs
    on_rest each = each-weaker (IsOfRow i (j + 1) (j + 1 + length rows)) (IsOfRow i j (j + length (row ∷ rows))) (λ p is. record { paper = is.paper; low = omega (arith, is.low); high = omega (arith, is.high) }) pairs each

    on : (b : Bool) → Each (IsOfRow i j (j + length (row ∷ rows))) pairs → Each (IsOfRow i j (j + length (row ∷ rows))) (if b then pair_of venue i paper j row ∷ pairs else pairs)
    on true rest = (record { paper = refl; low = omega arith; high = omega arith }, rest)
    on false rest = rest

of-venue : (venue : VenueValue) (i : ℕ) (rows : List PaperRow) → Each (IsOfRows i (i + length rows) (length venue.reviewers)) (pairs_from venue i rows)
of-venue venue i [] = tt
of-venue venue i (row ∷ rows) =
    let n = length venue.reviewers in
    let P = IsOfRows i (i + length (row ∷ rows)) n in
    each-append P (pairs_of_paper venue i row 0 venue.reviewers) (pairs_from venue (i + 1) rows)
    (each-weaker (IsOfRow i 0 (0 + n)) P (λ p is. record { low = omega (arith, is.paper); high = omega (arith, is.paper); reviewer = omega (arith, is.high) }) (pairs_of_paper venue i row 0 venue.reviewers) (of-paper venue i row 0 venue.reviewers))
    (each-weaker (IsOfRows (i + 1) (i + 1 + length rows) n) P (λ p is. record { low = omega (arith, is.low); high = omega (arith, is.high); reviewer = is.reviewer }) (pairs_from venue (i + 1) rows) (of-venue venue (i + 1) rows))

-- order

abbrev Follows : RulePair → List RulePair → Type 0
Follows p [] = Unit {0}
Follows p (q ∷ qs) = IsPairBefore p q

abbrev Rise : List RulePair → Type 0
Rise [] = Unit {0}
Rise (p ∷ ps) = Follows p ps × Rise ps

follows-row : (i j n : ℕ) (p : RulePair) (ps : List RulePair) → p.paper ≡ i → p.reviewer ≡ j → Each (IsOfRow i (j + 1) n) ps → Follows p ps
follows-row i j n p [] paper reviewer each = tt
follows-row i j n p (q ∷ qs) paper reviewer each = let is = each.0 in inr (paper ∙ sym is.paper, omega (arith, is.low))

rise-paper : (venue : VenueValue) (i : ℕ) (paper : PaperRow) (j : ℕ) (rows : List ReviewerRow) → Rise (pairs_of_paper venue i paper j rows)
rise-paper venue i paper j [] = tt
rise-paper venue i paper j (row ∷ rows) = on (is_candidate venue paper row) (rise-paper venue i paper (j + 1) rows)
  where
    pairs : List RulePair
    pairs = pairs_of_paper venue i paper (j + 1) rows

    on : (b : Bool) → Rise pairs → Rise (if b then pair_of venue i paper j row ∷ pairs else pairs)
    on true rest = (follows-row i j (j + 1 + length rows) (pair_of venue i paper j row) pairs refl refl (of-paper venue i paper (j + 1) rows), rest)
    on false rest = rest

rise-append : (i m n : ℕ) (ps qs : List RulePair) → Rise ps → Rise qs → Each (λ p. p.paper ≡ i) ps → Each (IsOfRows (i + 1) m n) qs → Rise (ps ++ qs)
rise-append i m n [] qs first second of_first of_second = second
rise-append i m n (p ∷ ps) qs first second of_first of_second = (follows ps qs first.0 of_second, rise-append i m n ps qs first.1 second of_first.1 of_second)
  where
    follows : (ps qs : List RulePair) → Follows p ps → Each (IsOfRows (i + 1) m n) qs → Follows p (ps ++ qs)
    follows [] [] before each = tt
    follows [] (q ∷ qs) before each = let is = each.0 in inl (omega (arith, is.low, of_first.0))
    follows (next ∷ ps) qs before each = before

rise-venue : (venue : VenueValue) (i : ℕ) (rows : List PaperRow) → Rise (pairs_from venue i rows)
rise-venue venue i [] = tt
rise-venue venue i (row ∷ rows) =
    let n = length venue.reviewers in
    let first = pairs_of_paper venue i row 0 venue.reviewers in
    rise-append i (i + 1 + length rows) n first (pairs_from venue (i + 1) rows) (rise-paper venue i row 0 venue.reviewers) (rise-venue venue (i + 1) rows)
    (each-weaker (IsOfRow i 0 (0 + n)) (λ p. p.paper ≡ i) (λ p is. is.paper) first (of-paper venue i row 0 venue.reviewers))
    (of-venue venue (i + 1) rows)

rise-at : (ps : List RulePair) → Rise ps → (e : ℕ) (d : RulePair) → e + 1 < length ps → IsPairBefore (get_or ps e d) (get_or ps (e + 1) d)
rise-at [] rise e d lt = absurd (omega arith)
rise-at (p ∷ []) rise e d lt = absurd (omega arith)
rise-at (p ∷ q ∷ ps) rise zero d lt = rise.0
rise-at (p ∷ q ∷ ps) rise (suc e) d lt =
    let one : suc e + 1 ≡ suc (e + 1) = omega arith in
    rw one (rise-at (q ∷ ps) rise.1 e d (omega arith))

pub are-pairs : (venue : VenueValue) (papers reviewers : ℕ) → papers ≡ length venue.papers → reviewers ≡ length venue.reviewers
    → length (candidates venue) ≤ 250000 → All IsPair (candidates venue) → ArePairs RULES_TICKETS papers reviewers (candidates venue)
unfolding candidates
are-pairs venue papers reviewers m n few within =
    let pairs = pairs_from venue 0 venue.papers in
    record {
      few = few;
      each = λ e lt.
          let place = each-all (IsOfRows 0 (0 + length venue.papers) (length venue.reviewers)) pairs (of-venue venue 0 venue.papers) e no_pair lt in
          let good = within e no_pair lt in
          record {
            paper = omega (arith, place.high);
            reviewer = omega (arith, place.reviewer);
            low = good.low;
            high = good.high;
            whole = good.whole;
            ordered = good.ordered;
            within = good.within;
          };
      ascending = λ e lt. rise-at pairs (rise-venue venue 0 venue.papers) e no_pair lt;
    }
