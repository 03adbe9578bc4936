-- The rules that are made of a venue keep the conditions of rules.
use Rattle.std.proofs.Common.{◌≡◌, ℕ, zero, suc, ◌+◌, ◌<◌, ◌≤◌, true, List, [], ◌∷◌, length, get_or, map, All, Option, Some, None, IfSome, refl, ap, ◌∙◌, subst, arith}
use Rattle.std.specs.declared.cmp.Ordering.TheVariants.{Less}
use Rattle.std.proofs.lemmas.List.{length-map}
use Rattle.std.proofs.lemmas.List.Elements.{All-map, All-weaker}
use Rattle.match_rules.specs.declared.rules.RulePaper.{RulePaper}
use Rattle.match_rules.specs.declared.rules.RuleReviewer.{RuleReviewer}
use Rattle.match_rules.specs.Id.{is_id, is_institution}
use Rattle.match_rules.specs.Rules.{IsLimit, ArePapers, AreReviewers, AreRules, demand_total, paper_in, no_paper, no_reviewer}
use Rattle.match_rules.specs.Sums.{count_below}
use Rattle.roster.specs.Table.{id_cmp, Ascend}
use Rattle.roster.specs.declared.rows.PaperRow.{PaperRow}
use Rattle.venue_rules.specs.Candidates.{candidates}
use Rattle.venue_rules.specs.Found.{IsPair}
use Rattle.venue_rules.specs.Parts.{IsPaper, IsReviewer}
use Rattle.venue_rules.specs.Venues.{VenueValue, paper_key, reviewer_key}
use Rattle.venue_rules.specs.VenueRules.{demand_of, demand_sum, rule_paper, rule_reviewer, made_rules}
use Rattle.venue_rules.proofs.PairLaws.{are-pairs}

-- ids of rows that are made of ascending ones ascend

ascend-at : {R S : Type 0} (key : R → List ℕ) (f : R → S) (id : S → List ℕ) → ((row : R) → id (f row) ≡ key row) → (rows : List R) → Ascend key rows
    → (k : ℕ) (d : S) → k + 1 < length (map f rows) → id_cmp (id (get_or (map f rows) k d)) (id (get_or (map f rows) (k + 1) d)) ≡ Less
ascend-at key f id same [] up k d lt = absurd (omega arith)
ascend-at key f id same (row ∷ []) up k d lt = absurd (omega arith)
ascend-at key f id same (row ∷ next ∷ rows) up zero d lt = let a = same row in let b = same next in rw (a, b) up.0.0
ascend-at key f id same (row ∷ next ∷ rows) up (suc k) d lt =
    let one : suc k + 1 ≡ suc (k + 1) = omega arith in
    rw one (ascend-at key f id same (next ∷ rows) up.1 k d (omega arith))

-- demands from the first on

count_below-first : (n : ℕ) (f : ℕ → ℕ) → count_below (suc n) f ≡ f 0 + count_below n (λ k. f (suc k))
count_below-first zero f = omega arith
count_below-first (suc n) f = let rest = count_below-first n f in omega (arith, rest)

demands : (venue : VenueValue) (rows : List PaperRow) → demand_total (map (rule_paper venue) rows) ≡ demand_sum venue rows
demands venue [] = refl
demands venue (row ∷ rows) =
    let first = count_below-first (length (map (rule_paper venue) rows)) (λ p. (paper_in (map (rule_paper venue) (row ∷ rows)) p).demand) in
    first ∙ ap (λ n. demand_of venue row + n) (demands venue rows)

-- papers and reviewers

are-papers : (venue : VenueValue) → length venue.papers ≤ 1500 → Ascend paper_key venue.papers → All (IsPaper venue) venue.papers → demand_sum venue venue.papers ≤ 4500
    → ArePapers (map (rule_paper venue) venue.papers)
are-papers venue few up good sum =
    let rows = venue.papers in
    let made = map (rule_paper venue) rows in
    record {
      few = omega (arith, length-map rows (rule_paper venue));
      ids = λ p lt. All-map (λ (paper : RulePaper). is_id paper.id ≡ true) (rule_paper venue) rows (All-weaker (IsPaper venue) (λ row. is_id row.id ≡ true) (λ row is. is.id) rows good) p no_paper lt;
      ascending = λ p lt. ascend-at paper_key (rule_paper venue) (λ (paper : RulePaper). paper.id) (λ row. refl) rows up p no_paper lt;
      demands = λ p lt. All-map (λ (paper : RulePaper). paper.demand ≤ 100) (rule_paper venue) rows (All-weaker (IsPaper venue) (λ row. demand_of venue row ≤ 100) (λ row is. is.demand) rows good) p no_paper lt;
      in_all = omega (arith, demands venue rows);
    }

some-name : (institution : Option (List ℕ)) (name : List ℕ) → IfSome institution (λ found. is_institution found ≡ true) → institution ≡ Some name → is_institution name ≡ true
some-name None name good is = absurd cc
some-name (Some found) name good is = let same : found ≡ name = cc in subst (λ n. is_institution n ≡ true) same good

are-reviewers : (venue : VenueValue) → length venue.reviewers ≤ 1500 → Ascend reviewer_key venue.reviewers → All (IsReviewer venue) venue.reviewers → AreReviewers (map (rule_reviewer venue) venue.reviewers)
are-reviewers venue few up good =
    let rows = venue.reviewers in
    let f = rule_reviewer venue in
    record {
      few = omega (arith, length-map rows f);
      ids = λ r lt. All-map (λ (reviewer : RuleReviewer). is_id reviewer.id ≡ true) f rows (All-weaker (IsReviewer venue) (λ row. is_id row.id ≡ true) (λ row is. is.id) rows good) r no_reviewer lt;
      ascending = λ r lt. ascend-at reviewer_key f (λ (reviewer : RuleReviewer). reviewer.id) (λ row. refl) rows up r no_reviewer lt;
      loads = λ r lt. All-map (λ (reviewer : RuleReviewer). (reviewer.least ≤ reviewer.greatest) × (reviewer.greatest ≤ 1500)) f rows
          (All-weaker (IsReviewer venue) (λ row. ((f row).least ≤ (f row).greatest) × ((f row).greatest ≤ 1500)) (λ row is. (is.rises, is.few)) rows good) r no_reviewer lt;
      institutions = λ r name lt is. some-name _ name
          (All-map (λ (reviewer : RuleReviewer). IfSome reviewer.institution (λ found. is_institution found ≡ true)) f rows
          (All-weaker (IsReviewer venue) (λ row. IfSome row.institution (λ found. is_institution found ≡ true)) (λ row is. is.institution) rows good) r no_reviewer lt)
          is;
    }

-- all of them

pub record AreGoodRows (venue : VenueValue) : Type 0 where
  pub limit : IsLimit venue.settings.limit
  pub few_papers : length venue.papers ≤ 1500
  pub papers_ascend : Ascend paper_key venue.papers
  pub papers : All (IsPaper venue) venue.papers
  pub in_all : demand_sum venue venue.papers ≤ 4500
  pub few_reviewers : length venue.reviewers ≤ 1500
  pub reviewers_ascend : Ascend reviewer_key venue.reviewers
  pub reviewers : All (IsReviewer venue) venue.reviewers

pub are-rules : (venue : VenueValue) → AreGoodRows venue → length (candidates venue) ≤ 250000 → All IsPair (candidates venue) → AreRules (made_rules venue)
are-rules venue rows few within = record {
  tickets = refl;
  limit = rows.limit;
  papers = are-papers venue rows.few_papers rows.papers_ascend rows.papers rows.in_all;
  reviewers = are-reviewers venue rows.few_reviewers rows.reviewers_ascend rows.reviewers;
  pairs = are-pairs venue _ _ (length-map venue.papers (rule_paper venue)) (length-map venue.reviewers (rule_reviewer venue)) few within;
}
