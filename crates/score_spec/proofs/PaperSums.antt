-- The sum over the sources of a paper, source by source.
use Rattle.std.proofs.Common.{◌≡◌, ◌+◌, ◌<◌, ℕ, ℤ, pos, ◌+ℤ◌, ◌*ℤ◌, List, [], ◌∷◌, ◌++◌, length, drop, get_or, sym, ap, ◌∙◌, arith}
use Rattle.std.proofs.lemmas.Int.{ints}
use Rattle.std.proofs.lemmas.List.{at_drop_more}
use Rattle.score_spec.specs.declared.paper_scores.PaperSource.{PaperSource}
use Rattle.score_spec.specs.declared.spec.BidWord.{BidWord}
use Rattle.score_spec.specs.PaperScores.{IsPartOf, part_by, sum_by}
use Rattle.score_spec.specs.Scores.{ScoresValue, source_value, weighted_sum}
use Rattle.score_spec.specs.Sources.{SourceValue}
use Rattle.score_spec.proofs.Products.{sum_step}

first : (part : ℤ) → part +ℤ pos 0 ≡ pos 0 +ℤ part
first part = omega (arith, ints)

later : (head rest whole part : ℤ) → whole ≡ rest +ℤ part → head +ℤ whole ≡ (head +ℤ rest) +ℤ part
later head rest whole part is = omega (arith, ints, is)

sum-last : (words : List BidWord) (parts : List PaperSource) (part : PaperSource) (reviewer : List ℕ) → sum_by words (parts ++ part ∷ []) reviewer ≡ sum_by words parts reviewer +ℤ part_by words part reviewer
sum-last words [] part reviewer = first (part_by words part reviewer)
sum-last words (p ∷ ps) part reviewer =
    later (part_by words p reviewer) (sum_by words ps reviewer) (sum_by words (ps ++ part ∷ []) reviewer) (part_by words part reviewer) (sum-last words ps part reviewer)

module _ (words : List BidWord) (scores : ScoresValue) (paper : List ℕ) where
  -- the parts so far, and the sources that are left, make the sum of all sources
  abbrev pub SumsTo : List PaperSource → List SourceValue → List SourceValue → Type 0
  SumsTo parts left sources = (reviewer : List ℕ) → sum_by words parts reviewer +ℤ weighted_sum words scores paper reviewer left ≡ weighted_sum words scores paper reviewer sources

  pub sums-more : (parts : List PaperSource) (part : PaperSource) (source : SourceValue) (sources : List SourceValue) (i : ℕ) → i < length sources → source ≡ get_or sources i source
      → IsPartOf part scores paper source → SumsTo parts (drop i sources) sources → SumsTo (parts ++ part ∷ []) (drop (i + 1) sources) sources
  sums-more parts part source sources i lt here is so_far = λ reviewer.
      let total_of = λ (left : List SourceValue). weighted_sum words scores paper reviewer left in
      let part_of = λ (source : SourceValue). source.weight *ℤ source_value words scores paper reviewer source in
      let next = at_drop_more total_of sources i source lt ∙ ap (λ x. x +ℤ total_of (drop (i + 1) sources)) (sym (is words reviewer ∙ ap part_of here)) in
      sum_step (sum_by words parts reviewer) (part_by words part reviewer) (total_of (drop i sources)) (total_of (drop (i + 1) sources)) (total_of sources) (sum_by words (parts ++ part ∷ []) reviewer) (so_far reviewer) next (sum-last words parts part reviewer)
