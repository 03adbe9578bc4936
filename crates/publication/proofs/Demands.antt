-- The demands of papers, added up.
use Rattle.std.proofs.Common.{◌≡◌, ℕ, zero, suc, ◌+◌, ◌<◌, ◌≤◌, List, [], ◌∷◌, ◌++◌, length, take, inl, inr, refl, ap, arith}
use Rattle.std.proofs.lemmas.Bool.{cases_lt}
use Rattle.std.proofs.lemmas.List.{get_or_append_left, get_or-take, length-append, length-take}
use Rattle.std.proofs.Math.Seq.{get_or-append_seam}
use Rattle.match_rules.specs.declared.rules.RulePaper.{RulePaper}
use Rattle.match_rules.specs.Rules.{demand_total, paper_in, no_paper}
use Rattle.match_rules.specs.Sums.{count_below}

count_below_same : (n : ℕ) (f g : ℕ → ℕ) → ((k : ℕ) → k < n → f k ≡ g k) → count_below n f ≡ count_below n g
count_below_same zero f g h = refl
count_below_same (suc n) f g h = omega (arith, count_below_same n f g (λ k lt. h k (omega arith)), h n (omega arith))

count_below_grows : (n m : ℕ) (f : ℕ → ℕ) → n ≤ m → count_below n f ≤ count_below m f
count_below_grows n zero f le = rw (none n le) (omega arith)
  where
    none : (k : ℕ) → k ≤ 0 → k ≡ 0
    none k small = omega arith
count_below_grows n (suc m) f le =
    elim (cases_lt m n) [
      | inl lt ↦ rw (whole n m le lt) (omega arith)
      | inr less ↦ omega (arith, count_below_grows n m f less)
    ]
  where
    whole : (k j : ℕ) → k ≤ suc j → j < k → k ≡ suc j
    whole k j small lt = omega arith

-- one more paper at the end
pub demand_total_push : (papers : List RulePaper) (paper : RulePaper) → demand_total (papers ++ paper ∷ []) ≡ demand_total papers + paper.demand
demand_total_push papers paper =
    let n : length (papers ++ paper ∷ []) ≡ suc (length papers) = omega (arith, length-append papers (paper ∷ [])) in
    let front = count_below_same (length papers) (λ p. (paper_in (papers ++ paper ∷ []) p).demand) (λ p. (paper_in papers p).demand) (λ k lt. ap (λ (x : RulePaper). x.demand) (get_or_append_left papers (paper ∷ []) no_paper k lt)) in
    let last : (paper_in (papers ++ paper ∷ []) (length papers)).demand ≡ paper.demand = ap (λ (x : RulePaper). x.demand) (get_or-append_seam papers paper [] no_paper) in
    rw (n, front, last) refl

-- the first papers and the next demand are within all demands
pub demand_total_within : (papers : List RulePaper) (k : ℕ) → k < length papers → demand_total (take k papers) + (paper_in papers k).demand ≤ demand_total papers
demand_total_within papers k lt =
    let n : length (take k papers) ≡ k = omega (arith, length-take k papers) in
    let front = count_below_same k (λ p. (paper_in (take k papers) p).demand) (λ p. (paper_in papers p).demand) (λ i less. ap (λ (x : RulePaper). x.demand) (get_or-take k papers i no_paper less)) in
    rw (n, front) (count_below_grows (suc k) (length papers) (λ p. (paper_in papers p).demand) (omega arith))
