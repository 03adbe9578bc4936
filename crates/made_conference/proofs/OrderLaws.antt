-- The order of the pairs, and their blocks.
use Rattle.std.proofs.Common.{◌≡◌, ℕ, zero, suc, ◌+◌, ◌*◌, ◌<◌, ◌≤◌, ◌/◌, List, [], ◌∷◌, ◌++◌, map, refl, sym, ap, subst, ◌∙◌, arith}
use Rattle.std.specs.List.{flat_map, range_with_len}
use Rattle.std.proofs.lemmas.List.{map-append}
use Rattle.std.proofs.lemmas.Nat.{div-mul-add}
use Rattle.made_conference.specs.declared.pairs.MadePair.{MadePair}
use Rattle.made_conference.specs.Pairs.{made_pair, made_pairs, paper_pairs, pairs_before}
use Rattle.made_conference.proofs.PairLaws.{flat_map_range_more, place_in_block}

range_split : (a m n : ℕ) → range_with_len a (m + n) ≡ range_with_len a m ++ range_with_len (a + m) n
range_split a zero n =
    let none : zero + n ≡ n = omega arith in
    let here : a + zero ≡ a = omega arith in
    rw (none, here) refl
range_split a (suc m) n =
    let more : suc m + n ≡ suc (m + n) = omega arith in
    let place : a + suc m ≡ a + 1 + m = omega arith in
    rw (more, place) (ap (λ (xs : List ℕ). a ∷ xs) (range_split (a + 1) m n))

number_is : (paper block k : ℕ) → k < 45 → pairs_before paper (45 * block + k) ≡ 45 * paper + k
unfolding pairs_before
number_is paper block k lt = ap (λ (n : ℕ). 45 * paper + n) (place_in_block block (45 * block + k) k (omega arith) lt)

-- the numbers of some pairs of a paper, with so many reviewers from one of its block on
numbers_from : (paper block k m : ℕ) → k + m ≤ 45 → map (pairs_before paper) (range_with_len (45 * block + k) m) ≡ range_with_len (45 * paper + k) m
numbers_from paper block k zero le = refl
numbers_from paper block k (suc m) le =
    let first : pairs_before paper (45 * block + k) ≡ 45 * paper + k = number_is paper block k (omega arith) in
    let next : 45 * block + k + 1 ≡ 45 * block + (k + 1) = omega arith in
    let after : 45 * paper + k + 1 ≡ 45 * paper + (k + 1) = omega arith in
    rw (first, next, after) (ap (λ (xs : List ℕ). (45 * paper + k) ∷ xs) (numbers_from paper block (k + 1) m (omega arith)))

abbrev number_of_pair : MadePair → ℕ
number_of_pair pair = pairs_before pair.paper pair.reviewer

abbrev reviewer_block : MadePair → ℕ
reviewer_block pair = pair.reviewer / 45

abbrev paper_block : MadePair → ℕ
paper_block pair = pair.paper / 60

pairs_from : (seed paper : ℕ) (reviewers : List ℕ) → map number_of_pair (map (made_pair seed paper) reviewers) ≡ map (pairs_before paper) reviewers
unfolding made_pair
pairs_from seed paper [] = refl
pairs_from seed paper (reviewer ∷ reviewers) = ap (λ (xs : List ℕ). pairs_before paper reviewer ∷ xs) (pairs_from seed paper reviewers)

first_numbers : (seed paper m : ℕ) → m ≤ 45 → map number_of_pair (map (made_pair seed paper) (range_with_len (45 * (paper / 60)) m)) ≡ range_with_len (45 * paper) m
first_numbers seed paper m le =
    let here : 45 * (paper / 60) + 0 ≡ 45 * (paper / 60) = omega arith in
    let there : 45 * paper + 0 ≡ 45 * paper = omega arith in
    let numbers = rw (here, there) at (numbers_from paper (paper / 60) 0 m (omega arith)) in
    pairs_from seed paper (range_with_len (45 * (paper / 60)) m) ∙ numbers

paper_numbers : (seed paper : ℕ) → map number_of_pair (paper_pairs seed paper) ≡ range_with_len (45 * paper) 45
unfolding paper_pairs
paper_numbers seed paper = first_numbers seed paper 45 (omega arith)

-- the numbers of the pairs of the first papers
HaveNumbers : ℕ → ℕ → Type 0
HaveNumbers seed papers = map number_of_pair (flat_map (paper_pairs seed) (range_with_len 0 papers)) ≡ range_with_len 0 (45 * papers)

-- the numbers of some items, and those of the items behind them
numbers_join : (xs ys : List MadePair) (a b c : ℕ) → map number_of_pair xs ≡ range_with_len 0 a → map number_of_pair ys ≡ range_with_len a b → a + b ≡ c
    → map number_of_pair (xs ++ ys) ≡ range_with_len 0 c
numbers_join xs ys a b c front back count =
    let place : 0 + a ≡ a = omega arith in
    let split = rw place at (range_split 0 a b) in
    map-append number_of_pair xs ys ∙ ap (λ (ns : List ℕ). ns ++ map number_of_pair ys) front ∙ ap (λ (ns : List ℕ). range_with_len 0 a ++ ns) back ∙ sym split ∙ ap (range_with_len 0) count

papers_more : (seed n : ℕ) → HaveNumbers seed n → HaveNumbers seed (n + 1)
unfolding HaveNumbers
papers_more seed n before =
    let count : 45 * n + 45 ≡ 45 * (n + 1) = omega arith in
    ap (map number_of_pair) (flat_map_range_more (paper_pairs seed) n)
    ∙ numbers_join (flat_map (paper_pairs seed) (range_with_len 0 n)) (paper_pairs seed n) (45 * n) 45 (45 * (n + 1)) before (paper_numbers seed n) count

papers_numbers : (seed papers : ℕ) → HaveNumbers seed papers
unfolding HaveNumbers
papers_numbers seed zero = refl
papers_numbers seed (suc n) =
    let one : n + 1 ≡ suc n = omega arith in
    subst (HaveNumbers seed) one (papers_more seed n (papers_numbers seed n))

pub drawn_in_order : (seed size : ℕ) → map (λ pair. pairs_before pair.paper pair.reviewer) (made_pairs seed size) ≡ range_with_len 0 (2700 * size)
unfolding made_pairs HaveNumbers
drawn_in_order seed size =
    let count : 45 * (60 * size) ≡ 2700 * size = omega arith in
    papers_numbers seed (60 * size) ∙ ap (range_with_len 0) count

blocks_from : (seed paper k m : ℕ) → k + m ≤ 45
    → map reviewer_block (map (made_pair seed paper) (range_with_len (45 * (paper / 60) + k) m)) ≡ map paper_block (map (made_pair seed paper) (range_with_len (45 * (paper / 60) + k) m))
unfolding made_pair
blocks_from seed paper k zero le = refl
blocks_from seed paper k (suc m) le =
    let turned : 45 * (paper / 60) + k ≡ paper / 60 * 45 + k = omega arith in
    let first : (45 * (paper / 60) + k) / 45 ≡ paper / 60 = ap (λ (n : ℕ). n / 45) turned ∙ div-mul-add (paper / 60) 45 k (omega arith) in
    let next : 45 * (paper / 60) + k + 1 ≡ 45 * (paper / 60) + (k + 1) = omega arith in
    rw (first, next) (ap (λ (xs : List ℕ). (paper / 60) ∷ xs) (blocks_from seed paper (k + 1) m (omega arith)))

first_blocks : (seed paper m : ℕ) → m ≤ 45
    → map reviewer_block (map (made_pair seed paper) (range_with_len (45 * (paper / 60)) m)) ≡ map paper_block (map (made_pair seed paper) (range_with_len (45 * (paper / 60)) m))
first_blocks seed paper m le =
    let here : 45 * (paper / 60) + 0 ≡ 45 * (paper / 60) = omega arith in
    rw here at (blocks_from seed paper 0 m (omega arith))

paper_blocks : (seed paper : ℕ) → map reviewer_block (paper_pairs seed paper) ≡ map paper_block (paper_pairs seed paper)
unfolding paper_pairs
paper_blocks seed paper = first_blocks seed paper 45 (omega arith)

papers_blocks : (seed : ℕ) (papers : List ℕ) → map reviewer_block (flat_map (paper_pairs seed) papers) ≡ map paper_block (flat_map (paper_pairs seed) papers)
papers_blocks seed [] = refl
papers_blocks seed (paper ∷ papers) =
    map-append reviewer_block (paper_pairs seed paper) (flat_map (paper_pairs seed) papers)
    ∙ ap (λ (xs : List ℕ). xs ++ map reviewer_block (flat_map (paper_pairs seed) papers)) (paper_blocks seed paper)
    ∙ ap (λ (xs : List ℕ). map paper_block (paper_pairs seed paper) ++ xs) (papers_blocks seed papers)
    ∙ sym (map-append paper_block (paper_pairs seed paper) (flat_map (paper_pairs seed) papers))

pub of_one_block : (seed size : ℕ) → map (λ pair. pair.reviewer / 45) (made_pairs seed size) ≡ map (λ pair. pair.paper / 60) (made_pairs seed size)
unfolding made_pairs
of_one_block seed size = papers_blocks seed (range_with_len 0 (60 * size))
