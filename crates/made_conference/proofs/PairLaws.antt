-- The pairs so far.
use Rattle.std.proofs.Common.{◌≡◌, ℕ, ◌+◌, ◌-◌, ◌*◌, ◌<◌, ◌≤◌, ◌/◌, ◌%◌, List, [], ◌∷◌, ◌++◌, map, refl, sym, ap, ◌∙◌, arith, append_assoc}
use Rattle.std.specs.List.{flat_map, range_with_len}
use Rattle.std.proofs.lemmas.List.FromFn.{map-range_with_len_more}
use Rattle.std.proofs.lemmas.List.Concat.{flat_map-append}
use Rattle.std.proofs.lemmas.Nat.{mod-mul-add}
use Rattle.std.proofs.lemmas.List.{append-nil}
use Rattle.std.specs.Prelude.{Option}
use Rattle.made_conference.specs.declared.bids.Bid.{Bid}
use Rattle.made_conference.specs.declared.pairs.MadePair.{MadePair}
use Rattle.made_conference.specs.Numbers.{next_state, number_of, state_after}
use Rattle.made_conference.specs.Pairs.{made_pair, pairs_before, picked_bid}
use Rattle.made_conference.proofs.NumberLaws.{state_more}

-- one more number behind a range
pub range_more : (a n j : ℕ) → a + n ≡ j → range_with_len a (n + 1) ≡ range_with_len a n ++ j ∷ []
range_more a n j e = sym (map_same (range_with_len a (n + 1))) ∙ map-range_with_len_more (λ (k : ℕ). k) a n j e ∙ ap (λ (xs : List ℕ). xs ++ j ∷ []) (map_same (range_with_len a n))
  where
    map_same : (xs : List ℕ) → map (λ k. k) xs ≡ xs
    map_same [] = refl
    map_same (x ∷ xs) = ap (λ (ys : List ℕ). x ∷ ys) (map_same xs)

-- what is made of one more number
pub flat_map_range_more : {A : Type 0} (f : ℕ → List A) (n : ℕ) → flat_map f (range_with_len 0 (n + 1)) ≡ flat_map f (range_with_len 0 n) ++ f n
flat_map_range_more {A} f n =
    ap (flat_map f) (range_more 0 n n (omega arith)) ∙ flat_map-append f (range_with_len 0 n) (n ∷ []) ∙ ap (λ (ys : List A). flat_map f (range_with_len 0 n) ++ ys) (append-nil (f n))

-- the place of a reviewer in its block
pub place_in_block : (block reviewer k : ℕ) → reviewer ≡ block * 45 + k → k < 45 → reviewer % 45 ≡ k
place_in_block block reviewer k e lt = ap (λ (n : ℕ). n % 45) e ∙ mod-mul-add block 45 k lt

-- how many pairs stand before one, where the reviewer is in the block of the paper
pub pairs_are : (paper reviewer : ℕ) → 45 * (paper / 60) ≤ reviewer → reviewer < 45 * (paper / 60) + 45 → pairs_before paper reviewer ≡ 45 * paper + (reviewer - 45 * (paper / 60))
unfolding pairs_before
pairs_are paper reviewer le lt =
    ap (λ (n : ℕ). 45 * paper + n) (place_in_block (paper / 60) reviewer (reviewer - 45 * (paper / 60)) (omega arith) (omega arith))

abbrev pub pair_with : ℕ → ℕ → ℕ → Option Bid → MadePair
pair_with p r v b = record { paper = p; reviewer = r; value = v; bid = b }

-- what two draws make of a pair
pub pair_is : (seed paper reviewer before first second : ℕ) → before ≡ state_after seed (2 * pairs_before paper reviewer)
    → first ≡ number_of (next_state before) → second ≡ number_of (next_state (next_state before))
    → pair_with paper reviewer (first % 10001) (picked_bid (second % 6)) ≡ made_pair seed paper reviewer
unfolding made_pair
pair_is seed paper reviewer before first second e a b =
    let n : ℕ = 2 * pairs_before paper reviewer in
    let one : next_state before ≡ state_after seed (n + 1) = ap next_state e ∙ sym (state_more seed n) in
    let two : next_state (next_state before) ≡ state_after seed (n + 1 + 1) = ap next_state one ∙ sym (state_more seed (n + 1)) in
    let value : first ≡ number_of (state_after seed (n + 1)) = a ∙ ap (λ (s : ℕ). number_of s) one in
    let other : second ≡ number_of (state_after seed (n + 1 + 1)) = b ∙ ap (λ (s : ℕ). number_of s) two in
    rw (value, other) refl

pub state_behind : (seed draws before : ℕ) → before ≡ state_after seed draws → next_state (next_state before) ≡ state_after seed (draws + 2)
state_behind seed draws before e =
    let two : draws + 2 ≡ draws + 1 + 1 = omega arith in
    rw two (sym (state_more seed (draws + 1) ∙ ap next_state (state_more seed draws ∙ ap next_state (sym e))))

-- one more item behind those of a range
pub items_more : {A : Type 0} (f : ℕ → A) (old now new : List A) (first j : ℕ) (x : A) → first ≤ j
    → now ≡ old ++ map f (range_with_len first (j - first)) → x ≡ f j → new ≡ now ++ x ∷ []
    → new ≡ old ++ map f (range_with_len first (j + 1 - first))
items_more {A} f old now new first j x le before is pushed =
    let count : j + 1 - first ≡ (j - first) + 1 = omega arith in
    let place : first + (j - first) ≡ j = omega arith in
    rw (count, map-range_with_len_more f first (j - first) j place)
    (pushed ∙ ap (λ (xs : List A). xs ++ x ∷ []) before ∙ append_assoc old (map f (range_with_len first (j - first))) (x ∷ []) ∙ ap (λ (y : A). old ++ (map f (range_with_len first (j - first)) ++ y ∷ [])) is)
