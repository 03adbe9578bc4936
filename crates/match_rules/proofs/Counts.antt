-- Counting places: a loop's step, and bounds that let each counter fit.
use Rattle.std.proofs.Common.{◌≡◌, ℕ, zero, suc, ◌+◌, ◌*◌, ◌<◌, ◌≤◌, Bool, true, false, eqb, List, length, take, get_or, set, All, count_by, arith, add-one, sym, ap, ◌∙◌, get_or-set_same, get_or-set_other, length-take, length-set, inl, inr, ◌-◌, ◌^◌}
use Rattle.std.proofs.lemmas.Bool.{cases_lt, cases_eq, eq-eqb, ne_eqb}
use Rattle.std.proofs.lemmas.List.Sums.{count_by_more_yes, count_by_more_no, count_by-le-length, sum_by-le}
use Rattle.std.proofs.lemmas.List.Elements.{All-from_get_or, All-take}
use Rattle.std.proofs.lemmas.Nat.{mul-le}
use Rattle.match_rules.specs.declared.lottery.Piece.{Piece}
use Rattle.match_rules.specs.declared.rules.TheConstants.{MOST_TICKETS}
use Rattle.match_rules.specs.Assignments.{holds, times}
use Rattle.match_rules.specs.Pieces.{DoAscend, piece_at, no_piece}

-- a place in an ascending list is at least its index
index_le : (places : List ℕ) (i : ℕ) → DoAscend places → i < length places → i ≤ get_or places i 0
index_le places zero up h = omega arith
index_le places (suc i) up h =
    let before : i ≤ get_or places i 0 = index_le places i up (omega arith) in
    let step : get_or places i 0 < get_or places (i + 1) 0 = up i (omega arith) in
    let same : get_or places (i + 1) 0 ≡ get_or places (suc i) 0 = ap (λ k. get_or places k 0) (add-one i) in
    omega arith

-- there are at most as many ascending places as they may be
pub ascending-few : (n : ℕ) (places : List ℕ) → DoAscend places → All (λ e. e < n) places → length places ≤ n
ascending-few n places up known =
    elim (cases_lt 0 (length places)) [
      | inl some ↦ (let last = length places - 1 in
          let low : last ≤ get_or places last 0 = index_le places last up (omega arith) in
          let high : get_or places last 0 < n = known last 0 (omega arith) in
          omega arith)
      | inr none ↦ omega arith
    ]

pub count-fits : (n i : ℕ) (test : ℕ → Bool) (places : List ℕ) → DoAscend places → All (λ e. e < n) places → i < length places → n ≤ 250000 → count_by test (take i places) + 1 < 2 ^ 32
count-fits n i test places up known h few =
    let in_all = ascending-few n places up known in
    let so_far = count_by-le-length test (take i places) in
    omega (arith, length-take {A = ℕ})

-- one place more, where the counter of its key went up by one
pub counted-more : (key : ℕ → ℕ) (places counts : List ℕ) (i j x : ℕ)
    → i < length places → j ≡ key (get_or places i 0) → j < length counts → x ≡ get_or counts j 0 + 1
    → ((p : ℕ) → p < length counts → get_or counts p 0 ≡ count_by (λ e. eqb (key e) p) (take i places))
    → (p : ℕ) → p < length (set counts j x) → get_or (set counts j x) p 0 ≡ count_by (λ e. eqb (key e) p) (take (i + 1) places)
counted-more key places counts i j x h key_is in_counts up each p within =
    let known : p < length counts = simp length-set at within in
    elim (cases_eq p j) [
      | inl same ↦ (let yes : eqb (key (get_or places i 0)) p ≡ true = eq-eqb _ _ (sym key_is ∙ sym same) in
          let more = count_by_more_yes (λ e. eqb (key e) p) places i 0 h yes in
          let now : get_or (set counts j x) p 0 ≡ x = ap (λ k. get_or (set counts j x) k 0) same ∙ get_or-set_same counts j x 0 in_counts in
          let was : get_or counts j 0 ≡ get_or counts p 0 = ap (λ k. get_or counts k 0) (sym same) in
          let counted = each p known in
          omega arith)
      | inr other ↦ (let no : eqb (key (get_or places i 0)) p ≡ false = ne_eqb _ _ (λ e. other (sym e ∙ sym key_is)) in
          let more = count_by_more_no (λ e. eqb (key e) p) places i 0 h no in
          let now : get_or (set counts j x) p 0 ≡ get_or counts p 0 = get_or-set_other counts j p x 0 other in
          now ∙ each p known ∙ sym more)
    ]

-- one place more, where the counter of its place went up by a weight
pub weighed-more : (places counts : List ℕ) (base : ℕ → ℕ) (weight i x : ℕ)
    → i < length places → get_or places i 0 < length counts → x ≡ get_or counts (get_or places i 0) 0 + weight
    → ((e : ℕ) → e < length counts → get_or counts e 0 ≡ base e + weight * holds (take i places) e)
    → (e : ℕ) → e < length (set counts (get_or places i 0) x) → get_or (set counts (get_or places i 0) x) e 0 ≡ base e + weight * holds (take (i + 1) places) e
weighed-more places counts base weight i x h in_counts up each e within =
    let known : e < length counts = simp length-set at within in
    let place = get_or places i 0 in
    let counted = each e known in
    elim (cases_eq place e) [
      | inl same ↦ (let more = count_by_more_yes (λ y. eqb y e) places i 0 h (eq-eqb _ _ same) in
          let product : weight * holds (take (i + 1) places) e ≡ weight * (holds (take i places) e + 1) = ap (λ n. weight * n) more in
          let now : get_or (set counts place x) e 0 ≡ x = ap (λ k. get_or (set counts place x) k 0) (sym same) ∙ get_or-set_same counts place x 0 in_counts in
          let was : get_or counts place 0 ≡ get_or counts e 0 = ap (λ k. get_or counts k 0) same in
          omega arith)
      | inr other ↦ (let more = count_by_more_no (λ y. eqb y e) places i 0 h (ne_eqb _ _ other) in
          let product : weight * holds (take (i + 1) places) e ≡ weight * holds (take i places) e = ap (λ n. weight * n) more in
          let now : get_or (set counts place x) e 0 ≡ get_or counts e 0 = get_or-set_other counts place e x 0 (λ same. other (sym same)) in
          omega arith)
    ]

-- the weights of the pieces so far that hold a pair
pub times-most : (pieces : List Piece) (i e : ℕ) → length pieces ≤ MOST_TICKETS
    → ((k : ℕ) → k < length pieces → (piece_at pieces k).weight ≤ MOST_TICKETS) → ((k : ℕ) → k < length pieces → length (piece_at pieces k).pairs ≤ 250000)
    → times (take i pieces) e ≤ 2 ^ 62
times-most pieces i e few light short =
    let weighed = λ (piece : Piece). piece.weight * holds piece.pairs e in
    let each : All (λ (piece : Piece). piece.weight * holds piece.pairs e ≤ 2500000000) pieces =
    All-from_get_or (λ (piece : Piece). piece.weight * holds piece.pairs e ≤ 2500000000) pieces no_piece
    (λ k h. let some = count_by-le-length (λ y. eqb y e) (piece_at pieces k).pairs in
    let length_of = short k h in
    mul-le (piece_at pieces k).weight (holds (piece_at pieces k).pairs e) MOST_TICKETS 250000 (light k h) (omega arith)) in
    let in_all = sum_by-le weighed 2500000000 (take i pieces) (All-take (λ (piece : Piece). piece.weight * holds piece.pairs e ≤ 2500000000) i pieces each) in
    let number = length-take i pieces in
    omega (arith, in_all)
