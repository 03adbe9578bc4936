-- Lists by places, and lists of parts.
use Rattle.std.proofs.Common.{◌≡◌, ℕ, zero, suc, ◌+◌, ◌-◌, ◌<◌, List, [], ◌∷◌, ◌++◌, length, get_or, take, refl, sym, ap, ◌∙◌, subst, arith, inl, inr}
use Rattle.std.specs.Prelude.{ℤ, pos, ◌+ℤ◌}
use Rattle.std.proofs.lemmas.Int.{ints}
use Rattle.std.proofs.lemmas.Bool.{cases_eq, cases_lt}
use Rattle.std.proofs.lemmas.List.{length-append, get_or-append-add, get_or_append_left, take-append-le}
use Rattle.std.proofs.Math.Seq.{take-length}
use Rattle.match_rules.specs.Sums.{sum_below, count_below}
use Rattle.bounded_network.specs.Compile.{Part, listed, joined}
use Rattle.bounded_network.proofs.Sums.{sum_below-equal, count_below-equal}

pub length-listed : {X : Type 0} → (n : ℕ) (f : ℕ → X) → length (listed n f) ≡ n
length-listed zero f = refl
length-listed (suc n) f = omega (arith, length-append (listed n f) (f n ∷ []), length-listed n f)

pub listed-at : {X : Type 0} → (n k : ℕ) (f : ℕ → X) (d : X) → k < n → get_or (listed n f) k d ≡ f k
listed-at zero k f d lt = absurd (omega arith)
listed-at (suc n) k f d lt = elim (cases_eq k n) [
  | inl e ↦
      let here : length (listed n f) + 0 ≡ k = omega (arith, length-listed n f) in
      let found = get_or-append-add (listed n f) (f n ∷ []) 0 d in
      let same : f n ≡ f k = ap f (sym e) in
      rw here at found ∙ same
  | inr ne ↦
      let below : k < length (listed n f) = omega (arith, length-listed n f) in
      get_or_append_left (listed n f) (f n ∷ []) d k below ∙ listed-at n k f d (omega arith)
]

-- the first part of a list is found in it, and the second behind it
pub left-at : {X : Type 0} → (xs ys : List X) (n i : ℕ) (d : X) → length xs ≡ n → i < n → get_or (xs ++ ys) i d ≡ get_or xs i d
left-at xs ys n i d long lt = get_or_append_left xs ys d i (omega arith)

pub right-at : {X : Type 0} → (xs ys : List X) (n i : ℕ) (d : X) → length xs ≡ n → get_or (xs ++ ys) (n + i) d ≡ get_or ys i d
right-at xs ys n i d long = rw long at (get_or-append-add xs ys i d)

-- ---- a list of parts

-- how many entries there are
abbrev pub size_of : {X : Type 0} → List (Part X) → ℕ
size_of [] = 0
size_of (one ∷ parts) = one.size + size_of parts

pub length-joined : {X : Type 0} → (parts : List (Part X)) → length (joined parts) ≡ size_of parts
length-joined [] = refl
length-joined (one ∷ parts) =
    omega (arith, length-append (listed one.size one.entry) (joined parts), length-listed one.size one.entry, length-joined parts)

-- the entries of the first part stand first, and those of the others behind them
pub first-at : {X : Type 0} → (one : Part X) (parts : List (Part X)) (i : ℕ) (x : X) → i < one.size → get_or (joined (one ∷ parts)) i x ≡ one.entry i
first-at one parts i x lt =
    left-at (listed one.size one.entry) (joined parts) one.size i x (length-listed one.size one.entry) lt
    ∙ listed-at one.size i one.entry x lt

pub later-at : {X : Type 0} → (one : Part X) (parts : List (Part X)) (i : ℕ) (x : X) → get_or (joined (one ∷ parts)) (one.size + i) x ≡ get_or (joined parts) i x
later-at one parts i x = right-at (listed one.size one.entry) (joined parts) one.size i x (length-listed one.size one.entry)

pub take-first : {X : Type 0} → (one : Part X) (parts : List (Part X)) → take one.size (joined (one ∷ parts)) ≡ listed one.size one.entry
take-first one parts =
    let long = length-listed one.size one.entry in
    take-append-le one.size (listed one.size one.entry) (joined parts) (omega arith)
    ∙ ap (λ n. take n (listed one.size one.entry)) (sym long)
    ∙ take-length (listed one.size one.entry)

-- what holds of the entries of each part, where the place of an entry in a part is shifted to one in the list
abbrev pub HoldsInParts : {X : Type 0} → List (Part X) → (X → ℕ → Type 0) → (ℕ → ℕ) → Type 0
HoldsInParts [] Q shift = Unit {0}
HoldsInParts (one ∷ parts) Q shift = ((i : ℕ) → i < one.size → Q (one.entry i) (shift i)) × HoldsInParts parts Q (λ i. shift (one.size + i))

-- holds at each place
pub each-joined : {X : Type 0} → (parts : List (Part X)) (x : X) (Q : X → ℕ → Type 0) (shift : ℕ → ℕ) → HoldsInParts parts Q shift
    → (j : ℕ) → j < length (joined parts) → Q (get_or (joined parts) j x) (shift j)
each-joined [] x Q shift each j lt = absurd (omega arith)
each-joined (one ∷ parts) x Q shift each j lt = elim (cases_lt j one.size) [
  | inl h ↦ subst (λ y. Q y (shift j)) (sym (first-at one parts j x h)) (each.0 j h)
  | inr h ↦
      let i : ℕ = j - one.size in
      let e : one.size + i ≡ j = omega arith in
      let long = length-joined (one ∷ parts) in
      let there = each-joined parts x Q (λ i. shift (one.size + i)) each.1 i (omega (arith, length-joined parts)) in
      subst (λ n. Q (get_or (joined (one ∷ parts)) n x) (shift n)) e (subst (λ y. Q y (shift (one.size + i))) (sym (later-at one parts i x)) there)
]

-- ---- sums over them

pub count_below-split : (n m : ℕ) (f : ℕ → ℕ) → count_below (n + m) f ≡ count_below n f + count_below m (λ i. f (n + i))
count_below-split n zero f = let e : n + zero ≡ n = omega arith in rw e (omega arith)
count_below-split n (suc m) f =
    let e : n + suc m ≡ suc (n + m) = omega arith in
    rw e (omega (arith, count_below-split n m f))

pub sum_below-split : (n m : ℕ) (f : ℕ → ℤ) → sum_below (n + m) f ≡ sum_below n f +ℤ sum_below m (λ i. f (n + i))
sum_below-split n zero f = let e : n + zero ≡ n = omega arith in rw e (omega (arith, ints))
sum_below-split n (suc m) f =
    let e : n + suc m ≡ suc (n + m) = omega arith in
    rw e (omega (arith, ints, sum_below-split n m f))

-- the sums of the parts
abbrev pub count_of_parts : {X : Type 0} → List (Part X) → (X → ℕ → ℕ) → (ℕ → ℕ) → ℕ
count_of_parts [] F shift = 0
count_of_parts (one ∷ parts) F shift = count_below one.size (λ i. F (one.entry i) (shift i)) + count_of_parts parts F (λ i. shift (one.size + i))

abbrev pub sum_of_parts : {X : Type 0} → List (Part X) → (X → ℕ → ℤ) → (ℕ → ℕ) → ℤ
sum_of_parts [] F shift = pos 0
sum_of_parts (one ∷ parts) F shift = sum_below one.size (λ i. F (one.entry i) (shift i)) +ℤ sum_of_parts parts F (λ i. shift (one.size + i))

-- are the sum of the list
pub count-joined : {X : Type 0} → (parts : List (Part X)) (x : X) (F : X → ℕ → ℕ) (shift : ℕ → ℕ)
    → count_below (length (joined parts)) (λ j. F (get_or (joined parts) j x) (shift j)) ≡ count_of_parts parts F shift
count-joined [] x F shift = refl
count-joined (one ∷ parts) x F shift =
    let n : ℕ = one.size in
    let m : ℕ = length (joined parts) in
    let f : ℕ → ℕ = λ j. F (get_or (joined (one ∷ parts)) j x) (shift j) in
    let long : length (joined (one ∷ parts)) ≡ n + m = omega (arith, length-append (listed n one.entry) (joined parts), length-listed n one.entry) in
    let split = count_below-split n m f in
    let here = count_below-equal n f (λ i. F (one.entry i) (shift i)) (λ i lt. ap (λ y. F y (shift i)) (first-at one parts i x lt)) in
    let there = count_below-equal m (λ i. f (n + i)) (λ i. F (get_or (joined parts) i x) (shift (n + i))) (λ i lt. ap (λ y. F y (shift (n + i))) (later-at one parts i x)) in
    let others = count-joined parts x F (λ i. shift (n + i)) in
    rw long (omega (arith, split, here, there, others))

pub sum-joined : {X : Type 0} → (parts : List (Part X)) (x : X) (F : X → ℕ → ℤ) (shift : ℕ → ℕ)
    → sum_below (length (joined parts)) (λ j. F (get_or (joined parts) j x) (shift j)) ≡ sum_of_parts parts F shift
sum-joined [] x F shift = refl
sum-joined (one ∷ parts) x F shift =
    let n : ℕ = one.size in
    let m : ℕ = length (joined parts) in
    let f : ℕ → ℤ = λ j. F (get_or (joined (one ∷ parts)) j x) (shift j) in
    let long : length (joined (one ∷ parts)) ≡ n + m = omega (arith, length-append (listed n one.entry) (joined parts), length-listed n one.entry) in
    let split = sum_below-split n m f in
    let here = sum_below-equal n f (λ i. F (one.entry i) (shift i)) (λ i lt. ap (λ y. F y (shift i)) (first-at one parts i x lt)) in
    let there = sum_below-equal m (λ i. f (n + i)) (λ i. F (get_or (joined parts) i x) (shift (n + i))) (λ i lt. ap (λ y. F y (shift (n + i))) (later-at one parts i x)) in
    let others = sum-joined parts x F (λ i. shift (n + i)) in
    rw long (omega (arith, ints, split, here, there, others))

-- one more entry
pub listed-next : {X : Type 0} → (n : ℕ) (f : ℕ → X) → listed (n + 1) f ≡ listed n f ++ (f n ∷ [])
listed-next n f = let e : n + 1 ≡ suc n = omega arith in rw e refl
