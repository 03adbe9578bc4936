-- Lists that ascend: where an item stands, and that two lists with the same items are one.
use Rattle.std.proofs.Common.{◌≡◌, ℕ, zero, suc, ◌<◌, ◌≤◌, ◌⊎◌, inl, inr, true, false, List, [], ◌∷◌, length, get_or, map, Option, Some, None, Ordering, refl, sym, ap, ◌∙◌, subst, arith}
use Rattle.std.specs.declared.cmp.Ordering.TheVariants.{Less}
use Rattle.std.specs.Ordering.{nat_cmp, ordering_reverse, is_eq, MatchOrdering}
use Rattle.std.specs.Cmp.{IsTotalOrder}
use Rattle.std.specs.List.{AllByRecursion, Contains, filter_map, position_or_len}
use Rattle.std.specs.List.Sorted.{IsStrictlySortedBy}
use Rattle.std.proofs.lemmas.Cmp.{tied_itself, ranked}
use Rattle.std.proofs.lemmas.List.Sums.{position_or_len_is}
use Rattle.std.proofs.lemmas.Map.Keys.{Less-from_sorted}

-- the item stands in the list
abbrev pub IsIn : {K : Type 0} → K → List K → Type 0
IsIn x [] = ⊥
IsIn x (first ∷ rest) = (first ≡ x) ⊎ IsIn x rest

-- where an item stands
pub place_of_item : {K : Type 0} (x default : K) (xs : List K) → IsIn x xs → (g : ℕ) × (g < length xs) × (get_or xs g default ≡ x)
place_of_item x default [] h = absurd h
place_of_item x default (first ∷ xs) (inl e) = (0, omega arith, e)
place_of_item x default (first ∷ xs) (inr h) =
    let rest = place_of_item x default xs h in
    (suc rest.0, omega (arith, rest.1), rest.2)

pub item_at_place : {K : Type 0} (default : K) (xs : List K) (g : ℕ) → g < length xs → IsIn (get_or xs g default) xs
item_at_place default [] g h = absurd (omega arith)
item_at_place default (first ∷ xs) zero h = inl refl
item_at_place default (first ∷ xs) (suc g) h = inr (item_at_place default xs g (omega arith))

pub contains_from_in : {K : Type 0} (x : K) (xs : List K) → IsIn x xs → Contains xs x
contains_from_in x xs h = let at = place_of_item x x xs h in (at.0, at.1, at.2)

pub in_from_contains : {K : Type 0} (x : K) (xs : List K) → Contains xs x → IsIn x xs
in_from_contains x xs (k, within, at) = subst (λ y. IsIn y xs) at (item_at_place x xs k within)

-- the items of a mapped list
pub in_map : {K J : Type 0} (f : K → J) (x : K) (xs : List K) → IsIn x xs → IsIn (f x) (map f xs)
in_map f x [] h = absurd h
in_map f x (first ∷ xs) (inl e) = inl (ap f e)
in_map f x (first ∷ xs) (inr h) = inr (in_map f x xs h)

pub from_map : {K J : Type 0} (f : K → J) (y : J) (xs : List K) → IsIn y (map f xs) → (x : K) × IsIn x xs × (f x ≡ y)
from_map f y [] h = absurd h
from_map f y (first ∷ xs) (inl e) = (first, inl refl, e)
from_map f y (first ∷ xs) (inr h) = let rest = from_map f y xs h in (rest.0, inr rest.1, rest.2)

-- the items that are there
pub in_present : {X : Type 0} (x : X) (xs : List (Option X)) → IsIn (Some x) xs → IsIn x (filter_map (λ y. y) xs)
in_present x [] h = absurd h
in_present x (None ∷ xs) (inl e) = absurd (cc e)
in_present x (None ∷ xs) (inr h) = in_present x xs h
in_present x (Some y ∷ xs) (inl e) = inl (cc e)
in_present x (Some y ∷ xs) (inr h) = inr (in_present x xs h)

pub from_present : {X : Type 0} (x : X) (xs : List (Option X)) → IsIn x (filter_map (λ y. y) xs) → IsIn (Some x) xs
from_present x [] h = absurd h
from_present x (None ∷ xs) h = inr (from_present x xs h)
from_present x (Some y ∷ xs) (inl e) = inl (ap (λ z. Some z) e)
from_present x (Some y ∷ xs) (inr h) = inr (from_present x xs h)

pub length_present : {X : Type 0} (xs : List (Option X)) → length (filter_map (λ y. y) xs) ≤ length xs
length_present [] = omega arith
length_present (None ∷ xs) = omega (arith, length_present xs)
length_present (Some y ∷ xs) = omega (arith, length_present xs)

-- ---- the first place at which an item stands

same_as_itself : {K : Type 0} {R : K → K → Ordering} (o : IsTotalOrder R) (x : K) → is_eq (R x x) ≡ true
same_as_itself o x = ap is_eq (tied_itself o x)

other_than_lower : {K : Type 0} {R : K → K → Ordering} (o : IsTotalOrder R) (low high : K) → R low high ≡ Less → is_eq (R high low) ≡ false
other_than_lower o low high e = ap is_eq (o.antisymm high low ∙ ap ordering_reverse e)

-- an item of an ascending list stands first where it stands
pub place_in_sorted : {K : Type 0} {R : K → K → Ordering} (o : IsTotalOrder R) (xs : List K) (g : ℕ) (d : K)
    → IsStrictlySortedBy R xs → g < length xs → position_or_len (λ y. is_eq (R (get_or xs g d) y)) xs ≡ g
place_in_sorted {K} {R} o xs g d s h =
    position_or_len_is (λ y. is_eq (R (get_or xs g d) y)) xs g d (omega arith)
    (λ k below. other_than_lower o (get_or xs k d) (get_or xs g d) (Less-from_sorted R xs k g d s below h))
    (λ within. same_as_itself o (get_or xs g d))

-- ---- two ascending lists of numbers with the same numbers

below_all : (x z : ℕ) (xs : List ℕ) → AllByRecursion (λ y. nat_cmp x y ≡ Less) xs → IsIn z xs → x < z
below_all x z [] all h = absurd h
below_all x z (y ∷ ys) all (inl e) = subst (λ w. x < w) e (subst (λ r. MatchOrdering r (x < y) (x ≡ y) (y < x)) all.0 (ranked x y (nat_cmp x y) refl))
below_all x z (y ∷ ys) all (inr h) = below_all x z ys all.1 h

same_heads : (x y : ℕ) → (y ≡ x) ⊎ (y < x) → (x ≡ y) ⊎ (x < y) → x ≡ y
same_heads x y (inl e) q = sym e
same_heads x y (inr h) (inl e) = e
same_heads x y (inr h) (inr g) = absurd (omega arith)

head_or_below : (x z : ℕ) (xs : List ℕ) → AllByRecursion (λ y. nat_cmp x y ≡ Less) xs → IsIn z (x ∷ xs) → (x ≡ z) ⊎ (x < z)
head_or_below x z xs all (inl e) = inl e
head_or_below x z xs all (inr h) = inr (below_all x z xs all h)

tail_in : (x z : ℕ) (xs ys : List ℕ) (y : ℕ) → x ≡ y → AllByRecursion (λ w. nat_cmp x w ≡ Less) xs → IsIn z xs → IsIn z (y ∷ ys) → IsIn z ys
tail_in x z xs ys y e all h (inl at) = let low = below_all x z xs all h in absurd (omega arith)
tail_in x z xs ys y e all h (inr there) = there

abbrev pub HasAllOf : List ℕ → List ℕ → Type 0
HasAllOf xs ys = (z : ℕ) → IsIn z ys → IsIn z xs

pub same_ascending : (xs ys : List ℕ) → IsStrictlySortedBy nat_cmp xs → IsStrictlySortedBy nat_cmp ys → HasAllOf xs ys → HasAllOf ys xs → xs ≡ ys
unfolding IsStrictlySortedBy
same_ascending [] [] s t p q = refl
same_ascending [] (y ∷ ys) s t p q = absurd (p y (inl refl))
same_ascending (x ∷ xs) [] s t p q = absurd (q x (inl refl))
same_ascending (x ∷ xs) (y ∷ ys) s t p q =
    let heads : x ≡ y = same_heads x y (head_or_below y x ys t.0 (q x (inl refl))) (head_or_below x y xs s.0 (p y (inl refl))) in
    let tails : xs ≡ ys = same_ascending xs ys s.1 t.1
    (λ z h. tail_in y z ys xs x (sym heads) t.0 h (p z (inr h)))
    (λ z h. tail_in x z xs ys y heads s.0 h (q z (inr h))) in
    λ i. heads i ∷ tails i

-- ---- the items that are there, by places

pub all_present : (codes : List (Option ℕ)) (there : List ℕ) → there ≡ filter_map (λ c. c) codes → (x : ℕ) → Contains codes (Some x) → Contains there x
all_present codes there e x h = subst (λ list. Contains list x) (sym e) (contains_from_in x (filter_map (λ c. c) codes) (in_present x codes (in_from_contains (Some x) codes h)))

pub only_present : (codes : List (Option ℕ)) (there : List ℕ) → there ≡ filter_map (λ c. c) codes → (x : ℕ) → Contains there x → Contains codes (Some x)
only_present codes there e x h = contains_from_in (Some x) codes (from_present x codes (in_from_contains x (filter_map (λ c. c) codes) (subst (λ list. Contains list x) e h)))

pub few_present : (codes : List (Option ℕ)) (there : List ℕ) → there ≡ filter_map (λ c. c) codes → length there ≤ length codes
few_present codes there e = rw e (length_present codes)
