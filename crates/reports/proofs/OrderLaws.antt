-- Names in the order of their bytes, each once.
use Rattle.std.proofs.Common.{◌≡◌, ℕ, ◌⊎◌, inl, inr, List, [], ◌∷◌, Ordering, refl, sym, ap, ◌∙◌, subst}
use Rattle.std.specs.declared.cmp.Ordering.TheVariants.{Less, Equal, Greater}
use Rattle.std.specs.Ordering.{match_ordering, ordering_reverse}
use Rattle.std.specs.List.{AllByRecursion}
use Rattle.std.specs.List.Sorted.{IsStrictlySortedBy}
use Rattle.std.proofs.lemmas.Cmp.{nat_list_cmp_total}
use Rattle.std.proofs.lemmas.Map.Lookups.{exact_bytes}
use Rattle.match_rules.specs.GroupTable.{HasName}
use Rattle.match_rules.specs.Rules.{id_cmp}
use Rattle.match_rules.proofs.Ascending.{IsIn, place_of_item, item_at_place}
use Rattle.reports.specs.Institutions.{put_name, in_order}

-- ---- a list that ascends with one more name

-- what a list is with one more name, by where that stands against the first
at_put : (P : List (List ℕ) → Type 0) (new name : List ℕ) (names : List (List ℕ))
    → (id_cmp new name ≡ Less → P (new ∷ (name ∷ names))) → (id_cmp new name ≡ Equal → P (name ∷ names)) → (id_cmp new name ≡ Greater → P (name ∷ put_name new names))
    → P (put_name new (name ∷ names))
at_put P new name names less equal greater = by (id_cmp new name) less equal greater
  where
    by : (r : Ordering) → (r ≡ Less → P (new ∷ (name ∷ names))) → (r ≡ Equal → P (name ∷ names)) → (r ≡ Greater → P (name ∷ put_name new names))
        → P (match_ordering r (new ∷ (name ∷ names)) (name ∷ names) (name ∷ put_name new names))
    by Less less equal greater = less refl
    by Equal less equal greater = equal refl
    by Greater less equal greater = greater refl

all_put : (P : List ℕ → Type 0) (new : List ℕ) (names : List (List ℕ)) → P new → AllByRecursion P names → AllByRecursion P (put_name new names)
all_put P new [] p all = (p, tt)
all_put P new (name ∷ names) p all =
    at_put (λ list. AllByRecursion P list) new name names (λ e. (p, all)) (λ e. all) (λ e. (all.0, all_put P new names p all.1))

all_above : (a b : List ℕ) (names : List (List ℕ)) → id_cmp a b ≡ Less → AllByRecursion (λ y. id_cmp b y ≡ Less) names → AllByRecursion (λ y. id_cmp a y ≡ Less) names
all_above a b [] h all = tt
all_above a b (name ∷ names) h all = (nat_list_cmp_total.trans a b name h all.0, all_above a b names h all.1)

turned : (a b : List ℕ) → id_cmp a b ≡ Greater → id_cmp b a ≡ Less
turned a b e = nat_list_cmp_total.antisymm b a ∙ ap ordering_reverse e

sorted_put : (new : List ℕ) (names : List (List ℕ)) → IsStrictlySortedBy id_cmp names → IsStrictlySortedBy id_cmp (put_name new names)
unfolding IsStrictlySortedBy
sorted_put new [] s = (tt, tt)
sorted_put new (name ∷ names) s =
    at_put (λ list. IsStrictlySortedBy id_cmp list) new name names
    (λ e. ((e, all_above new name names e s.0), s))
    (λ e. s)
    (λ e. (all_put (λ y. id_cmp name y ≡ Less) new names (turned new name e) s.0, sorted_put new names s.1))

new_in_put : (new : List ℕ) (names : List (List ℕ)) → IsIn new (put_name new names)
new_in_put new [] = inl refl
new_in_put new (name ∷ names) =
    at_put (λ list. IsIn new list) new name names (λ e. inl refl) (λ e. inl (sym (exact_bytes _ _ e))) (λ e. inr (new_in_put new names))

old_in_put : (new old : List ℕ) (names : List (List ℕ)) → IsIn old names → IsIn old (put_name new names)
old_in_put new old [] h = absurd h
old_in_put new old (name ∷ names) h =
    at_put (λ list. IsIn old list) new name names (λ e. inr h) (λ e. h)
    (λ e. elim h as (λ _. IsIn old (name ∷ put_name new names)) [ inl same ↦ inl same | inr rest ↦ inr (old_in_put new old names rest) ])

in_put_cases : (new some : List ℕ) (names : List (List ℕ)) → IsIn some (put_name new names) → (new ≡ some) ⊎ IsIn some names
in_put_cases new some [] (inl e) = inl e
in_put_cases new some [] (inr h) = absurd h
in_put_cases new some (name ∷ names) h =
    at_put (λ list. IsIn some list → (new ≡ some) ⊎ IsIn some (name ∷ names)) new name names
    (λ e h. h) (λ e h. inr h) (λ e h. beyond new some name names (in_put_cases new some names) h) h
  where
    beyond : (new some name : List ℕ) (names : List (List ℕ)) → (IsIn some (put_name new names) → (new ≡ some) ⊎ IsIn some names)
        → IsIn some (name ∷ put_name new names) → (new ≡ some) ⊎ IsIn some (name ∷ names)
    beyond new some name names rest (inl e) = inr (inl e)
    beyond new some name names rest (inr h) = elim (rest h) as (λ _. (new ≡ some) ⊎ IsIn some (name ∷ names)) [ inl e ↦ inl e | inr h ↦ inr (inr h) ]

-- ---- all names of a list in order

pub in_order_ascends : (names : List (List ℕ)) → IsStrictlySortedBy id_cmp (in_order names)
unfolding IsStrictlySortedBy
in_order_ascends [] = tt
in_order_ascends (name ∷ names) = sorted_put name (in_order names) (in_order_ascends names)

pub in_order_has : (names : List (List ℕ)) (x : List ℕ) → IsIn x names → IsIn x (in_order names)
in_order_has [] x h = absurd h
in_order_has (name ∷ names) x (inl e) = subst (λ y. IsIn y (put_name name (in_order names))) e (new_in_put name (in_order names))
in_order_has (name ∷ names) x (inr h) = old_in_put name x (in_order names) (in_order_has names x h)

pub in_order_only : (names : List (List ℕ)) (x : List ℕ) → IsIn x (in_order names) → IsIn x names
in_order_only [] x h = absurd h
in_order_only (name ∷ names) x h = elim (in_put_cases name x (in_order names) h) as (λ _. IsIn x (name ∷ names)) [
  | inl e ↦ inl e
  | inr there ↦ inr (in_order_only names x there)
]

-- ---- two lists that ascend with the same names are one

below_all : (x z : List ℕ) (xs : List (List ℕ)) → AllByRecursion (λ y. id_cmp x y ≡ Less) xs → IsIn z xs → id_cmp x z ≡ Less
below_all x z [] all h = absurd h
below_all x z (y ∷ ys) all (inl e) = subst (λ w. id_cmp x w ≡ Less) e all.0
below_all x z (y ∷ ys) all (inr h) = below_all x z ys all.1 h

never_both : (x y : List ℕ) → id_cmp x y ≡ Less → id_cmp y x ≡ Less → ⊥
never_both x y e f = let g : id_cmp y x ≡ Greater = nat_list_cmp_total.antisymm y x ∙ ap ordering_reverse e in cc (f, g)

pub never_below_itself : (x : List ℕ) → id_cmp x x ≡ Less → ⊥
never_below_itself x e = never_both x x e e

same_heads : (x y : List ℕ) → (y ≡ x) ⊎ (id_cmp y x ≡ Less) → (x ≡ y) ⊎ (id_cmp x y ≡ Less) → x ≡ y
same_heads x y (inl e) q = sym e
same_heads x y (inr h) (inl e) = e
same_heads x y (inr h) (inr g) = absurd (never_both x y g h)

head_or_below : (x z : List ℕ) (xs : List (List ℕ)) → AllByRecursion (λ y. id_cmp x y ≡ Less) xs → IsIn z (x ∷ xs) → (x ≡ z) ⊎ (id_cmp x z ≡ Less)
head_or_below x z xs all (inl e) = inl e
head_or_below x z xs all (inr h) = inr (below_all x z xs all h)

tail_in : (x z : List ℕ) (xs ys : List (List ℕ)) (y : List ℕ) → x ≡ y → AllByRecursion (λ w. id_cmp x w ≡ Less) xs → IsIn z xs → IsIn z (y ∷ ys) → IsIn z ys
tail_in x z xs ys y e all h (inl at) =
    let low : id_cmp x z ≡ Less = below_all x z xs all h in
    absurd (never_below_itself x (subst (λ w. id_cmp x w ≡ Less) (sym (e ∙ at)) low))
tail_in x z xs ys y e all h (inr there) = there

abbrev pub HasAllOf : List (List ℕ) → List (List ℕ) → Type 0
HasAllOf xs ys = (z : List ℕ) → IsIn z ys → IsIn z xs

pub one_ascending : (xs ys : List (List ℕ)) → IsStrictlySortedBy id_cmp xs → IsStrictlySortedBy id_cmp ys → HasAllOf xs ys → HasAllOf ys xs → xs ≡ ys
unfolding IsStrictlySortedBy
one_ascending [] [] s t p q = refl
one_ascending [] (y ∷ ys) s t p q = absurd (p y (inl refl))
one_ascending (x ∷ xs) [] s t p q = absurd (q x (inl refl))
one_ascending (x ∷ xs) (y ∷ ys) s t p q =
    let heads : x ≡ y = same_heads x y (head_or_below y x ys t.0 (q x (inl refl))) (head_or_below x y xs s.0 (p y (inl refl))) in
    let tails : xs ≡ ys = one_ascending xs ys s.1 t.1
    (λ z h. tail_in y z ys xs x (sym heads) t.0 h (p z (inr h)))
    (λ z h. tail_in x z xs ys y heads s.0 h (q z (inr h))) in
    λ i. heads i ∷ tails i

-- ---- names by their places

pub has_from_in : (x : List ℕ) (xs : List (List ℕ)) → IsIn x xs → HasName xs x
has_from_in x xs h = let at = place_of_item x [] xs h in (at.0, (at.1, at.2))

pub in_from_has : (x : List ℕ) (xs : List (List ℕ)) → HasName xs x → IsIn x xs
in_from_has x xs (place, (within, is)) = subst (λ y. IsIn y xs) is (item_at_place [] xs place within)

-- the names of a list that ascends, and has those of another one and no others, are those in order
pub are_in_order : (xs names : List (List ℕ)) → IsStrictlySortedBy id_cmp xs → ((x : List ℕ) → HasName names x → HasName xs x) → ((x : List ℕ) → HasName xs x → HasName names x) → xs ≡ in_order names
are_in_order xs names ascends kept only =
    one_ascending xs (in_order names) ascends (in_order_ascends names)
    (λ z h. in_from_has z xs (kept z (has_from_in z names (in_order_only names z h))))
    (λ z h. in_order_has names z (in_from_has z names (only z (has_from_in z xs h))))
