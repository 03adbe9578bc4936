-- The order of the keys of groups, and a list of keys that ascends with one more.
use Rattle.std.proofs.Common.{◌≡◌, ℕ, ◌+◌, ◌<◌, ◌≤◌, ◌⊎◌, inl, inr, List, [], ◌∷◌, length, Ordering, refl, sym, ap, ◌∙◌, subst, arith}
use Rattle.std.specs.declared.cmp.Ordering.TheVariants.{Less, Equal, Greater}
use Rattle.std.specs.Ordering.{nat_cmp, match_ordering, ordering_then, ordering_reverse, MatchOrdering}
use Rattle.std.specs.Cmp.{IsTotalOrder}
use Rattle.std.specs.List.{AllByRecursion}
use Rattle.std.specs.List.Sorted.{IsStrictlySortedBy}
use Rattle.std.proofs.lemmas.Cmp.{nat_cmp_total, nat_list_cmp_total, on_total, then_total, ranked}
use Rattle.std.proofs.lemmas.Map.Lookups.{exact_bytes}
use Rattle.match_rules.specs.Rules.{id_cmp}
use Rattle.match_rules.proofs.Ascending.{IsIn}
use Rattle.match_rules.specs.Groups.{GroupKey, key_cmp, put_key}

by_paper_then : (r s : Ordering) → ordering_then r s ≡ match_ordering r Less s Greater
by_paper_then Less s = refl
by_paper_then Equal s = refl
by_paper_then Greater s = refl

-- the order of keys is total
pub key_cmp_total : IsTotalOrder key_cmp
key_cmp_total =
    subst IsTotalOrder (λ i a b. by_paper_then (nat_cmp a.paper b.paper) (id_cmp a.institution b.institution) i)
    (then_total (on_total (λ (k : GroupKey). k.paper) nat_cmp_total) (on_total (λ (k : GroupKey). k.institution) nat_list_cmp_total))

tied_parts : (r s : Ordering) → match_ordering r Less s Greater ≡ Equal → (r ≡ Equal) × (s ≡ Equal)
tied_parts Less s e = absurd (cc e)
tied_parts Equal s e = (refl, e)
tied_parts Greater s e = absurd (cc e)

same_numbers : (x y : ℕ) → nat_cmp x y ≡ Equal → x ≡ y
same_numbers x y e = subst (λ r. MatchOrdering r (x < y) (x ≡ y) (y < x)) e (ranked x y (nat_cmp x y) refl)

-- it tells all keys apart
pub same_keys : (a b : GroupKey) → key_cmp a b ≡ Equal → a ≡ b
same_keys a b e =
    let parts = tied_parts (nat_cmp a.paper b.paper) (id_cmp a.institution b.institution) e in
    let papers : a.paper ≡ b.paper = same_numbers _ _ parts.0 in
    let names : a.institution ≡ b.institution = exact_bytes _ _ parts.1 in
    λ i. record { paper = papers i; institution = names i }

-- what a list is with one more key, by where that stands against the first
at_put : (P : List GroupKey → Type 0) (new key : GroupKey) (keys : List GroupKey)
    → (key_cmp new key ≡ Less → P (new ∷ (key ∷ keys))) → (key_cmp new key ≡ Equal → P (key ∷ keys)) → (key_cmp new key ≡ Greater → P (key ∷ put_key new keys))
    → P (put_key new (key ∷ keys))
at_put P new key keys less equal greater = by (key_cmp new key) less equal greater
  where
    by : (r : Ordering) → (r ≡ Less → P (new ∷ (key ∷ keys))) → (r ≡ Equal → P (key ∷ keys)) → (r ≡ Greater → P (key ∷ put_key new keys))
        → P (match_ordering r (new ∷ (key ∷ keys)) (key ∷ keys) (key ∷ put_key new keys))
    by Less less equal greater = less refl
    by Equal less equal greater = equal refl
    by Greater less equal greater = greater refl

-- what holds of the new key and of each key of a list holds of each key of the longer list
all_put : (P : GroupKey → Type 0) (new : GroupKey) (keys : List GroupKey) → P new → AllByRecursion P keys → AllByRecursion P (put_key new keys)
all_put P new [] p all = (p, tt)
all_put P new (key ∷ keys) p all =
    at_put (λ list. AllByRecursion P list) new key keys (λ e. (p, all)) (λ e. all) (λ e. (all.0, all_put P new keys p all.1))

all_above : (a b : GroupKey) (keys : List GroupKey) → key_cmp a b ≡ Less → AllByRecursion (λ y. key_cmp b y ≡ Less) keys → AllByRecursion (λ y. key_cmp a y ≡ Less) keys
all_above a b [] h all = tt
all_above a b (key ∷ keys) h all = (key_cmp_total.trans a b key h all.0, all_above a b keys h all.1)

turned : (a b : GroupKey) → key_cmp a b ≡ Greater → key_cmp b a ≡ Less
turned a b e = key_cmp_total.antisymm b a ∙ ap ordering_reverse e

-- the longer list still ascends
pub sorted_put : (new : GroupKey) (keys : List GroupKey) → IsStrictlySortedBy key_cmp keys → IsStrictlySortedBy key_cmp (put_key new keys)
unfolding IsStrictlySortedBy
sorted_put new [] s = (tt, tt)
sorted_put new (key ∷ keys) s =
    at_put (λ list. IsStrictlySortedBy key_cmp list) new key keys
    (λ e. ((e, all_above new key keys e s.0), s))
    (λ e. s)
    (λ e. (all_put (λ y. key_cmp key y ≡ Less) new keys (turned new key e) s.0, sorted_put new keys s.1))

-- the new key stands in the longer list
pub new_in_put : (new : GroupKey) (keys : List GroupKey) → IsIn new (put_key new keys)
new_in_put new [] = inl refl
new_in_put new (key ∷ keys) =
    at_put (λ list. IsIn new list) new key keys (λ e. inl refl) (λ e. inl (sym (same_keys new key e))) (λ e. inr (new_in_put new keys))

-- and so do those that stood there
pub old_in_put : (new old : GroupKey) (keys : List GroupKey) → IsIn old keys → IsIn old (put_key new keys)
old_in_put new old [] h = absurd h
old_in_put new old (key ∷ keys) h =
    at_put (λ list. IsIn old list) new key keys (λ e. inr h) (λ e. h)
    (λ e. elim h as (λ _. IsIn old (key ∷ put_key new keys)) [ inl same ↦ inl same | inr rest ↦ inr (old_in_put new old keys rest) ])

-- and no other one
pub in_put_cases : (new some : GroupKey) (keys : List GroupKey) → IsIn some (put_key new keys) → (new ≡ some) ⊎ IsIn some keys
in_put_cases new some [] (inl e) = inl e
in_put_cases new some [] (inr h) = absurd h
in_put_cases new some (key ∷ keys) h =
    at_put (λ list. IsIn some list → (new ≡ some) ⊎ IsIn some (key ∷ keys)) new key keys
    (λ e h. h) (λ e h. inr h) (λ e h. beyond new some key keys (in_put_cases new some keys) h) h
  where
    beyond : (new some key : GroupKey) (keys : List GroupKey) → (IsIn some (put_key new keys) → (new ≡ some) ⊎ IsIn some keys)
        → IsIn some (key ∷ put_key new keys) → (new ≡ some) ⊎ IsIn some (key ∷ keys)
    beyond new some key keys rest (inl e) = inr (inl e)
    beyond new some key keys rest (inr h) = elim (rest h) as (λ _. (new ≡ some) ⊎ IsIn some (key ∷ keys)) [ inl e ↦ inl e | inr h ↦ inr (inr h) ]

-- it is at most one key longer
pub length_put : (new : GroupKey) (keys : List GroupKey) → length (put_key new keys) ≤ length keys + 1
length_put new [] = omega arith
length_put new (key ∷ keys) =
    let rest = length_put new keys in
    at_put (λ list. length list ≤ length (key ∷ keys) + 1) new key keys (λ e. omega arith) (λ e. omega arith) (λ e. omega arith)
