-- Names behind references: in order, each once, and found by a search.
use Rattle.std.proofs.Common.{◌≡◌, ℕ, zero, suc, ◌+◌, ◌<◌, ◌≤◌, inl, inr, false, List, [], ◌∷◌, ◌++◌, length, get_or, Some, None, Ordering, nat_eq, refl, sym, ap, ◌∙◌, subst, arith}
use Rattle.std.specs.declared.cmp.Ordering.TheVariants.{Less, Equal, Greater}
use Rattle.std.specs.Ordering.{nat_cmp, ordering_reverse, ordering_index, is_lt}
use Rattle.std.specs.Cmp.Lexicographic.{slice_cmp, on_texts_equal, same_text}
use Rattle.std.specs.List.{AllByRecursion, Any, Contains, dedup}
use Rattle.std.specs.List.Sorted.{IsStrictlySortedBy, IsSortedBy, IsNonDecreasingBy, IsPartitionPoint, IsPermutation}
use Rattle.std.proofs.lemmas.Bool.{cases_lt}
use Rattle.std.proofs.lemmas.Cmp.{nat_list_cmp_total, tied_itself}
use Rattle.std.proofs.lemmas.List.{get_or_read, get_or-map, length-map, map_push, length_push, get_or_append_left, get_or_push}
use Rattle.std.proofs.lemmas.List.Sorted.{Contains-permutation, searchable_from_sorted}
use Rattle.std.proofs.lemmas.List.Kept.{Any-dedup}
use Rattle.std.proofs.lemmas.Map.Keys.{Less-from_sorted}
use Rattle.std.proofs.lemmas.Option.{none-some, same_Some}
use Rattle.std.proofs.lemmas.Map.Lookups.{exact_bytes}
use denote.Ref.{Bor}
use lib.Pointwise.{pointwise}
use Rattle.match_rules.specs.Rules.{id_cmp, reviewer_in, no_reviewer}
use Rattle.match_rules.specs.declared.rules.RuleReviewer.{RuleReviewer}
use Rattle.match_rules.specs.GroupTable.{texts, IsPlaceOf, HasName}

abbrev by_text : Bor (List ℕ) → Bor (List ℕ) → Ordering
by_text x y = slice_cmp nat_cmp x.now y.now

all_texts : (x : Bor (List ℕ)) (xs : List (Bor (List ℕ))) → AllByRecursion (λ y. by_text x y ≡ Less) xs → AllByRecursion (λ y. id_cmp x.now y ≡ Less) (texts xs)
all_texts x [] all = tt
all_texts x (y ∷ ys) all = (all.0, all_texts x ys all.1)

-- references in the order of their texts have texts in order
pub sorted_texts : (xs : List (Bor (List ℕ))) → IsStrictlySortedBy by_text xs → IsStrictlySortedBy id_cmp (texts xs)
unfolding IsStrictlySortedBy
sorted_texts [] s = tt
sorted_texts (x ∷ xs) s = (all_texts x xs s.0, sorted_texts xs s.1)

length_texts : (xs : List (Bor (List ℕ))) → length (texts xs) ≡ length xs
length_texts xs = length-map xs (λ (r : Bor (List ℕ)). r.now)

text_at : (xs : List (Bor (List ℕ))) (k : ℕ) (d : Bor (List ℕ)) → k < length xs → get_or (texts xs) k [] ≡ (get_or xs k d).now
text_at xs k d h = get_or-map (λ (r : Bor (List ℕ)). r.now) xs k d [] h

-- a name that stands among the texts is that of a reference
pub reference_of : (xs : List (Bor (List ℕ))) (name : List ℕ) → HasName (texts xs) name → (x : Bor (List ℕ)) × (Contains xs x × (x.now ≡ name))
reference_of [] name (place, (within, is)) = absurd (omega (arith, within))
reference_of (x ∷ xs) name (zero, (within, is)) = (x, ((0, omega arith, refl), is))
reference_of (x ∷ xs) name (suc place, (within, is)) =
    let rest = reference_of xs name (place, (omega (arith, within), is)) in
    (rest.0, ((suc rest.1.0.0, omega (arith, rest.1.0.1), rest.1.0.2), rest.1.1))

-- and the text of a reference stands among them
pub has_text : (xs : List (Bor (List ℕ))) (name : List ℕ) → Any (λ y. y.now ≡ name) xs → HasName (texts xs) name
has_text xs name (k, x, within, at, is) =
    (k, (omega (arith, length_texts xs), text_at xs k x within ∙ ap (λ (r : Bor (List ℕ)). r.now) at ∙ is))

-- what a search found
pub found_name : (xs : List (Bor (List ℕ))) (name : Bor (List ℕ)) (place : ℕ) → place < length xs → by_text (get_or xs place name) name ≡ Equal → IsPlaceOf (texts xs) name.now place
found_name xs name place within tie = (omega (arith, length_texts xs), text_at xs place name within ∙ exact_bytes _ _ tie)

not_lower : (a b : List ℕ) → id_cmp a b ≡ Less → is_lt (id_cmp b a) ≡ false
not_lower a b e = ap is_lt (nat_list_cmp_total.antisymm b a ∙ ap ordering_reverse e)

by_search : (xs : List (Bor (List ℕ))) → IsStrictlySortedBy id_cmp (texts xs) → IsSortedBy (λ a b. is_lt (by_text a b)) xs
by_search xs s k d low within =
    let lower : id_cmp (get_or (texts xs) k []) (get_or (texts xs) (k + 1) []) ≡ Less = Less-from_sorted id_cmp (texts xs) k (k + 1) [] s (omega arith) (omega (arith, length_texts xs)) in
    not_lower (get_or xs k d).now (get_or xs (k + 1) d).now (rw (text_at xs k d (omega arith), text_at xs (k + 1) d within) at lower)

-- a search among names that ascend finds a name that stands there
pub not_missing : (xs : List (Bor (List ℕ))) (name : Bor (List ℕ)) (i : ℕ) → IsStrictlySortedBy id_cmp (texts xs) → HasName (texts xs) name.now
    → (IsNonDecreasingBy (λ y. ordering_index (by_text y name)) xs → IsPartitionPoint (λ y. by_text y name ≡ Less) (λ y. by_text y name ≡ Greater) xs i) → ⊥
not_missing xs name i s has splits =
    let parts = splits (searchable_from_sorted nat_list_cmp_total (λ (r : Bor (List ℕ)). r.now) xs name.now (by_search xs s)) in
    let within : has.0 < length xs = omega (arith, has.1.0, length_texts xs) in
    let tie : by_text (get_or xs has.0 name) name ≡ Equal =
    ap (λ text. id_cmp text name.now) (sym (text_at xs has.0 name within) ∙ has.1.1) ∙ tied_itself nat_list_cmp_total name.now in
    elim (cases_lt has.0 i) as (λ _. ⊥) [
      | inl below ↦ let less = parts.0 has.0 name (omega arith) below in cc (less, tie)
      | inr above ↦ let greater = parts.1 has.0 name above within in cc (greater, tie)
    ]

-- a name is kept where the references are sorted and each of equal texts but one is dropped
pub kept_names : (xs ys : List (Bor (List ℕ))) (name : List ℕ) → IsPermutation xs ys → HasName (texts xs) name
    → HasName (texts (dedup (λ x y. pointwise nat_eq x.now y.now) ys)) name
kept_names xs ys name moved has =
    let found = reference_of xs name has in
    let kept = Any-dedup (on_texts_equal (λ (r : Bor (List ℕ)). r.now)) ys found.0 (Contains-permutation xs ys found.0 moved found.1.0) in
    has_text (dedup (λ x y. pointwise nat_eq x.now y.now) ys) name
    (kept.0, kept.1, kept.2, kept.3, sym (same_text found.0.now kept.1.now (sym kept.4)) ∙ found.1.1)

-- a list of references with one more still has a name, and has the new one
pub has_before : (xs : List (Bor (List ℕ))) (x : Bor (List ℕ)) (name : List ℕ) → HasName (texts xs) name → HasName (texts (xs ++ x ∷ [])) name
has_before xs x name (place, (within, is)) =
    rw (map_push (λ (r : Bor (List ℕ)). r.now) xs x)
    (place, (omega (arith, length_push (texts xs) x.now), get_or_append_left (texts xs) (x.now ∷ []) [] place within ∙ is))

pub has_last : (xs : List (Bor (List ℕ))) (x : Bor (List ℕ)) → HasName (texts (xs ++ x ∷ [])) x.now
has_last xs x =
    rw (map_push (λ (r : Bor (List ℕ)). r.now) xs x)
    (length (texts xs), (omega (arith, length_push (texts xs) x.now), get_or_push (texts xs) x.now [] (length (texts xs)) refl))

-- the institutions of the reviewers below a place are among the names
abbrev pub AreNamedBelow : List (List ℕ) → List RuleReviewer → ℕ → Type 0
AreNamedBelow names reviewers n = (r : ℕ) (name : List ℕ) → r < n → (reviewer_in reviewers r).institution ≡ Some name → HasName names name

-- one reviewer more, with an institution
pub named_more : (xs ys : List (Bor (List ℕ))) (x : Bor (List ℕ)) (reviewers : List RuleReviewer) (i : ℕ) (item : RuleReviewer)
    → ys ≡ xs ++ x ∷ [] → i < length reviewers → item ≡ get_or reviewers i item → item.institution ≡ Some x.now
    → AreNamedBelow (texts xs) reviewers i → AreNamedBelow (texts ys) reviewers (i + 1)
named_more xs ys x reviewers i item e within at is named r name below has =
    rw e (elim (cases_lt r i) as (λ _. HasName (texts (xs ++ x ∷ [])) name) [
      | inl before ↦ has_before xs x name (named r name before has)
      | inr last ↦
          let same : r ≡ i = omega arith in
          let read : item ≡ reviewer_in reviewers i = get_or_read reviewers i item within at no_reviewer in
          let there : (reviewer_in reviewers i).institution ≡ Some name = ap (λ k. (reviewer_in reviewers k).institution) (sym same) ∙ has in
          let text : x.now ≡ name = same_Some _ _ (sym is ∙ ap (λ (v : RuleReviewer). v.institution) read ∙ there) in
          subst (HasName (texts (xs ++ x ∷ []))) text (has_last xs x)
    ])

-- and one without
pub named_same : (xs : List (Bor (List ℕ))) (reviewers : List RuleReviewer) (i : ℕ) (item : RuleReviewer)
    → i < length reviewers → item ≡ get_or reviewers i item → item.institution ≡ None
    → AreNamedBelow (texts xs) reviewers i → AreNamedBelow (texts xs) reviewers (i + 1)
named_same xs reviewers i item within at is named r name below has =
    elim (cases_lt r i) as (λ _. HasName (texts xs) name) [
      | inl before ↦ named r name before has
      | inr last ↦
          let same : r ≡ i = omega arith in
          let read : item ≡ reviewer_in reviewers i = get_or_read reviewers i item within at no_reviewer in
          let there : (reviewer_in reviewers i).institution ≡ Some name = ap (λ k. (reviewer_in reviewers k).institution) (sym same) ∙ has in
          absurd (none-some name (sym is ∙ ap (λ (v : RuleReviewer). v.institution) read ∙ there))
    ]

pub few_more : (xs ys : List (Bor (List ℕ))) (x : Bor (List ℕ)) (i : ℕ) → ys ≡ xs ++ x ∷ [] → length xs ≤ i → length ys ≤ i + 1
few_more xs ys x i e few = rw e (omega (arith, length_push xs x))
