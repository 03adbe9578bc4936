-- The institutions of reviewers: where each stands among their names, and which reviewers are at one.
use Rattle.std.proofs.Common.{◌≡◌, ◌≢◌, ℕ, zero, suc, ◌+◌, ◌<◌, ◌≤◌, Bool, true, false, inl, inr, List, [], ◌∷◌, ◌++◌, length, get_or, take, Option, None, Some, refl, sym, ap, ◌∙◌, subst, arith}
use Rattle.std.proofs.lemmas.Bool.{cases_lt, false_from_ne_true}
use Rattle.std.proofs.lemmas.List.{take_more, map_push, append-nil, take_all}
use Rattle.std.proofs.lemmas.List.Elements.{filter_map-append}
use Rattle.std.proofs.lemmas.Map.Keys.{Less-from_sorted}
use Rattle.std.proofs.lemmas.Slice.Eq.{bytes_eq-Decides}
use Rattle.std.specs.declared.cmp.Ordering.TheVariants.{Less}
use Rattle.std.proofs.lemmas.List.Kept.{Contains-from_dedup}
use Rattle.std.proofs.lemmas.List.Sorted.{Contains-permutation, IsPermutation-sym}
use Rattle.std.specs.List.{cons_option, dedup}
use Rattle.std.specs.List.Sorted.{IsStrictlySortedBy, IsPermutation}
use Rattle.std.specs.Option.{option_map_or}
use Rattle.std.specs.Str.{bytes_eq}
use denote.Ref.{Bor}
use Rattle.match_rules.specs.declared.rules.RuleReviewer.{RuleReviewer}
use Rattle.match_rules.specs.GroupTable.{texts, HasName}
use Rattle.match_rules.specs.Id.{is_institution}
use Rattle.match_rules.specs.Rules.{AreReviewers, id_cmp, reviewer_in}
use Rattle.match_rules.proofs.Ascending.{IsIn, item_at_place}
use Rattle.match_rules.proofs.Names.{reference_of, has_text}
use Rattle.reports.specs.Institutions.{names_of, institutions, is_at}
use Rattle.reports.proofs.OrderLaws.{in_order_ascends, in_order_has, in_order_only, has_from_in, never_below_itself}

-- ---- the names of the reviewers one by one

names_of-more : (reviewers : List RuleReviewer) (i : ℕ) (item : RuleReviewer) → i < length reviewers → item ≡ get_or reviewers i item
    → names_of (take (i + 1) reviewers) ≡ names_of (take i reviewers) ++ cons_option item.institution []
names_of-more reviewers i item within at =
    let h = λ (reviewer : RuleReviewer). reviewer.institution in
    ap names_of (take_more reviewers i item within)
    ∙ filter_map-append h (take i reviewers) (get_or reviewers i item ∷ [])
    ∙ ap (λ (r : RuleReviewer). names_of (take i reviewers) ++ cons_option r.institution []) (sym at)

pub one_name_more : (xs ys : List (Bor (List ℕ))) (x : Bor (List ℕ)) (reviewers : List RuleReviewer) (i : ℕ) (item : RuleReviewer)
    → ys ≡ xs ++ x ∷ [] → i < length reviewers → item ≡ get_or reviewers i item → item.institution ≡ Some x.now
    → texts xs ≡ names_of (take i reviewers) → texts ys ≡ names_of (take (i + 1) reviewers)
one_name_more xs ys x reviewers i item e within at is named =
    ap texts e ∙ map_push (λ (r : Bor (List ℕ)). r.now) xs x ∙ ap (λ names. names ++ x.now ∷ []) named
    ∙ ap (λ o. names_of (take i reviewers) ++ cons_option o []) (sym is) ∙ sym (names_of-more reviewers i item within at)

pub no_name_more : (xs ys : List (Bor (List ℕ))) (reviewers : List RuleReviewer) (i : ℕ) (item : RuleReviewer)
    → ys ≡ xs → i < length reviewers → item ≡ get_or reviewers i item → item.institution ≡ None
    → texts xs ≡ names_of (take i reviewers) → texts ys ≡ names_of (take (i + 1) reviewers)
no_name_more xs ys reviewers i item e within at is named =
    ap texts e ∙ named ∙ sym (append-nil (names_of (take i reviewers)))
    ∙ ap (λ o. names_of (take i reviewers) ++ cons_option o []) (sym is) ∙ sym (names_of-more reviewers i item within at)

pub all_named : (xs : List (List ℕ)) (reviewers : List RuleReviewer) (i : ℕ) → length reviewers ≤ i → xs ≡ names_of (take i reviewers) → xs ≡ names_of reviewers
all_named xs reviewers i end named = named ∙ ap names_of (take_all i reviewers end)

-- ---- which names there are

in_longer : (o : Option (List ℕ)) (name : List ℕ) (names : List (List ℕ)) → IsIn name names → IsIn name (cons_option o names)
in_longer None name names h = h
in_longer (Some other) name names h = inr h

in_names : (reviewers : List RuleReviewer) (r : ℕ) (name : List ℕ) → r < length reviewers → (reviewer_in reviewers r).institution ≡ Some name → IsIn name (names_of reviewers)
in_names [] r name h is = absurd (omega arith)
in_names (first ∷ others) zero name h is = subst (λ o. IsIn name (cons_option o (names_of others))) (sym is) (inl refl)
in_names (first ∷ others) (suc r) name h is = in_longer first.institution name (names_of others) (in_names others r name (omega arith) is)

-- the name is that of a reviewer
abbrev IsOfOne : List RuleReviewer → List ℕ → Type 0
IsOfOne reviewers name = (r : ℕ) × (r < length reviewers) × ((reviewer_in reviewers r).institution ≡ Some name)

of_later : (first : RuleReviewer) (others : List RuleReviewer) (name : List ℕ) → IsOfOne others name → IsOfOne (first ∷ others) name
of_later first others name (r, within, is) = (suc r, omega (arith, within), is)

from_names : (reviewers : List RuleReviewer) (name : List ℕ) → IsIn name (names_of reviewers) → IsOfOne reviewers name
from_names [] name h = absurd h
from_names (first ∷ others) name h = by first.institution refl (λ there. from_names others name there) h
  where
    by : (o : Option (List ℕ)) → first.institution ≡ o → (IsIn name (names_of others) → IsOfOne others name) → IsIn name (cons_option o (names_of others)) → IsOfOne (first ∷ others) name
    by None e later there = of_later first others name (later there)
    by (Some other) e later (inl same) = (zero, omega arith, e ∙ ap (λ x. Some x) same)
    by (Some other) e later (inr there) = of_later first others name (later there)

-- the institution of a reviewer stands among those in order
pub has_institution : (names : List (List ℕ)) (reviewers : List RuleReviewer) (r : ℕ) (name : List ℕ) → names ≡ institutions reviewers
    → r < length reviewers → (reviewer_in reviewers r).institution ≡ Some name → HasName names name
has_institution names reviewers r name are within is =
    rw are (has_from_in name (institutions reviewers) (in_order_has (names_of reviewers) name (in_names reviewers r name within is)))

pub institutions_ascend : (names : List (List ℕ)) (reviewers : List RuleReviewer) → names ≡ institutions reviewers → IsStrictlySortedBy id_cmp names
institutions_ascend names reviewers are = rw are (in_order_ascends (names_of reviewers))

-- each of those is an institution's name
pub names_are_institutions : (names : List (List ℕ)) (reviewers : List RuleReviewer) (i : ℕ) → names ≡ institutions reviewers → AreReviewers reviewers
    → i < length names → is_institution (get_or names i []) ≡ true
names_are_institutions names reviewers i are good within =
    let there : IsIn (get_or names i []) (institutions reviewers) = subst (IsIn (get_or names i [])) are (item_at_place [] names i within) in
    let of = from_names reviewers (get_or names i []) (in_order_only (names_of reviewers) (get_or names i []) there) in
    good.institutions of.0 (get_or names i []) of.1 of.2

-- a name is there before where the references are sorted and some of them are dropped
pub only_names : (E : Bor (List ℕ) → Bor (List ℕ) → Bool) (xs ys : List (Bor (List ℕ))) (name : List ℕ) → IsPermutation xs ys
    → HasName (texts (dedup E ys)) name → HasName (texts xs) name
only_names E xs ys name moved has =
    let found = reference_of (dedup E ys) name has in
    let before = Contains-permutation ys xs found.0 (IsPermutation-sym xs ys moved) (Contains-from_dedup E ys found.0 found.1.0) in
    has_text xs name (before.0, found.0, before.1, before.2, found.1.1)

-- ---- who is at an institution

pub is_at_yes : (x name : List ℕ) (reviewer : RuleReviewer) → reviewer.institution ≡ Some name → x ≡ name → is_at x reviewer ≡ true
is_at_yes x name reviewer is same = ap (λ o. option_map_or (bytes_eq x) o false) is ∙ (bytes_eq-Decides x name).1 same

pub is_at_no : (x name : List ℕ) (reviewer : RuleReviewer) → reviewer.institution ≡ Some name → (x ≡ name → ⊥) → is_at x reviewer ≡ false
is_at_no x name reviewer is other =
    ap (λ o. option_map_or (bytes_eq x) o false) is ∙ false_from_ne_true (bytes_eq x name) (λ e. other ((bytes_eq-Decides x name).0 e))

pub is_at_none : (x : List ℕ) (reviewer : RuleReviewer) → reviewer.institution ≡ None → is_at x reviewer ≡ false
is_at_none x reviewer is = ap (λ o. option_map_or (bytes_eq x) o false) is

-- names that ascend are distinct
pub other_names : (names : List (List ℕ)) (p j : ℕ) → IsStrictlySortedBy id_cmp names → p < length names → j < length names → (p ≡ j → ⊥) → get_or names p [] ≡ get_or names j [] → ⊥
other_names names p j ascends within there other same = elim (cases_lt p j) as (λ _. ⊥) [
  | inl below ↦
      let less = Less-from_sorted id_cmp names p j [] ascends below there in
      never_below_itself (get_or names j []) (subst (λ x. id_cmp x (get_or names j []) ≡ Less) same less)
  | inr above ↦
      let ne : p ≢ j = other in
      let lower : j < p = omega arith in
      let less = Less-from_sorted id_cmp names j p [] ascends lower within in
      never_below_itself (get_or names j []) (subst (λ x. id_cmp (get_or names j []) x ≡ Less) same less)
]
