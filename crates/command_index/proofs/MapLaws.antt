-- What is found in a map of maps after one of them was put in the place of another.
use Rattle.std.proofs.Common.{◌≡◌, ◌∙◌, ◌&&◌, ◌==◌, ℕ, Bool, true, false, List, Option, Some, None, Result, Ok, Err, OnOk, OnErr, cond, ap, sym, refl, bytes_eq}
use Rattle.std.proofs.lemmas.Map.Text.{btree_map_updates_text}
use Rattle.std.proofs.lemmas.Slice.Eq.{bytes_eq-Decides}
use Rattle.std.specs.BTreeMap.{BTreeMap, UpdatesBy, get, get_by_text}
use Rattle.std.specs.Cmp.Lexicographic.{slice_cmp}
use Rattle.std.specs.Global.{Global}
use Rattle.std.specs.Ordering.{nat_cmp}
use Rattle.std.specs.String.{string_bytes, string_cmp}
use Rattle.std.specs.declared.string.String.{String}
use Rattle.command_index.specs.Maps.{number_at}
use Rattle.command_index.specs.declared.index.CommandPlace.{CommandPlace}

number_on : (test : Bool) (numbers : BTreeMap ℕ CommandPlace) (found : Option (BTreeMap ℕ CommandPlace)) (its : ℕ)
    → number_at (cond test (Some numbers) found) its ≡ cond test (get nat_cmp numbers its) (number_at found its)
number_on true numbers found its = refl
number_on false numbers found its = refl

-- a caller's numbers are put
pub put_numbers : (caller : List ℕ) (old new : BTreeMap (String Global) (BTreeMap ℕ CommandPlace)) (numbers : BTreeMap ℕ CommandPlace)
    → UpdatesBy string_cmp (λ k. slice_cmp nat_cmp caller (string_bytes k)) old new (Some numbers) → (by : List ℕ) (its : ℕ)
    → number_at (get_by_text new by) its ≡ cond (bytes_eq caller by) (get nat_cmp numbers its) (number_at (get_by_text old by) its)
put_numbers caller old new numbers updates by its =
    ap (λ found. number_at found its) (btree_map_updates_text caller old new (Some numbers) updates by)
    ∙ number_on (bytes_eq caller by) numbers (get_by_text old by) its

-- a test of both the caller and the number, where the caller's numbers were there
both_tests : (test other : Bool) (found place there : Option CommandPlace) → (test ≡ true → there ≡ found) → cond test (cond other place found) there ≡ cond (test && other) place there
both_tests true true found place there same = refl
both_tests true false found place there same = sym (same refl)
both_tests false other found place there same = refl

one_test : (test : Bool) (found there : Option CommandPlace) → (test ≡ true → there ≡ found) → cond test found there ≡ there
one_test true found there same = sym (same refl)
one_test false found there same = refl

-- what was there of the caller
were_there : (caller by : List ℕ) (old : BTreeMap (String Global) (BTreeMap ℕ CommandPlace)) (numbers : BTreeMap ℕ CommandPlace) (its : ℕ)
    → Some numbers ≡ get_by_text old caller → bytes_eq caller by ≡ true → number_at (get_by_text old by) its ≡ get nat_cmp numbers its
were_there caller by old numbers its there same =
    ap (λ bs. number_at (get_by_text old bs) its) (sym ((bytes_eq-Decides caller by).0 same)) ∙ ap (λ found. number_at found its) (sym there)

-- the caller's numbers with a place put or taken out
pub changed_numbers : (caller : List ℕ) (number : ℕ) (place : Option CommandPlace) (old new : BTreeMap (String Global) (BTreeMap ℕ CommandPlace)) (before after : BTreeMap ℕ CommandPlace)
    → Some before ≡ get_by_text old caller → UpdatesBy string_cmp (λ k. slice_cmp nat_cmp caller (string_bytes k)) old new (Some after)
    → ((its : ℕ) → get nat_cmp after its ≡ cond (number == its) place (get nat_cmp before its)) → (by : List ℕ) (its : ℕ)
    → number_at (get_by_text new by) its ≡ cond (bytes_eq caller by && number == its) place (number_at (get_by_text old by) its)
changed_numbers caller number place old new before after there updates change by its =
    put_numbers caller old new after updates by its
    ∙ ap (λ found. cond (bytes_eq caller by) found (number_at (get_by_text old by) its)) (change its)
    ∙ both_tests (bytes_eq caller by) (number == its) (get nat_cmp before its) place (number_at (get_by_text old by) its) (were_there caller by old before its there)

-- and with none changed
pub same_numbers : (caller : List ℕ) (old new : BTreeMap (String Global) (BTreeMap ℕ CommandPlace)) (before after : BTreeMap ℕ CommandPlace)
    → Some before ≡ get_by_text old caller → UpdatesBy string_cmp (λ k. slice_cmp nat_cmp caller (string_bytes k)) old new (Some after)
    → ((its : ℕ) → get nat_cmp after its ≡ get nat_cmp before its) → (by : List ℕ) (its : ℕ)
    → number_at (get_by_text new by) its ≡ number_at (get_by_text old by) its
same_numbers caller old new before after there updates change by its =
    put_numbers caller old new after updates by its
    ∙ ap (λ found. cond (bytes_eq caller by) found (number_at (get_by_text old by) its)) (change its)
    ∙ one_test (bytes_eq caller by) (get nat_cmp before its) (number_at (get_by_text old by) its) (were_there caller by old before its there)

pub on_ok : {E : Type 0} {P Q : Type 0} (result : Result (Unit {0}) E) → (P → Q) → OnOk result P → OnOk result Q
on_ok (Ok done) map p = map p
on_ok (Err fault) map p = p

pub on_err : {E : Type 0} {P Q : Type 0} (result : Result (Unit {0}) E) → (P → Q) → OnErr result P → OnErr result Q
on_err (Ok done) map p = p
on_err (Err fault) map p = map p
