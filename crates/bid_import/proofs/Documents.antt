-- Documents of settings as lists, read one by one.
use Rattle.std.proofs.Common.{◌≡◌, ℕ, zero, suc, ◌<◌, Bool, false, List, [], ◌∷◌, ◌++◌, length, map, get_or, Option, Some, None, Ok, Err, Bor, string_bytes, refl, sym, ap, ◌∙◌, inl, inr, arith, append_assoc, append-nil}
use Rattle.std.specs.Prelude.{option_map, option_and_then, ok_or, ◌&&◌}
use Rattle.std.specs.List.{list_all, list_any}
use Rattle.std.specs.Str.{bytes_eq}
use Rattle.std.proofs.lemmas.Bool.{cases_Bool}
use Rattle.std.proofs.lemmas.Option.{same_Some}
use Rattle.toml.specs.Data.{Data}
use Rattle.toml.specs.View.{view, items_view, members_view}
use Rattle.toml.specs.declared.value.Value.{Value}
use Rattle.toml.proofs.Views.{Entry}
use Rattle.bid_import.specs.declared.fault.Key.{Key}
use Rattle.bid_import.specs.declared.document.KeyFault.{KeyFault}
use Rattle.bid_import.specs.declared.document.KeyFault.TheVariants.{Memory, At}
use Rattle.bid_import.specs.Documents.{ReadsKey, ReadsItems}
use Rattle.bid_import.specs.Settings.{listed, entries, each, knows}
use Rattle.bid_import.proofs.Names.{bytes_of, any-map}

pub listed-view : (vs : List Value) → listed (items_view vs) ≡ map view vs
listed-view [] = refl
listed-view (v ∷ vs) = ap (λ ds. view v ∷ ds) (listed-view vs)

pub entries-length : (es : List Entry) → length (entries (members_view es)) ≡ length es
entries-length [] = refl
entries-length (e ∷ es) = ap suc (entries-length es)

-- what is done, and then what the rest reads as
abbrev pub after : {A B : Type 0} → (A → Option B) → List B → List A → Option (List B)
after read done rest = option_map (λ more. done ++ more) (each read rest)

pub after-more : {A B : Type 0} (read : A → Option B) (done : List B) (x : A) (rest : List A) (y : B) → read x ≡ Some y → after read done (x ∷ rest) ≡ after read (done ++ y ∷ []) rest
after-more {A} {B} read done x rest y e = rw e (joined (each read rest))
  where
    joined : (o : Option (List B)) → option_map (λ more. done ++ more) (option_map (λ ys. y ∷ ys) o) ≡ option_map (λ more. (done ++ y ∷ []) ++ more) o
    joined None = refl
    joined (Some xs) = ap Some (sym (append_assoc done (y ∷ []) xs))

pub after-stop : {A B : Type 0} (read : A → Option B) (done : List B) (x : A) (rest : List A) → read x ≡ None → after read done (x ∷ rest) ≡ None
after-stop read done x rest e = rw e refl

pub after-end : {A B : Type 0} (read : A → Option B) (done : List B) → after read done [] ≡ Some done
after-end read done = ap Some (append-nil done)

-- the parts of a list that reads as another

pub each-parts : {A B : Type 0} (read : A → Option B) (x : A) (xs : List A) (zs : List B) → each read (x ∷ xs) ≡ Some zs → (y : B) × (ys : List B) × (read x ≡ Some y) × (each read xs ≡ Some ys) × (zs ≡ y ∷ ys)
each-parts {A} {B} read x xs zs h = parts (read x) (each read xs) h
  where
    parts : (o : Option B) (p : Option (List B)) → option_and_then (λ y. option_map (λ ys. y ∷ ys) p) o ≡ Some zs → (y : B) × (ys : List B) × (o ≡ Some y) × (p ≡ Some ys) × (zs ≡ y ∷ ys)
    parts None p e = absurd (cc)
    parts (Some y) None e = absurd (cc)
    parts (Some y) (Some ys) e = (y, ys, refl, refl, sym (same_Some _ _ e))

pub each-length : {A B : Type 0} (read : A → Option B) (xs : List A) (ys : List B) → each read xs ≡ Some ys → length ys ≡ length xs
each-length read [] ys h = ap length (sym (same_Some _ _ h))
each-length read (x ∷ xs) ys h =
    let (y, more, first, rest, all) = each-parts read x xs ys h in
    ap length all ∙ ap suc (each-length read xs more rest)

-- what a test that passes or fails gives

pub refused-by : {A : Type 0} (o : Option A) (k at_fault : Key) → ok_or o k ≡ Err at_fault → (o ≡ None) × (k ≡ at_fault)
refused-by None k at_fault h = (refl, cc)
refused-by (Some x) k at_fault h = absurd (cc)

pub given-by : {A : Type 0} (o : Option A) (k : Key) (x : A) → ok_or o k ≡ Ok x → o ≡ Some x
given-by None k x h = absurd (cc)
given-by (Some y) k x h = cc

-- where a part is refused the whole is
pub refused-with : {A B : Type 0} (fault : KeyFault) (o : Option A) (p : Option (List B)) (k : Key) → ReadsKey {A = A} (Err fault) (ok_or o k) → (o ≡ None → p ≡ None) → ReadsItems {A = B} (Err fault) (ok_or p k)
refused-with Memory o p k h none = tt
refused-with (At at_fault) o p k h none = let two = refused-by o k at_fault h in let whole = none two.0 in rw (whole, two.1) refl

-- keys

pub knows-step : (keys : List (Bor (List ℕ))) (e : Entry) (es : List Entry)
    → knows (bytes_of keys) (members_view (e ∷ es)) ≡ (list_any (λ (k : Bor (List ℕ)). bytes_eq k.now (string_bytes e.0)) keys && knows (bytes_of keys) (members_view es))
knows-step keys e es = ap (λ t. t && knows (bytes_of keys) (members_view es)) (any-map (string_bytes e.0) keys)

-- one that fails among all
pub one-fails : (test : Data → Bool) (vs : List Value) (i : ℕ) (d : Value) → i < length vs → test (view (get_or vs i d)) ≡ false → list_all test (map view vs) ≡ false
one-fails test [] i d lt bad = absurd (omega arith)
one-fails test (v ∷ vs) zero d lt bad = rw bad refl
one-fails test (v ∷ vs) (suc i) d lt bad =
    let rest = one-fails test vs i d (omega arith) bad in
    elim (cases_Bool (test (view v))) [ inl e ↦ rw (e, rest) refl | inr e ↦ rw e refl ]
