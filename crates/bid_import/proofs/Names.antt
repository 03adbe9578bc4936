-- The distinct names of a field, one after another.
use Rattle.std.proofs.Common.{◌≡◌, ℕ, suc, zero, ◌+◌, ◌<◌, ◌≤◌, List, [], ◌∷◌, ◌++◌, length, take, drop, get_or, map, true, false, Bor, refl, sym, ap, ◌∙◌, inl, inr, arith, length-append}
use Rattle.std.specs.Prelude.{◌==◌}
use Rattle.std.specs.List.{list_any, list_all, slice_split}
use Rattle.match_rules.specs.Id.{is_institution}
use Rattle.std.specs.Str.{bytes_eq}
use Rattle.std.proofs.lemmas.Bool.{cases_Bool}
use Rattle.std.proofs.lemmas.List.{map-append}
use Rattle.bid_import.specs.Fields.{with_name, new_names, names_in}

abbrev pub bytes_of : List (Bor (List ℕ)) → List (List ℕ)
bytes_of names = map (λ (n : Bor (List ℕ)). n.now) names

pub any-map : (name : List ℕ) (known : List (Bor (List ℕ))) → list_any (λ (other : List ℕ). bytes_eq other name) (bytes_of known) ≡ list_any (λ (other : Bor (List ℕ)). bytes_eq other.now name) known
any-map name [] = refl
any-map name (k ∷ ks) = let rest = any-map name ks in rw rest refl

pub new_names-append : (known xs ys : List (List ℕ)) → new_names known (xs ++ ys) ≡ new_names (new_names known xs) ys
new_names-append known [] ys = refl
new_names-append known (x ∷ xs) ys = new_names-append (with_name known x) xs ys

with_name-le : (known : List (List ℕ)) (name : List ℕ) → length known ≤ length (with_name known name)
with_name-le known name =
    elim (cases_Bool (list_any (λ other. bytes_eq other name) known)) [
      | inl e ↦ rw e (omega arith)
      | inr e ↦ rw e (omega (arith, length-append known (name ∷ [])))
    ]

pub new_names-le : (known names : List (List ℕ)) → length known ≤ length (new_names known names)
new_names-le known [] = omega arith
new_names-le known (name ∷ names) = omega (arith, with_name-le known name, new_names-le (with_name known name) names)

-- a name that is known already
pub stays : (known yielded : List (Bor (List ℕ))) (name : Bor (List ℕ)) → bytes_of known ≡ new_names [] (bytes_of yielded) → list_any (λ (other : Bor (List ℕ)). bytes_eq other.now name.now) known ≡ true
    → bytes_of known ≡ new_names [] (bytes_of (yielded ++ name ∷ []))
stays known yielded name so_far there =
    let test : list_any (λ other. bytes_eq other name.now) (new_names [] (bytes_of yielded)) ≡ true = ap (list_any (λ other. bytes_eq other name.now)) (sym so_far) ∙ any-map name.now known ∙ there in
    let step : new_names (new_names [] (bytes_of yielded)) (name.now ∷ []) ≡ new_names [] (bytes_of yielded) = rw test refl in
    so_far ∙ sym step ∙ sym (new_names-append [] (bytes_of yielded) (name.now ∷ [])) ∙ ap (new_names []) (sym (map-append (λ (n : Bor (List ℕ)). n.now) yielded (name ∷ [])))

-- a new one
pub grows : (known yielded : List (Bor (List ℕ))) (name : Bor (List ℕ)) → bytes_of known ≡ new_names [] (bytes_of yielded) → list_any (λ (other : Bor (List ℕ)). bytes_eq other.now name.now) known ≡ false
    → bytes_of (known ++ name ∷ []) ≡ new_names [] (bytes_of (yielded ++ name ∷ []))
grows known yielded name so_far missing =
    let test : list_any (λ other. bytes_eq other name.now) (new_names [] (bytes_of yielded)) ≡ false = ap (list_any (λ other. bytes_eq other name.now)) (sym so_far) ∙ any-map name.now known ∙ missing in
    let step : new_names (new_names [] (bytes_of yielded)) (name.now ∷ []) ≡ new_names [] (bytes_of yielded) ++ name.now ∷ [] = rw test refl in
    map-append (λ (n : Bor (List ℕ)). n.now) known (name ∷ []) ∙ ap (λ ns. ns ++ name.now ∷ []) so_far ∙ sym step ∙ sym (new_names-append [] (bytes_of yielded) (name.now ∷ [])) ∙ ap (new_names []) (sym (map-append (λ (n : Bor (List ℕ)). n.now) yielded (name ∷ [])))

split-at : (i : ℕ) (xs : List (List ℕ)) (d : List ℕ) → i < length xs → xs ≡ take i xs ++ get_or xs i d ∷ drop (suc i) xs
split-at i [] d lt = absurd (omega arith)
split-at zero (x ∷ xs) d lt = refl
split-at (suc i) (x ∷ xs) d lt = ap (λ ys. x ∷ ys) (split-at i xs d (omega arith))

-- the sixty-fifth name is too many
pub too_many : (text : List ℕ) (known yielded : List (Bor (List ℕ))) (name : Bor (List ℕ)) → (length text == 0) ≡ false
    → bytes_of yielded ≡ take (length yielded) (slice_split (λ b. b == 59) text) → (length yielded < length (slice_split (λ b. b == 59) text)) × (name.now ≡ get_or (slice_split (λ b. b == 59) text) (length yielded) name.now)
    → bytes_of known ≡ new_names [] (bytes_of yielded) → list_any (λ (other : Bor (List ℕ)). bytes_eq other.now name.now) known ≡ false → 64 ≤ length known → 64 < length (names_in text)
too_many text known yielded name some front turn so_far missing full =
    let all = slice_split (λ b. b == 59) text in
    let parts : all ≡ take (length yielded) all ++ name.now ∷ drop (suc (length yielded)) all = split-at (length yielded) all name.now turn.0 ∙ ap (λ n. take (length yielded) all ++ n ∷ drop (suc (length yielded)) all) (sym turn.1) in
    let rest = drop (suc (length yielded)) all in
    let test : list_any (λ other. bytes_eq other name.now) (new_names [] (bytes_of yielded)) ≡ false = ap (list_any (λ other. bytes_eq other name.now)) (sym so_far) ∙ any-map name.now known ∙ missing in
    let added : with_name (new_names [] (bytes_of yielded)) name.now ≡ new_names [] (bytes_of yielded) ++ name.now ∷ [] = rw test refl in
    let longer : new_names [] all ≡ new_names (new_names [] (bytes_of yielded) ++ name.now ∷ []) rest =
    ap (new_names []) (parts ∙ ap (λ xs. xs ++ name.now ∷ rest) (sym front)) ∙ new_names-append [] (bytes_of yielded) (name.now ∷ rest) ∙ ap (λ k. new_names k rest) added
    in
    let names : names_in text ≡ new_names [] all = rw some refl in
    let one_more : length (new_names [] (bytes_of yielded) ++ name.now ∷ []) ≡ length known + 1 = length-append (new_names [] (bytes_of yielded)) (name.now ∷ []) ∙ ap (λ n. n + 1) (ap length (sym so_far) ∙ bytes-length known) in
    omega (arith, ap length names, ap length longer, new_names-le (new_names [] (bytes_of yielded) ++ name.now ∷ []) rest, one_more)
  where
    bytes-length : (known : List (Bor (List ℕ))) → length (bytes_of known) ≡ length known
    bytes-length [] = refl
    bytes-length (k ∷ ks) = ap suc (bytes-length ks)

pub all-names : (text : List ℕ) (known yielded : List (Bor (List ℕ))) → (length text == 0) ≡ false → bytes_of yielded ≡ slice_split (λ b. b == 59) text → bytes_of known ≡ new_names [] (bytes_of yielded) → bytes_of known ≡ names_in text
all-names text known yielded some whole so_far = let names : names_in text ≡ new_names [] (slice_split (λ b. b == 59) text) = rw some refl in so_far ∙ ap (new_names []) whole ∙ sym names

pub names-length : (known : List (Bor (List ℕ))) → length (bytes_of known) ≡ length known
names-length [] = refl
names-length (k ∷ ks) = ap suc (names-length ks)

-- a name that is no institution
pub one-bad : (names : List (Bor (List ℕ))) (i : ℕ) (d : Bor (List ℕ)) → i < length names → is_institution (get_or names i d).now ≡ false → list_all is_institution (bytes_of names) ≡ false
one-bad [] i d lt bad = absurd (omega arith)
one-bad (n ∷ ns) zero d lt bad = rw bad refl
one-bad (n ∷ ns) (suc i) d lt bad =
    let rest = one-bad ns i d (omega arith) bad in
    elim (cases_Bool (is_institution n.now)) [ inl e ↦ rw (e, rest) refl | inr e ↦ rw e refl ]
