-- Beginnings of one list.
use Rattle.std.proofs.Common.{◌≡◌, ◌≤◌, ◌⊎◌, inl, inr, Bool, true, false, List, [], ◌∷◌, ◌++◌, length, nat_lt, refl, ap, sym, ◌∙◌, arith, append_assoc, length-append, if◌then◌else◌}
use Rattle.std.proofs.lemmas.Bool.Decides.{nat_tests}
use mathlib.Core.List.{IsPrefix}
use Rattle.turn_lock.specs.Passes.{longer}
use Rattle.turn_lock.specs.Steps.{Meets}

pub prefix_self : {A : Type 0} (xs : List A) → IsPrefix xs xs
prefix_self [] = ([], refl)
prefix_self (x ∷ xs) = (let r = prefix_self xs in r.0, ap (λ ys. x ∷ ys) (prefix_self xs).1)

pub prefix_trans : {A : Type 0} (xs ys zs : List A) → IsPrefix xs ys → IsPrefix ys zs → IsPrefix xs zs
prefix_trans xs ys zs p q = (p.0 ++ q.0, sym (append_assoc xs p.0 q.0) ∙ (ap (λ w. w ++ q.0) p.1 ∙ q.1))

-- of two beginnings of one list the shorter begins the longer
pub prefix_shorter : {A : Type 0} (xs ys zs : List A) → IsPrefix xs zs → IsPrefix ys zs → length xs ≤ length ys → IsPrefix xs ys
prefix_shorter [] ys zs p q le = (ys, refl)
prefix_shorter (x ∷ xs) [] zs p q le = absurd (omega arith)
prefix_shorter (x ∷ xs) (y ∷ ys) [] p q le = absurd (cc (p.1))
prefix_shorter (x ∷ xs) (y ∷ ys) (z ∷ zs) p q le =
    let heads : x ≡ y = cc (p.1, q.1) in
    let rest = prefix_shorter xs ys zs (p.0, cc (p.1)) (q.0, cc (q.1)) (omega arith) in
    (rest.0, cc (heads, rest.1))

pub prefix_length : {A : Type 0} (xs ys : List A) → IsPrefix xs ys → length xs ≤ length ys
prefix_length xs ys p = omega (arith, sym (ap length p.1) ∙ length-append xs p.0)

meets_by : {A : Type 0} (xs ys zs : List A) → IsPrefix xs zs → IsPrefix ys zs → (b : Bool) → nat_lt (length xs) (length ys) ≡ b
    → (IsPrefix xs ys ⊎ IsPrefix ys xs) × IsPrefix xs (if b then ys else xs) × IsPrefix ys (if b then ys else xs) × IsPrefix (if b then ys else xs) zs
meets_by xs ys zs p q true is =
    let le : length xs ≤ length ys = grind (arith, nat_tests) in
    let xy = prefix_shorter xs ys zs p q le in (inl xy, xy, prefix_self ys, q)
meets_by xs ys zs p q false is =
    let le : length ys ≤ length xs = grind (arith, nat_tests) in
    let yx = prefix_shorter ys xs zs q p le in (inr yx, prefix_self xs, yx, p)

-- two beginnings of one list meet, and the longer one is a beginning of it too
pub prefix_meets : {A : Type 0} (xs ys zs : List A) → IsPrefix xs zs → IsPrefix ys zs → Meets xs ys × IsPrefix (longer xs ys) zs
prefix_meets xs ys zs p q = let m = meets_by xs ys zs p q (nat_lt (length xs) (length ys)) refl in ((m.0, m.1, m.2), m.3)

-- what holds of both lists holds of the longer one
pub longer_one : {A : Type 0} (P : List A → Type 0) (xs ys : List A) → P xs → P ys → P (longer xs ys)
longer_one P xs ys p q = elim (nat_lt (length xs) (length ys)) as (λ b. P (if b then ys else xs)) [ true ↦ q | false ↦ p ]
