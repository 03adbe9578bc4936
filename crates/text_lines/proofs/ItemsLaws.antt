-- Many lines of one form, as a loop reads them, and the end of a text.
use Rattle.std.proofs.Common.{◌≡◌, ℕ, suc, ◌+◌, ◌-◌, ◌<◌, ◌≤◌, false, eqb, List, [], ◌∷◌, ◌++◌, length, Result, Ok, Err, refl, sym, ap, subst, append_assoc, arith}
use Rattle.std.proofs.lemmas.Bool.{ne_eqb}
use Rattle.text_lines.specs.declared.fault.LineCode.{LineCode}
use Rattle.text_lines.specs.declared.fault.TextFault.TheVariants.{Trailing}
use Rattle.text_lines.specs.declared.fault.ReadError.{ReadError}
use Rattle.text_lines.specs.Reading.{Cursor, Fails, AllFrom, due, items_at, end_at}
use Rattle.text_lines.proofs.DueLaws.{bind_fails}

pub items_go_on : {A : Type 0} (read : List A → List ℕ → Result A LineCode) (count i : ℕ) (before : List A) (at : Cursor) (x : A) (rest : Cursor) → i < count → due (read before) at ≡ Ok (x, rest)
    → items_at read (count - i) before at ≡ items_at read (count - (i + 1)) (before ++ x ∷ []) rest
unfolding items_at
items_go_on read count i before at x rest lt h =
    let k : count - i ≡ suc (count - (i + 1)) = omega arith in
    rw (k, h) refl

pub items_fail : {A : Type 0} (read : List A → List ℕ → Result A LineCode) (count i : ℕ) (before : List A) (at : Cursor) (e : ReadError) → i < count → Fails e (due (read before) at)
    → Fails e (items_at read (count - i) before at)
unfolding items_at
items_fail read count i before at e lt h =
    let k : count - i ≡ suc (count - (i + 1)) = omega arith in
    rw k (bind_fails e (due (read before) at) (λ x. items_at read (count - (i + 1)) (before ++ x.0 ∷ []) x.1) h)

pub items_done : {A : Type 0} (read : List A → List ℕ → Result A LineCode) (count i : ℕ) (before : List A) (at : Cursor) → count ≤ i → items_at read (count - i) before at ≡ Ok (before, at)
unfolding items_at
items_done read count i before at le =
    let k : count - i ≡ 0 = omega arith in
    rw k refl

-- one more item at the end
pub AllFrom-push : {A : Type 0} (read : List A → List ℕ → Result A LineCode) (before xs : List A) (x : A) → AllFrom read before xs → (line : List ℕ) × (read (before ++ xs) line ≡ Ok x)
    → AllFrom read before (xs ++ x ∷ [])
AllFrom-push {A} read before [] x all h = (subst (λ (b : List A). (line : List ℕ) × (read b line ≡ Ok x)) (append_nil before) h, tt)
  where
    append_nil : {B : Type 0} (xs : List B) → xs ++ [] ≡ xs
    append_nil [] = refl
    append_nil (y ∷ ys) = ap (λ (t : List _). y ∷ t) (append_nil ys)
AllFrom-push {A} read before (y ∷ ys) x all h =
    (all.0, AllFrom-push read (before ++ y ∷ []) ys x all.1 (subst (λ (b : List A). (line : List ℕ) × (read b line ≡ Ok x)) (sym (append_assoc before (y ∷ []) ys)) h))

pub end_ok : (at : Cursor) → at.bytes ≡ [] → end_at at ≡ Ok tt
unfolding end_at
end_ok at none = rw none refl

pub end_bad : (at : Cursor) → 0 < length at.bytes → end_at at ≡ Err Trailing
unfolding end_at
end_bad at some =
    let other : eqb (length at.bytes) 0 ≡ false = ne_eqb _ _ (omega arith) in
    rw other refl
