-- What the entry at a place of a history brought is what the one there in the order of time brought.
use Rattle.std.proofs.Common.{◌≡◌, ◌∷◌, ◌++◌, [], ◌∙◌, ℕ, List, Some, cond, eq-eqb, ne_eqb, ⊎_elim, ap, length, reverse, refl, sym, zero, suc}
use Rattle.std.proofs.lemmas.Bool.{cases_eq}
use Rattle.std.proofs.lemmas.List.{length-reverse, reverse-append, reverse-reverse}
use Rattle.std.specs.List.{slice_get}
use Rattle.desk_history.specs.declared.entries.Entry.{Entry}
use Rattle.desk_history.specs.Histories.{History, brought_at, brought_by}
use Rattle.job_desk.specs.Drawing.{brought_from}

-- behind a list there is one item more
get_end : {A : Type 0} (xs : List A) (x : A) → slice_get (xs ++ x ∷ []) (length xs) ≡ Some x
get_end [] x = refl
get_end (y ∷ xs) x = get_end xs x

get_else : {A : Type 0} (xs : List A) (x : A) (i : ℕ) → (i ≡ length xs → ⊥) → slice_get (xs ++ x ∷ []) i ≡ slice_get xs i
get_else [] x zero other = absurd (other refl)
get_else [] x (suc i) other = refl
get_else (y ∷ xs) x zero other = refl
get_else (y ∷ xs) x (suc i) other = get_else xs x i (λ e. other (ap suc e))

reversed_once : (entry : Entry) (H : History) → reverse (entry ∷ H) ≡ reverse H ++ entry ∷ []
reversed_once entry H = reverse-append (entry ∷ []) H

pub brought_get : (H : History) (place : ℕ) → brought_at H (Some place) ≡ brought_from (slice_get (reverse H) place)
brought_get [] place = refl
brought_get (entry ∷ H) place =
    ⊎_elim (λ (same : place ≡ length H).
    ap (λ t. cond t (brought_by entry) (brought_at H (Some place))) (eq-eqb place (length H) same)
    ∙ sym (ap (λ (xs : List Entry). brought_from (slice_get xs place)) (reversed_once entry H)
    ∙ ap (λ n. brought_from (slice_get (reverse H ++ entry ∷ []) n)) (same ∙ sym (length-reverse H))
    ∙ ap brought_from (get_end (reverse H) entry)))
    (λ (other : place ≡ length H → ⊥).
    ap (λ t. cond t (brought_by entry) (brought_at H (Some place))) (ne_eqb place (length H) other)
    ∙ brought_get H place
    ∙ sym (ap (λ (xs : List Entry). brought_from (slice_get xs place)) (reversed_once entry H)
    ∙ ap brought_from (get_else (reverse H) entry place (λ e. other (e ∙ length-reverse H)))))
    (cases_eq place (length H))

pub brought_here : (entries : List Entry) (place : ℕ) → brought_at (reverse entries) (Some place) ≡ brought_from (slice_get entries place)
brought_here entries place = brought_get (reverse entries) place ∙ ap (λ (xs : List Entry). brought_from (slice_get xs place)) (reverse-reverse entries)
