-- The table of benches after a write.
use Rattle.std.proofs.Common.{zero, suc, ◌≡◌, ◌<◌, ◌≤◌, ◌+◌, ◌∷◌, [], arith, ℕ, List, Option, None, Some, IsSome, length, cond, eqb, get_or, set, get_or-set_same, get_or-set_other, eq-eqb, ne_eqb, ⊎_elim, ap, sym, refl, ◌∙◌}
use Rattle.std.proofs.lemmas.Bool.{cases_eq, false≢true}
use Rattle.desk_history.specs.Courses.{full}
use Rattle.desk_history.specs.Histories.{History, held}

-- the benches are those of the history, but for one that was written
pub bench_put : (H : History) (benches : List (Option ℕ)) (bench : ℕ) (job : Option ℕ) → bench < length benches → (at : ℕ) → get_or benches at None ≡ held H at
    → get_or (set benches bench job) at None ≡ cond (eqb bench at) job (held H at)
bench_put H benches bench job within at found =
    ⊎_elim (λ (same : bench ≡ at). ap (λ (b : ℕ). get_or (set benches bench job) b None) (sym same) ∙ get_or-set_same benches bench job None within ∙ sym (ap (λ t. cond t job (held H at)) (eq-eqb bench at same)))
    (λ (other : bench ≡ at → ⊥). get_or-set_other benches bench at job None (λ e. other (sym e)) ∙ found ∙ sym (ap (λ t. cond t job (held H at)) (ne_eqb bench at other)))
    (cases_eq bench at)

-- The benches that have a job

pub full_bound : (benches : List (Option ℕ)) → full benches ≤ length benches
full_bound [] = omega arith
full_bound (None ∷ benches) = let rest : full benches ≤ length benches = full_bound benches in omega arith
full_bound (Some job ∷ benches) = let rest : full benches ≤ length benches = full_bound benches in omega arith

pub full_none : (benches : List (Option ℕ)) (bench : ℕ) → IsSome (get_or benches bench None) → full (set benches bench None) + 1 ≡ full benches
full_none [] bench some = absurd (false≢true some)
full_none (None ∷ benches) zero some = absurd (false≢true some)
full_none (Some x ∷ benches) zero some = refl
full_none (None ∷ benches) (suc bench) some = full_none benches bench some
full_none (Some x ∷ benches) (suc bench) some = let rest : full (set benches bench None) + 1 ≡ full benches = full_none benches bench some in omega arith
