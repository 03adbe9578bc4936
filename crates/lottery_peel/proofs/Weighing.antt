-- A count may stand for a ticket at least.
use Rattle.std.proofs.Common.{ℕ, zero, suc, ◌-◌, ◌/◌, ◌%◌, ◌<◌, ◌≤◌, arith, inl, inr}
use Rattle.std.specs.Prelude.{◌==◌, if◌then◌else◌}
use Rattle.std.proofs.lemmas.Bool.{cases_eq, eq-eqb, ne_eqb}
use Rattle.lottery_peel.specs.Peeling.{limit}

limit-by : (left count f q : ℕ) → f < left → 1 ≤ (if f == 0 then left else (if count == q then (left - f) else f))
limit-by left count zero q below = omega arith
limit-by left count (suc f) q below =
    let some = ne_eqb (suc f) 0 (λ none. absurd (omega arith)) in
    elim (cases_eq count q) [
      | inl same ↦ rw (some, eq-eqb count q same) (omega arith)
      | inr other ↦ rw (some, ne_eqb count q other) (omega arith)
    ]

pub limit-some : (left amount count : ℕ) → 1 ≤ left → 1 ≤ limit left amount count
limit-some left amount count some =
    let below : amount % left < left = omega arith in
    limit-by left count (amount % left) (amount / left) below
