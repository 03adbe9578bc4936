-- Lowering the potentials of nodes one after another.
use Rattle.std.proofs.Common.{◌≡◌, ◌≢◌, ℕ, rules, ◌^◌, ◌+◌, ◌<◌, List, length, sym, ap, ◌∙◌, arith, below_more, get_or-set_same, get_or-set_other}
use Rattle.std.specs.Prelude.{ℤ, pos, ◌+ℤ◌, ◌-ℤ◌, ◌≤ℤ◌, ◌↔◌, true, eqb, FitsSigned, slice_set}
use Rattle.std.specs.Int.{w64}
use Rattle.flow_solver.specs.State.{IsWithin}
use Rattle.std.proofs.Common.{to_z, of_z}
use Rattle.std.proofs.lemmas.Bool.{eqb-true, eq-eqb}
use Rattle.std.proofs.lemmas.Int.{to_z-of_z}
use Rattle.std.proofs.Math.ListN.{length-set}
use Rattle.bounded_network.specs.Network.{potential_at}

-- what is updated up to a place, by the nodes of the places and what each decreases by
pub record UpdatedTo (node decrease : ℕ → ℕ) (old now : List ℤ) (place : ℕ) : Type 0 where
  pub long : length now ≡ length old
  pub updated : (i : ℕ) → i < place → potential_at now (node i) ≡ potential_at old (node i) -ℤ pos (decrease (node i))
  pub rest : (v : ℕ) → ((i : ℕ) → i < place → node i ≢ v) → potential_at now v ≡ potential_at old v

pub updated_more : (node decrease : ℕ → ℕ) (old now : List ℤ) (place count : ℕ) (value : ℤ) → UpdatedTo node decrease old now place → place < count
    → ((i j : ℕ) → i < j → j < count → node i ≢ node j) → node place < length old
    → value ≡ potential_at now (node place) -ℤ pos (decrease (node place)) → UpdatedTo node decrease old (slice_set now (node place) value) (place + 1)
updated_more node decrease old now place count value before lt separate within is = record {
  long = length-set now (node place) value ∙ before.long;
  updated = below_more (λ i. potential_at (slice_set now (node place) value) (node i) ≡ potential_at old (node i) -ℤ pos (decrease (node i))) place
      (λ i h. let other : node i ≢ node place = separate i place h lt in rw get_or-set_other (before.updated i h))
      (let inside : node place < length now = omega (arith, before.long, within) in
      rw get_or-set_same (is ∙ ap (λ z. z -ℤ pos (decrease (node place))) (before.rest (node place) (λ i h. separate i place h lt))));
  rest = λ v apart.
      let other : v ≢ node place = λ e. apart place (omega arith) (sym e) in
      rw get_or-set_other (before.rest v (λ i h. apart i (omega arith)));
}

-- a potential within the bound of the solver fits its type
pub within_fits : (z : ℤ) → IsWithin (2 ^ 60) z → FitsSigned w64 z
within_fits z h =
    let low : pos 0 ≤ℤ (z +ℤ pos (2 ^ 60)) = h.low in
    let high : z ≤ℤ pos (2 ^ 60) = h.high in
    search rules

-- a signed number is 0 exactly where its bits are
pub zero_bits : (z : ℤ) → FitsSigned w64 z → (eqb (of_z w64 z) 0 ≡ true) ↔ (z ≡ pos 0)
zero_bits z fits = (λ same. sym (to_z-of_z w64 z fits) ∙ ap (to_z w64) (eqb-true (of_z w64 z) 0 same), λ none. eq-eqb (of_z w64 z) 0 (ap (of_z w64) none))
