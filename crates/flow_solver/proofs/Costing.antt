-- The greatest cost and the unit over the arcs so far.
use Rattle.std.proofs.Common.{◌≡◌, ℕ, ◌+◌, ◌<◌, ◌≤◌, ◌⊎◌, ◌∙◌, arith, inl, inr}
use Rattle.std.specs.Prelude.{max}
use Prim.Native.Nat.{◌∣◌}
use Rattle.std.specs.Int.{IsGcd}
use Rattle.std.proofs.lemmas.Bool.{cases_eq, cases_lt}
use Rattle.std.proofs.lemmas.Nat.Gcd.{dvd_trans}
use Rattle.bounded_network.specs.Network.{NetworkValue}
use Rattle.flow_solver.specs.Costs.{magnitude_at}

-- it is the greatest magnitude of a cost below a place
pub record IsGreatestTo (net : NetworkValue) (i greatest : ℕ) : Type 0 where
  pub most : (a : ℕ) → a < i → magnitude_at net a ≤ greatest
  pub reached : (greatest ≡ 0) ⊎ ((a : ℕ) × (a < i) × (greatest ≡ magnitude_at net a))

pub IsGreatestTo-more : (net : NetworkValue) (i old here new : ℕ) → IsGreatestTo net i old → here ≡ magnitude_at net i → new ≡ max here old → IsGreatestTo net (i + 1) new
IsGreatestTo-more net i old here new was is new_is = record {
  most = λ a b. elim (cases_eq a i) [
    | inl e ↦ rw (e, ← is) (omega (arith, new_is))
    | inr ne ↦ let before = was.most a (omega arith) in omega (arith, before, new_is)
  ];
  reached = elim (cases_lt old here) [
    | inl more ↦ let e : new ≡ here = omega (arith, new_is, more) in inr (i, omega arith, e ∙ is)
    | inr less ↦
        let e : new ≡ old = omega (arith, new_is, less) in
        elim was.reached [
          | inl none ↦ inl (e ∙ none)
          | inr some ↦ inr (some.0, omega (arith, some.1), e ∙ some.2)
        ]
  ];
}

-- it is the unit of the costs below a place
pub record IsUnitTo (net : NetworkValue) (i unit : ℕ) : Type 0 where
  pub divides : (a : ℕ) → a < i → unit ∣ magnitude_at net a
  pub greatest : (d : ℕ) → ((a : ℕ) → a < i → d ∣ magnitude_at net a) → d ∣ unit

pub IsUnitTo-more : (net : NetworkValue) (i old here new : ℕ) → IsUnitTo net i old → here ≡ magnitude_at net i → IsGcd here old new → IsUnitTo net (i + 1) new
IsUnitTo-more net i old here new was is gcd = record {
  divides = λ a b. elim (cases_eq a i) [
    | inl e ↦ rw (e, ← is) gcd.0
    | inr ne ↦ dvd_trans new gcd.1 (was.divides a (omega arith))
  ];
  greatest = λ d all. gcd.2 d (rw is (all i (omega arith))) (was.greatest d (λ a b. all a (omega arith)));
}
