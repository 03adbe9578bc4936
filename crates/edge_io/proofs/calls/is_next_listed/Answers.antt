use Rattle.std.proofs.Common.{ℕ, ◌≡◌, ◌+◌, ◌≤◌, ◌^◌, List, [], ◌∷◌, get_or, Fits, w64, false, sym, arith, nat_eq, suc}
use Rattle.std.proofs.lemmas.Grind.{common_steps}
use Rattle.edge_io.specs.Memory.{is_listed}
use Rattle.edge_io.proofs.calls.is_next_listed.Goals as goal

-- no number of 64 bits is as great as this one
none_as_great : (number : ℕ) (xs : List ℕ) → ((i : ℕ) → Fits w64 (get_or xs i 0)) → 2 ^ 64 ≤ number → is_listed number xs ≡ false
none_as_great number [] fit great = grind arith
none_as_great number (x ∷ xs) fit great =
    let rest : is_listed number xs ≡ false = none_as_great number xs (λ i. fit (suc i)) great in
    let first : Fits w64 x = fit 0 in
    let other : nat_eq x number ≡ false = grind (arith, common_steps) in
    rw (other, rest) grind arith

pub returns-in-None : goal.returns-in-None
returns-in-None c =
    let past : 2 ^ 64 ≤ c.args.made + 1 = omega (arith, c.in-None.ensures) in
    sym (none_as_great (c.args.made + 1) c.args.fails.now c.type_inv.fails past)
