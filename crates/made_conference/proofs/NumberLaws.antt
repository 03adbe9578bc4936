-- Draws one after the other.
use Rattle.std.proofs.Common.{◌≡◌, ℕ, ◌+◌, ◌*◌, ◌%◌, refl, sym, ap, ◌∙◌, add-one}
use Rattle.std.proofs.Math.Nat.{mod-add-mod}
use Rattle.std.proofs.lemmas.Nat.{mul-mod_first}
use Rattle.made_conference.specs.Numbers.{next_state, state_after}

-- a state that is reduced first leaves the same one
pub reduced : (a b c m : ℕ) → (a % m * b + c) % m ≡ (a * b + c) % m
reduced a b c m = sym (mod-add-mod (a % m * b) m c) ∙ ap (λ (x : ℕ). (x + c) % m) (mul-mod_first a b m) ∙ mod-add-mod (a * b) m c

pub state_more : (seed draws : ℕ) → state_after seed (draws + 1) ≡ next_state (state_after seed draws)
unfolding state_after
state_more seed draws = rw add-one refl
