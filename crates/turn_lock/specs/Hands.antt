-- What a pass holds between two calls.
use Rattle.std.specs.Prelude.{◌≡◌, ℕ, List, [], ◌∷◌, Option, None}
use Rattle.turn_lock.specs.declared.view.Stage.{Stage}
use Rattle.turn_lock.specs.declared.view.Stage.TheVariants.{Idle, Joined, Waits, Holds, Stored}

-- its hand is empty, or it has the turn, and the slot that it holds is empty
abbrev pub Rests : {S E : Type 0} → Stage E → List (ℕ × Option S) → Type 0
Rests Idle hand = hand ≡ []
Rests (Joined told) hand = ⊥
Rests (Waits ticket) hand = ⊥
Rests (Holds ticket held) hand = hand ≡ (0, None) ∷ []
Rests (Stored ticket) hand = ⊥
