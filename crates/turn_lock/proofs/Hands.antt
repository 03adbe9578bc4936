-- What is known of a pass between two calls.
use Rattle.std.proofs.Common.{◌≡◌, ℕ, List, [], ◌∷◌, ◌++◌, Option, Some, None, IsSomeAnd, IfSome, IsNone, refl, sym, subst, ◌∙◌}
use Rattle.atomic_table.specs.Seated.{TableId}
use Rattle.turn_lock.specs.declared.view.View.{View}
use Rattle.turn_lock.specs.Passes.{PassValue, new_places}
use Rattle.turn_lock.specs.declared.view.Stage.{Stage}
use Rattle.turn_lock.specs.declared.view.Stage.TheVariants.{Idle, Joined, Waits, Holds, Stored}
use Rattle.turn_lock.specs.Steps.{held_of, pass_value, at_stage, with_past}
use Rattle.turn_lock.specs.Hands.{Rests}

module _ {S E : Type 0} where
  -- without the turn it is idle, and its hand is empty
  pub free_idle : (stage : Stage E) (hand : List (ℕ × Option S)) → held_of stage ≡ None → Rests stage hand → (stage ≡ Idle) × (hand ≡ [])
  free_idle Idle hand free rests = (refl, rests)
  free_idle (Joined told) hand free rests = absurd rests
  free_idle (Waits ticket) hand free rests = absurd rests
  free_idle (Holds ticket taken) hand free rests = absurd (cc)
  free_idle (Stored ticket) hand free rests = absurd rests

  -- with the turn it holds the empty slot
  pub held_holds : (stage : Stage E) (hand : List (ℕ × Option S)) (P : List E → Type 0) → IsSomeAnd (held_of stage) P → Rests stage hand
      → (ticket : ℕ) × (taken : List E) × (stage ≡ Holds ticket taken) × (hand ≡ (0, None) ∷ []) × P taken
  held_holds Idle hand P held rests = absurd held
  held_holds (Joined told) hand P held rests = absurd rests
  held_holds (Waits ticket) hand P held rests = absurd rests
  held_holds (Holds ticket taken) hand P held rests = (ticket, taken, refl, rests, held)
  held_holds (Stored ticket) hand P held rests = absurd rests

module _ {E : Type 0} where
  -- what contracts see of a pass after it gave
  pub given_value : (lock lock' : TableId) (v w : View E) (p : PassValue E) (ticket : ℕ) (taken given : List E) → pass_value lock v ≡ p → lock' ≡ lock → w ≡ at_stage (with_past v ticket taken given) Idle
      → pass_value lock' w ≡ record p { seen = given; made = p.made ++ new_places taken given; held = None }
  given_value lock lock' v w p ticket taken given value_is lock_is view_is =
      (λ i. pass_value (lock_is i) (view_is i)) ∙ (λ i. record (value_is i) { seen = given; made = (value_is i).made ++ new_places taken given; held = None })

pub some_case : {A : Type 0} (P : A → Type 0) (o : Option A) (a : A) → o ≡ Some a → P a → IfSome o P
some_case P o a is h = subst (λ o'. IfSome o' P) (sym is) h

pub not_both : {A : Type 0} (o : Option A) (a : A) → o ≡ Some a → IsNone o → ⊥
not_both o a is none = let no : IsNone (Some a) = subst IsNone is none in absurd (cc)
