-- What each step on the lock's table tells the seat that makes it.
use Rattle.std.specs.Prelude.{◌≡◌, ◌≢◌, ℕ, ◌+◌, ◌-◌, ◌/◌, ◌^◌, ◌≤◌, ◌⊎◌, List, [], ◌∷◌, ◌++◌, Option, Some, None}
use mathlib.Core.List.{IsPrefix}
use Rattle.atomic_table.specs.Table.{Me, Step, rest}
use Rattle.turn_lock.specs.declared.view.View.{View}
use Rattle.turn_lock.specs.declared.view.Stage.{Stage}
use Rattle.turn_lock.specs.declared.view.Stage.TheVariants.{Idle, Joined, Waits, Holds, Stored}
use Rattle.atomic_table.specs.Seated.{TableId}
use Rattle.turn_lock.specs.Passes.{PassValue, new_places, longer}

module _ {E : Type 0} where
  -- the past that was taken, where the seat has the turn and has not stored
  abbrev pub held_of : Stage E → Option (List E)
  held_of Idle = None
  held_of (Joined told) = None
  held_of (Waits ticket) = None
  held_of (Holds ticket held) = Some held
  held_of (Stored ticket) = None

  -- what contracts see of a pass whose seat at this table has this view
  abbrev pub pass_value : TableId → View E → PassValue E
  pass_value lock v = record { lock = lock; seen = v.seen; turns = v.turns; taken = v.taken; made = v.made; held = held_of v.stage }

  abbrev pub at_stage : View E → Stage E → View E
  at_stage v stage = record { seen = v.seen; turns = v.turns; taken = v.taken; made = v.made; stage = stage }

  -- one turn fewer, one more taken, and a ticket
  abbrev pub with_ticket : View E → ℕ → View E
  with_ticket v ticket = record { seen = v.seen; turns = v.turns - 1; taken = v.taken + 1; made = v.made; stage = Waits ticket }

  -- the past that is given was seen, and its new places were made
  abbrev pub with_past : View E → ℕ → List E → List E → View E
  with_past v ticket held given = record { seen = given; turns = v.turns; taken = v.taken; made = v.made ++ new_places held given; stage = Stored ticket }

  abbrev pub left_half : View E → View E
  left_half v = record { seen = v.seen; turns = v.turns - v.turns / 2; taken = v.taken; made = v.made; stage = v.stage }

  abbrev pub right_half : View E → View E
  right_half v = record { seen = v.seen; turns = v.turns / 2; taken = 0; made = []; stage = Idle }

  abbrev pub met : View E → View E → View E
  met v w = record { seen = v.seen; turns = v.turns + w.turns; taken = v.taken + w.taken; made = v.made ++ w.made; stage = Joined w.seen }

  abbrev pub spent_view : View E
  spent_view = record { seen = []; turns = 0; taken = 0; made = []; stage = Idle }

  -- it has seen the longer of its own list and the one that it was told
  abbrev pub settled : View E → List E → View E
  settled v told = record { seen = longer v.seen told; turns = v.turns; taken = v.taken; made = v.made; stage = Idle }

  -- of two lists one begins with the other, and both begin the longer
  abbrev pub Meets : List E → List E → Type 0
  Meets seen told = (IsPrefix seen told ⊎ IsPrefix told seen) × IsPrefix seen (longer seen told) × IsPrefix told (longer seen told)

abbrev Seated : Type 0 → Type 0 → Type 0
Seated S E = Me (Option S) (View E)

module _ {S E : Type 0} where
  abbrev pub draws : Step (Option S) → Seated S E → ℕ → Seated S E → Type 0
  draws st m found m' = m' ≡ (with_ticket m.0 found, m.1)

  -- at its own ticket it has the value in its hand, whose past begins with what it has seen
  abbrev pub Finds : (S → List E) → Seated S E → ℕ → Seated S E → Type 0
  Finds past_of m ticket m' = (value : S) × (m' ≡ (at_stage m.0 (Holds ticket (past_of value)), (0, Some value) ∷ m.1)) × IsPrefix m.0.seen (past_of value)

  abbrev pub looks : (S → List E) → Step (Option S) → Seated S E → ℕ → Seated S E → Type 0
  looks past_of st m found m' = (ticket : ℕ) → m.0.stage ≡ Waits ticket → (found ≡ ticket → Finds past_of m ticket m') × (found ≢ ticket → m' ≡ m)

  abbrev pub stores : (S → List E) → Step (Option S) → Seated S E → ℕ → Seated S E → Type 0
  stores past_of st m found m' =
      (ticket : ℕ) (held : List E) (value : S) → m.0.stage ≡ Holds ticket held → m.1 ≡ (0, Some value) ∷ [] → m' ≡ (with_past m.0 ticket held (past_of value), m.1)

  abbrev pub passes : Step (Option S) → Seated S E → ℕ → Seated S E → Type 0
  passes st m found m' = m' ≡ (at_stage m.0 Idle, rest m.1)

  abbrev pub settles : Step (Option S) → Seated S E → ℕ → Seated S E → Type 0
  settles st m found m' = (told : List E) → m.0.stage ≡ Joined told → (m' ≡ (settled m.0 told, m.1)) × Meets m.0.seen told × (m.0.turns ≤ 2 ^ 62)
