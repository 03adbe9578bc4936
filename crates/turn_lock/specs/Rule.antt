-- The rule of the lock's table: three words, which are the length of the past, the next ticket and the ticket that is
-- served, and one slot for the value.
use Rattle.std.specs.Prelude.{◌≡◌, ℕ, ◌+◌, ◌^◌, ◌<◌, ◌≤◌, ◌⊎◌, Bool, true, false, List, [], ◌∷◌, length, sum_by, Option, Some, None}
use mathlib.Core.Option.{some, none}
use mathlib.Core.Option as maybe
use mathlib.Core.List.{IsPrefix}
use lib.ListN.{get_elem?}
use Rattle.atomic_table.specs.Table.{State}
use Rattle.turn_lock.specs.declared.view.View.{View}
use Rattle.turn_lock.specs.declared.view.Stage.{Stage}
use Rattle.turn_lock.specs.declared.view.Stage.TheVariants.{Idle, Joined, Waits, Holds, Stored}

module _ {E : Type 0} where
  -- 1 where the view has a ticket, and else 0
  abbrev pub queued : Stage E → ℕ
  queued Idle = 0
  queued (Joined told) = 0
  queued (Waits ticket) = 1
  queued (Holds ticket held) = 1
  queued (Stored ticket) = 1

  -- the ticket that the view has
  abbrev pub ticket_of : Stage E → Option ℕ
  ticket_of Idle = None
  ticket_of (Joined told) = None
  ticket_of (Waits ticket) = Some ticket
  ticket_of (Holds ticket held) = Some ticket
  ticket_of (Stored ticket) = Some ticket

  -- the view's ticket is served, and it has the value or gives it back
  abbrev pub has_turn : Stage E → Bool
  has_turn Idle = false
  has_turn (Joined told) = false
  has_turn (Waits ticket) = false
  has_turn (Holds ticket held) = true
  has_turn (Stored ticket) = true

-- A ticket that a seat has drawn, which is not served yet or is served now. One seat owns it.
pub record IsDrawn (serving next : ℕ) (owner : ℕ → ℕ) (seat taken ticket : ℕ) : Type 0 where
  pub waits : serving ≤ ticket
  pub drawn : ticket < next
  pub own : owner ticket ≡ seat
  pub counted : 0 < taken

module _ {S E : Type 0} (past : List E) (homes : List (maybe.Option (Option S))) (serving next : ℕ) (owner : ℕ → ℕ) (seat : ℕ) (v : View E) where
  -- the ticket is served, and the slot is out
  abbrev pub HasTurn : ℕ → Type 0
  HasTurn ticket = IsDrawn serving next owner seat v.taken ticket × (ticket ≡ serving) × (get_elem? homes 0 ≡ some none)

  -- what is true of a view at its stage; before the store the past is as it was taken, and then it is the view's seen
  -- list
  abbrev pub Stands : Stage E → Type 0
  Stands Idle = Unit {0}
  Stands (Joined told) = IsPrefix told past
  Stands (Waits ticket) = IsDrawn serving next owner seat v.taken ticket
  Stands (Holds ticket held) = HasTurn ticket × (held ≡ past)
  Stands (Stored ticket) = HasTurn ticket × (v.seen ≡ past)

  -- the view of a seat under the rule
  abbrev pub Fits : Type 0
  Fits = IsPrefix v.seen past × Stands v.stage

module _ {S E : Type 0} where
  -- the slot is at home, with a value of this past
  abbrev pub IsHome : (S → List E) → List E → List (maybe.Option (Option S)) → Type 0
  IsHome past_of past homes = (value : S) × (homes ≡ some (Some value) ∷ []) × (past_of value ≡ past)

  -- the slot is out, with a view that has the turn
  abbrev pub IsOut : List (maybe.Option (Option S)) → List (View E) → Type 0
  IsOut homes views = (homes ≡ none ∷ []) × ((seat : ℕ) × (v : View E) × (get_elem? views seat ≡ some v) × (has_turn v.stage ≡ true))

-- There is one past, whose length is the first word. Each view has seen a beginning of it.
-- The views with a ticket are as many as the tickets that are not served yet. As many turns were taken as tickets drawn,
-- and no turn was made.
pub record Kept {S E : Type 0} (past_of : S → List E) (s : State (Option S) (View E)) : Type 0 where
  pub past : List E
  pub next : ℕ
  pub serving : ℕ
  pub owner : ℕ → ℕ
  pub words : s.words ≡ length past ∷ next ∷ serving ∷ []
  pub placed : IsHome past_of past s.homes ⊎ IsOut s.homes s.views
  pub each : (seat : ℕ) (v : View E) → get_elem? s.views seat ≡ some v → Fits past s.homes serving next owner seat v
  pub queue : serving + sum_by (λ (v : View E). queued v.stage) s.views ≡ next
  pub taken : sum_by (λ (v : View E). v.taken) s.views ≡ next
  pub turns : sum_by (λ (v : View E). v.turns) s.views + next ≡ 2 ^ 62

-- the view of a lock's first seat
abbrev pub first_view : {E : Type 0} → List E → View E
first_view past = record { seen = past; turns = 2 ^ 62; taken = 0; made = []; stage = Idle }

-- What the rule says of the seats' views, for every seat that is there.
pub record Says {S E : Type 0} (past_of : S → List E) (s : State (Option S) (View E)) (past : List E) (next serving : ℕ) : Type 0 where
  pub words : s.words ≡ length past ∷ next ∷ serving ∷ []
  pub tickets : (seat : ℕ) (v : View E) (ticket : ℕ) → get_elem? s.views seat ≡ some v → ticket_of v.stage ≡ Some ticket → (serving ≤ ticket) × (ticket < next)
  pub no_shared_ticket : (i j : ℕ) (v w : View E) (ticket : ℕ) → get_elem? s.views i ≡ some v → get_elem? s.views j ≡ some w → ticket_of v.stage ≡ Some ticket → ticket_of w.stage ≡ Some ticket → i ≡ j
  pub queue : serving + sum_by (λ (v : View E). queued v.stage) s.views ≡ next
  pub turn : (seat : ℕ) (v : View E) → get_elem? s.views seat ≡ some v → has_turn v.stage ≡ true → (ticket_of v.stage ≡ Some serving) × (s.homes ≡ none ∷ [])
  pub one_turn : (i j : ℕ) (v w : View E) → get_elem? s.views i ≡ some v → get_elem? s.views j ≡ some w → has_turn v.stage ≡ true → has_turn w.stage ≡ true → i ≡ j
  pub slot : IsHome past_of past s.homes ⊎ IsOut s.homes s.views
  pub past_held : (seat : ℕ) (v : View E) (ticket : ℕ) (held : List E) → get_elem? s.views seat ≡ some v → v.stage ≡ Holds ticket held → held ≡ past
  pub past_stored : (seat : ℕ) (v : View E) (ticket : ℕ) → get_elem? s.views seat ≡ some v → v.stage ≡ Stored ticket → v.seen ≡ past
  pub seen : (seat : ℕ) (v : View E) → get_elem? s.views seat ≡ some v → IsPrefix v.seen past
  pub turns : sum_by (λ (v : View E). v.turns) s.views + next ≤ 2 ^ 62

-- The rule says all that for every state of the table
abbrev pub RuleSays : {S E : Type 0} → (S → List E) → Type 0
RuleSays {S} {E} past_of = (s : State (Option S) (View E)) (r : Kept past_of s) → Says past_of s r.past r.next r.serving
