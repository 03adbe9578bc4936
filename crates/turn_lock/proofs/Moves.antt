-- What a step on the lock's table leaves true of the other views.
use Rattle.std.proofs.Common.{◌≡◌, ◌≢◌, ℕ, ◌≤◌, ◌<◌, ◌⊎◌, inl, inr, ⊎_elim, true, false, List, [], ◌∷◌, set, slice_set, Option, Some, ap, sym, subst, ◌∙◌, arith}
use mathlib.Core.Option.{some, none, some-injective, some-ne-none}
use mathlib.Core.Option as maybe
use mathlib.Core.List.{IsPrefix}
use lib.ListN.{get_elem?}
use Rattle.atomic_table.specs.Table.{State}
use Rattle.atomic_table.proofs.Lists.{set_else, set_again}
use Rattle.turn_lock.specs.declared.view.View.{View}
use Rattle.turn_lock.specs.declared.view.Stage.{Stage}
use Rattle.turn_lock.specs.declared.view.Stage.TheVariants.{Idle, Joined, Waits, Holds, Stored}
use Rattle.turn_lock.specs.Rule.{queued, has_turn, IsDrawn, HasTurn, Stands, Fits, IsHome, IsOut, Kept}
use Rattle.turn_lock.proofs.Prefixes.{prefix_trans}

-- the sums that the rule speaks of
abbrev pub queued_of : {E : Type 0} → View E → ℕ
queued_of v = queued v.stage

abbrev pub taken_of : {E : Type 0} → View E → ℕ
taken_of v = v.taken

abbrev pub turns_of : {E : Type 0} → View E → ℕ
turns_of v = v.turns

module _ {S E : Type 0} (past past' : List E) (homes homes' : List (maybe.Option (Option S))) (serving serving' next next' : ℕ) (owner owner' : ℕ → ℕ) (j : ℕ) (u : View E) where
  abbrev pub KeepsTicket : Type 0
  KeepsTicket = (t : ℕ) → IsDrawn serving next owner j u.taken t → IsDrawn serving' next' owner' j u.taken t

  abbrev pub KeepsTurn : Type 0
  KeepsTurn = (t : ℕ) → HasTurn past homes serving next owner j u t → HasTurn past' homes' serving' next' owner' j u t × (past ≡ past')

  stands_after : IsPrefix past past' → KeepsTicket → KeepsTurn → (stage : Stage E) → Stands past homes serving next owner j u stage → Stands past' homes' serving' next' owner' j u stage
  stands_after grow ticket turn Idle h = tt
  stands_after grow ticket turn (Joined told) h = prefix_trans told past past' h grow
  stands_after grow ticket turn (Waits t) h = ticket t h
  stands_after grow ticket turn (Holds t taken) h = let k = turn t h.0 in (k.0, h.1 ∙ k.1)
  stands_after grow ticket turn (Stored t) h = let k = turn t h.0 in (k.0, h.1 ∙ k.1)

  -- a view fits after a step that lets the past grow and keeps its ticket and its turn
  pub fits_after : IsPrefix past past' → KeepsTicket → KeepsTurn → Fits past homes serving next owner j u → Fits past' homes' serving' next' owner' j u
  fits_after grow ticket turn f = (prefix_trans u.seen past past' f.0 grow, stands_after grow ticket turn u.stage f.1)

module _ {S E : Type 0} (past : List E) (homes : List (maybe.Option (Option S))) (serving next : ℕ) (owner : ℕ → ℕ) (j : ℕ) (u : View E) where
  pub turn_from : (stage : Stage E) → has_turn stage ≡ true → Stands past homes serving next owner j u stage → (t : ℕ) × HasTurn past homes serving next owner j u t
  turn_from Idle is h = absurd cc
  turn_from (Joined told) is h = absurd cc
  turn_from (Waits t) is h = absurd cc
  turn_from (Holds t taken) is h = (t, h.0)
  turn_from (Stored t) is h = (t, h.0)

  pub drawn_from : (stage : Stage E) → 1 ≤ queued stage → Stands past homes serving next owner j u stage → 0 < u.taken
  drawn_from Idle is h = absurd (omega arith)
  drawn_from (Joined told) is h = absurd (omega arith)
  drawn_from (Waits t) is h = h.counted
  drawn_from (Holds t taken) is h = h.0.0.counted
  drawn_from (Stored t) is h = h.0.0.counted

-- a slot that is out stays so where another view changes
module _ {S E : Type 0} where
  pub out_after : (homes : List (maybe.Option (Option S))) (views : List (View E)) (id : ℕ) (v w : View E) → get_elem? views id ≡ some v → has_turn v.stage ≡ false → IsOut homes views → IsOut homes (set views id w)
  out_after homes views id v w at idle out =
      let ne : out.1.0 ≢ id = λ (e : out.1.0 ≡ id).
      let same : out.1.1 ≡ v = some-injective out.1.1 v (sym out.1.2 ∙ (ap (get_elem? views) e ∙ at)) in
      let no : true ≡ false = sym out.1.3 ∙ (ap (λ (z : View E). has_turn z.stage) same ∙ idle) in cc in
      (out.0, (out.1.0, out.1.1, set_else views id out.1.0 w ne ∙ out.1.2, out.1.3))

module _ {S E : Type 0} (past_of : S → List E) where
  abbrev pub Placed : List E → List (maybe.Option (Option S)) → List (View E) → Type 0
  Placed past homes views = IsHome past_of past homes ⊎ IsOut homes views

  pub placed_after : (past : List E) (homes : List (maybe.Option (Option S))) (views : List (View E)) (id : ℕ) (v w : View E) → get_elem? views id ≡ some v → has_turn v.stage ≡ false
      → Placed past homes views → Placed past homes (set views id w)
  placed_after past homes views id v w at idle p = ⊎_elim (λ h. inl h) (λ o. inr (out_after homes views id v w at idle o)) p

  -- with the turn goes a slot that is out
  pub is_out : (past : List E) (homes : List (maybe.Option (Option S))) (views : List (View E)) → get_elem? homes 0 ≡ some none → Placed past homes views → homes ≡ none ∷ []
  is_out past homes views out p = ⊎_elim
      (λ h. let there : get_elem? homes 0 ≡ some (some (Some h.0)) = ap (λ hs. get_elem? hs 0) h.1 in absurd (some-ne-none (Some h.0) (some-injective (some (Some h.0)) none (sym there ∙ out))))
      (λ o. o.0)
      p

  module _ (s : State (Option S) (View E)) (r : Kept past_of s) where
    pub stands : (id : ℕ) (v : View E) (stage : Stage E) → get_elem? s.views id ≡ some v → v.stage ≡ stage → Stands r.past s.homes r.serving r.next r.owner id v stage
    stands id v stage at is = subst (Stands r.past s.homes r.serving r.next r.owner id v) is (r.each id v at).1

    -- whoever owns the ticket that is served is the only one with the turn
    pub no_other : (id j : ℕ) (u : View E) (t : ℕ) → r.owner r.serving ≡ id → j ≢ id → HasTurn r.past s.homes r.serving r.next r.owner j u t → ⊥
    no_other id j u t own ne h = ne (sym h.0.own ∙ (ap r.owner h.1 ∙ own))

    -- where a seat without the turn owns the ticket that is served, the slot is at home
    pub is_home : (id : ℕ) (v : View E) → get_elem? s.views id ≡ some v → has_turn v.stage ≡ false → r.owner r.serving ≡ id → IsHome past_of r.past s.homes
    is_home id v at idle own = ⊎_elim (λ h. h)
        (λ o.
        let j = o.1.0 in let u = o.1.1 in
        let t = turn_from r.past s.homes r.serving r.next r.owner j u u.stage o.1.3 (r.each j u o.1.2).1 in
        let e : j ≡ id = sym t.1.0.own ∙ (ap r.owner t.1.1 ∙ own) in
        let same : u ≡ v = some-injective u v (sym o.1.2 ∙ (ap (get_elem? s.views) e ∙ at)) in
        let no : true ≡ false = sym o.1.3 ∙ (ap (λ (z : View E). has_turn z.stage) same ∙ idle) in absurd (cc))
        r.placed

    -- a look that changes nothing
    pub unmoved : (i n id : ℕ) (v : View E) → get_elem? s.views id ≡ some v → slice_set s.words i n ≡ s.words → Kept past_of record { words = slice_set s.words i n; homes = s.homes; views = set s.views id v }
    unmoved i n id v at same =
        subst (λ (z : List ℕ × List (View E)). Kept past_of record { words = z.0; homes = s.homes; views = z.1 }) (λ k. (sym same k, sym (set_again s.views id v at) k)) r
