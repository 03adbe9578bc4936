-- The table at the start, and what its last state says.
use Rattle.std.proofs.Common.{◌≡◌, ◌≢◌, ℕ, zero, suc, ◌+◌, ◌^◌, ◌≤◌, ◌<◌, inl, ⊎_elim, List, [], ◌∷◌, length, Option, Some, refl, ap, sym, subst, ◌∙◌, arith}
use Rattle.std.proofs.lemmas.List.Sums.{sum_by-cons}
use mathlib.Core.Option.{some, some-injective, some-ne-none}
use mathlib.Core.List.{IsPrefix}
use lib.ListN.{get_elem?}
use Rattle.atomic_table.specs.Table.{State, opening, Final, Seen}
use Rattle.turn_lock.specs.declared.view.View.{View}
use Rattle.turn_lock.specs.declared.view.Stage.TheVariants.{Idle}
use Rattle.turn_lock.specs.Rule.{queued, Fits, IsHome, Kept, first_view}
use Rattle.turn_lock.proofs.Prefixes.{prefix_self}
use Rattle.turn_lock.proofs.Views.{sum_at_two, some_term}
use Rattle.turn_lock.proofs.Moves.{queued_of, taken_of, turns_of, turn_from, drawn_from}

module _ {S E : Type 0} (past_of : S → List E) where
  first_fits : (value : S) (seat : ℕ) (v : View E) → get_elem? (first_view (past_of value) ∷ []) seat ≡ some v → Fits (past_of value) (some (Some value) ∷ []) 0 0 (λ _. 0) seat v
  first_fits value zero v at = subst (Fits (past_of value) (some (Some value) ∷ []) 0 0 (λ _. 0) 0) (some-injective (first_view (past_of value)) v at) (prefix_self (past_of value), tt)
  first_fits value (suc k) v at = absurd (some-ne-none v (sym at))

  pub opens_ok : (value : S) (n : ℕ) → n ≡ length (past_of value) → Kept past_of (opening (n ∷ 0 ∷ 0 ∷ []) (Some value ∷ []) (first_view (past_of value)))
  opens_ok value n is =
      let v : View E = first_view (past_of value) in
      record {
        past = past_of value;
        next = 0;
        serving = 0;
        owner = λ _. 0;
        words = ap (λ (k : ℕ). k ∷ 0 ∷ 0 ∷ []) is;
        placed = inl (value, refl, refl);
        each = first_fits value;
        queue = omega (arith, sum_by-cons queued_of v []);
        taken = omega (arith, sum_by-cons taken_of v []);
        turns = omega (arith, sum_by-cons turns_of v []);
      }

  module _ (s : State (Option S) (View E)) (r : Kept past_of s) where
    -- where every ticket was served, the slot is at home
    all_served : r.next ≡ r.serving → IsHome past_of r.past s.homes
    all_served even = ⊎_elim (λ h. h)
        (λ o.
        let u = o.1.1 in
        let t = turn_from r.past s.homes r.serving r.next r.owner o.1.0 u u.stage o.1.3 (r.each o.1.0 u o.1.2).1 in
        let waits = t.1.0.waits in
        let drawn = t.1.0.drawn in absurd (omega arith))
        r.placed

    -- where one was not, another pass took a turn
    some_out : (id : ℕ) (v : View E) → get_elem? s.views id ≡ some v → v.stage ≡ Idle → r.next ≢ r.serving → v.turns + v.taken ≢ 2 ^ 62
    some_out id v at idle odd whole =
        let all_turns = r.turns in
        let all_taken = r.taken in
        let all_queued = r.queue in
        let t = some_term queued_of s.views (omega arith) in
        let j : ℕ = t.0 in
        let u : View E = t.1 in
        let took : 0 < u.taken = drawn_from r.past s.homes r.serving r.next r.owner j u u.stage t.3 (r.each j u t.2).1 in
        let waits : 1 ≤ queued u.stage = t.3 in
        let ne : id ≢ j = λ (e : id ≡ j).
        let same : v ≡ u = some-injective v u (sym at ∙ (ap (get_elem? s.views) e ∙ t.2)) in
        let none : queued u.stage ≡ 0 = ap (λ (z : View E). queued z.stage) (sym same) ∙ ap queued idle in omega arith in
        let turns' = sum_at_two turns_of s.views id j v u ne at t.2 in
        let taken' = sum_at_two taken_of s.views id j v u ne at t.2 in
        omega arith

  -- What the last state says: where every ticket was served the slot has the value, and else the pass has not all turns
  abbrev pub Closes : View E → ℕ → ℕ → Option S → Type 0
  Closes v next serving slot =
      (next ≡ serving → (value : S) × (slot ≡ Some value) × IsPrefix v.seen (past_of value))
      × (next ≢ serving → v.turns + v.taken ≢ 2 ^ 62)

  pub closes_ok : (id : ℕ) (v : View E) (words : List ℕ) (slots : List (Option S)) (next serving : ℕ) (slot : Option S) → v.stage ≡ Idle → Final (Seen (Kept past_of) id v) words slots
      → get_elem? words 1 ≡ some next → get_elem? words 2 ≡ some serving → get_elem? slots 0 ≡ some slot → Closes v next serving slot
  closes_ok id v words slots next serving slot idle last next_at serving_at slot_at =
      let s = last.0 in
      let r = last.1.0 in
      let at = last.1.1 in
      let words_are = sym r.words ∙ last.2 in
      let next_is : r.next ≡ next = some-injective r.next next (ap (λ ws. get_elem? ws 1) words_are ∙ next_at) in
      let serving_is : r.serving ≡ serving = some-injective r.serving serving (ap (λ ws. get_elem? ws 2) words_are ∙ serving_at) in (
        (λ even.
            let home = all_served s r (next_is ∙ (even ∙ sym serving_is)) in
            let there : get_elem? slots 0 ≡ some (Some home.0) = last.4 0 (Some home.0) (ap (λ hs. get_elem? hs 0) home.1) in
            (home.0, some-injective slot (Some home.0) (sym slot_at ∙ there), subst (IsPrefix v.seen) (sym home.2) (r.each id v at).0)),
        (λ odd. some_out s r id v at idle (λ (e : r.next ≡ r.serving). odd (sym next_is ∙ (e ∙ serving_is)))),
      )
