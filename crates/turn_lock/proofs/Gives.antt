-- The steps of a give keep the rule.
use Rattle.std.proofs.Common.{◌≡◌, ◌≢◌, ℕ, ◌+◌, ◌%◌, ◌^◌, ◌≤◌, ◌<◌, inl, inr, List, [], ◌∷◌, length, slice_index, slice_set, Option, Some, None, refl, ap, sym, subst, ◌∙◌, arith}
use mathlib.Core.Option.{some, none}
use mathlib.Core.List.{IsPrefix}
use Rattle.atomic_table.specs.Table.{Me, keeps, gives, step, Allows}
use Rattle.turn_lock.specs.declared.view.View.{View}
use Rattle.turn_lock.specs.declared.view.Stage.TheVariants.{Idle, Holds, Stored}
use Rattle.turn_lock.specs.Rule.{queued, IsDrawn, Fits, Kept}
use Rattle.turn_lock.specs.Steps.{at_stage, with_past, stores, passes}
use Rattle.turn_lock.proofs.Prefixes.{prefix_self}
use Rattle.turn_lock.proofs.Views.{sum_after, each_after, set_at}
use Rattle.turn_lock.proofs.Moves.{queued_of, taken_of, turns_of, fits_after, is_out, stands, no_other}

-- a ticket of another seat than the one that is served is not served yet
still_waits : (serving next : ℕ) (owner : ℕ → ℕ) (id j taken : ℕ) → owner serving ≡ id → j ≢ id → (t : ℕ) → IsDrawn serving next owner j taken t → IsDrawn (serving + 1) next owner j taken t
still_waits serving next owner id j taken own ne t d =
    let le : serving ≤ t = d.waits in
    let later : t ≢ serving = λ (e : t ≡ serving). ne (sym d.own ∙ (ap owner e ∙ own)) in
    record { waits = omega arith; drawn = d.drawn; own = d.own; counted = d.counted }

abbrev value_in : {S : Type 0} → S → Option S → S
value_in d (Some x) = x
value_in d None = d

abbrev hand_with : {S : Type 0} → S → List (ℕ × Option S)
hand_with value = (0, Some value) ∷ []

-- the value of the slot that was taken last
abbrev value_first : {S : Type 0} → S → List (ℕ × Option S) → S
value_first d [] = d
value_first d (x ∷ xs) = value_in d x.1

module _ {S E : Type 0} (past_of : S → List E) where
  pub stores_ok : (slots id : ℕ) (m : Me (Option S) (View E)) (ticket : ℕ) (taken : List E) (value : S) (new : ℕ) → m.0.stage ≡ Holds ticket taken → m.1 ≡ (0, Some value) ∷ [] → IsPrefix taken (past_of value)
      → new ≡ length (past_of value) → Allows (Kept past_of) slots id m 0 (λ _. new) (λ _. stores past_of (step slots 0 new 0 none) m new)
  stores_ok slots id m ticket taken value new holds hand grows new_is s r _ at _ =
      let v : View E = m.0 in
      let turn = stands past_of s r id v (Holds ticket taken) at holds in
      let own : r.owner r.serving ≡ id = ap r.owner (sym turn.0.1) ∙ turn.0.0.own in
      let given : List E = past_of value in
      let w : View E = with_past v ticket taken given in
      let turns' = sum_after turns_of s.views id v w at in
      let taken' = sum_after taken_of s.views id v w at in
      let queued' = sum_after queued_of s.views id v w at in
      let in_queue : queued v.stage ≡ 1 = ap queued holds in
      let all_turns = r.turns in
      let all_taken = r.taken in
      let all_queued = r.queue in (
        w,
        keeps,
        tt,
        record {
          past = given;
          next = r.next;
          serving = r.serving;
          owner = r.owner;
          words = ap (λ ws. slice_set ws 0 new) r.words ∙ ap (λ (n : ℕ). n ∷ r.next ∷ r.serving ∷ []) new_is;
          placed = inr (is_out past_of r.past s.homes s.views turn.0.2 r.placed, (id, w, set_at s.views id v w at, refl));
          each = each_after (Fits r.past s.homes r.serving r.next r.owner) (Fits given s.homes r.serving r.next r.owner) s.views id w r.each (prefix_self given, (turn.0, refl))
              (λ j u ne f. fits_after r.past given s.homes s.homes r.serving r.serving r.next r.next r.owner r.owner j u (subst (λ (p : List E). IsPrefix p given) turn.1 grows) (λ t d. d)
              (λ t h. absurd (no_other past_of s r id j u t own ne h)) f);
          queue = omega arith;
          taken = omega arith;
          turns = omega arith;
        },
        λ t p x is hand'.
            let e : Holds ticket taken ≡ Holds t p = sym holds ∙ is in
            let e' : hand_with value ≡ hand_with x = sym hand ∙ hand' in
            let ticket_is : ticket ≡ t = cc in
            let taken_is : taken ≡ p = cc in
            let value_is : value ≡ x = ap (value_first value) e' in
            λ k. (with_past v (ticket_is k) (taken_is k) (past_of (value_is k)), m.1),
      )

  -- the seat's hand is the slot with the value
  serves : (slots id : ℕ) (v : View E) (ticket : ℕ) (value : S) → v.stage ≡ Stored ticket → past_of value ≡ v.seen
      → Allows (Kept past_of) slots id (v, (0, Some value) ∷ []) 2 (λ n. (n + 1) % 2 ^ 64) (passes (step slots 2 1 0 none) (v, (0, Some value) ∷ []))
  serves slots id v ticket value stored seen_is s r _ at _ =
      let found : ℕ = slice_index s.words 2 in
      let found_is : found ≡ r.serving = ap (λ ws. slice_index ws 2) r.words in
      let turn = stands past_of s r id v (Stored ticket) at stored in
      let served : ticket ≡ r.serving = turn.0.1 in
      let drawn : ticket < r.next = turn.0.0.drawn in
      let own : r.owner r.serving ≡ id = ap r.owner (sym served) ∙ turn.0.0.own in
      let w : View E = at_stage v Idle in
      let homes' = slice_set s.homes 0 (some (Some value)) in
      let home : homes' ≡ some (Some value) ∷ [] = ap (λ hs. slice_set hs 0 (some (Some value))) (is_out past_of r.past s.homes s.views turn.0.2 r.placed) in
      let turns' = sum_after turns_of s.views id v w at in
      let taken' = sum_after taken_of s.views id v w at in
      let queued' = sum_after queued_of s.views id v w at in
      let in_queue : queued v.stage ≡ 1 = ap queued stored in
      let all_turns = r.turns in
      let all_taken = r.taken in
      let all_queued = r.queue in
      let next_is : (found + 1) % 2 ^ 64 ≡ r.serving + 1 = omega arith in (
        w,
        gives,
        tt,
        record {
          past = r.past;
          next = r.next;
          serving = r.serving + 1;
          owner = r.owner;
          words = ap (λ ws. slice_set ws 2 ((found + 1) % 2 ^ 64)) r.words ∙ ap (λ (n : ℕ). length r.past ∷ r.next ∷ n ∷ []) next_is;
          placed = inl (value, home, seen_is ∙ turn.1);
          each = each_after (Fits r.past s.homes r.serving r.next r.owner) (Fits r.past homes' (r.serving + 1) r.next r.owner) s.views id w r.each ((r.each id v at).0, tt)
              (λ j u ne f. fits_after r.past r.past s.homes homes' r.serving (r.serving + 1) r.next r.next r.owner r.owner j u (prefix_self r.past) (still_waits r.serving r.next r.owner id j u.taken own ne)
              (λ t h. absurd (no_other past_of s r id j u t own ne h)) f);
          queue = omega arith;
          taken = omega arith;
          turns = omega arith;
        },
        refl,
      )

  pub passes_ok : (slots id : ℕ) (m : Me (Option S) (View E)) (ticket : ℕ) (value : S) → m.0.stage ≡ Stored ticket → m.1 ≡ (0, Some value) ∷ [] → past_of value ≡ m.0.seen
      → Allows (Kept past_of) slots id m 2 (λ n. (n + 1) % 2 ^ 64) (passes (step slots 2 1 0 none) m)
  passes_ok slots id m ticket value stored hand seen_is =
      subst (λ (h : List (ℕ × Option S)). Allows (Kept past_of) slots id (m.0, h) 2 (λ n. (n + 1) % 2 ^ 64) (passes (step slots 2 1 0 none) (m.0, h))) (sym hand) (serves slots id m.0 ticket value stored seen_is)
