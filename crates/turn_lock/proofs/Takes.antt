-- The steps of a take keep the rule.
use Rattle.std.proofs.Common.{◌≡◌, ℕ, ◌+◌, ◌%◌, ◌^◌, ◌<◌, inr, eqb, eq-eqb, ne_eqb, List, [], ◌∷◌, length, slice_index, slice_set, Option, Some, refl, ap, sym, subst, ◌∙◌, arith}
use mathlib.Core.Logic.{dite}
use mathlib.Core.Option.{some, none}
use mathlib.Core.List.{IsPrefix}
use native.Mathlib.Decide.{ℕ_discrete}
use lib.ListN.{get_elem?}
use prog.Atomic.{either}
use Rattle.atomic_table.specs.Table.{State, Me, Act, keeps, takes, step, stepped, Allows}
use Rattle.turn_lock.specs.declared.view.View.{View}
use Rattle.turn_lock.specs.declared.view.Stage.TheVariants.{Idle, Waits, Holds}
use Rattle.turn_lock.specs.Rule.{queued, has_turn, IsDrawn, Fits, Kept}
use Rattle.turn_lock.specs.Steps.{at_stage, with_ticket, draws, looks}
use Rattle.turn_lock.proofs.Prefixes.{prefix_self}
use Rattle.turn_lock.proofs.Views.{sum_after, sum_at, each_after, set_at}
use Rattle.turn_lock.proofs.Moves.{queued_of, taken_of, turns_of, fits_after, placed_after, stands, no_other, is_home, unmoved}

-- a ticket that was drawn is another seat's when the next one is
later : (serving next : ℕ) (owner : ℕ → ℕ) (id j taken t : ℕ) → IsDrawn serving next owner j taken t → IsDrawn serving (next + 1) (λ k. either (eqb k next) id (owner k)) j taken t
later serving next owner id j taken t d =
    let old : t < next = d.drawn in record {
      waits = d.waits;
      drawn = omega arith;
      own = ap (λ b. either b id (owner t)) (ne_eqb t next (λ e. omega arith)) ∙ d.own;
      counted = d.counted;
    }

module _ {S E : Type 0} (past_of : S → List E) where
  pub draws_ok : (slots id : ℕ) (m : Me (Option S) (View E)) → m.0.stage ≡ Idle → 0 < m.0.turns
      → Allows (Kept past_of) slots id m 1 (λ n. (n + 1) % 2 ^ 64) (draws (step slots 1 1 0 none) m)
  draws_ok slots id m idle some_turn s r _ at _ =
      let v : View E = m.0 in
      let found : ℕ = slice_index s.words 1 in
      let found_is : found ≡ r.next = ap (λ ws. slice_index ws 1) r.words in
      let w : View E = with_ticket v found in
      let owner' : ℕ → ℕ = λ t. either (eqb t r.next) id (r.owner t) in
      let all_turns = r.turns in
      let all_taken = r.taken in
      let all_queued = r.queue in
      let below = sum_at turns_of s.views id v at in
      let turns' = sum_after turns_of s.views id v w at in
      let taken' = sum_after taken_of s.views id v w at in
      let queued' = sum_after queued_of s.views id v w at in
      let out_of_queue : queued v.stage ≡ 0 = ap queued idle in
      let next_is : (found + 1) % 2 ^ 64 ≡ r.next + 1 = omega arith in
      let here : IsDrawn r.serving (r.next + 1) owner' id w.taken found = record {
        waits = omega arith;
        drawn = omega arith;
        own = ap (λ b. either b id (r.owner found)) (eq-eqb found r.next found_is);
        counted = omega arith;
      } in (
        w,
        keeps,
        tt,
        record {
          past = r.past;
          next = r.next + 1;
          serving = r.serving;
          owner = owner';
          words = ap (λ ws. slice_set ws 1 ((found + 1) % 2 ^ 64)) r.words ∙ ap (λ (n : ℕ). length r.past ∷ n ∷ r.serving ∷ []) next_is;
          placed = placed_after past_of r.past s.homes s.views id v w at (ap has_turn idle) r.placed;
          each = each_after (Fits r.past s.homes r.serving r.next r.owner) (Fits r.past s.homes r.serving (r.next + 1) owner') s.views id w r.each ((r.each id v at).0, here)
              (λ j u ne f. fits_after r.past r.past s.homes s.homes r.serving r.serving r.next (r.next + 1) r.owner owner' j u (prefix_self r.past) (later r.serving r.next r.owner id j u.taken)
              (λ t h. ((later r.serving r.next r.owner id j u.taken t h.0, h.1, h.2), refl)) f);
          queue = omega arith;
          taken = omega arith;
          turns = omega arith;
        },
        refl,
      )

  -- at its own ticket a seat takes the slot into its hand
  finds_ok : (slots id : ℕ) (m : Me (Option S) (View E)) (ticket : ℕ) → m.0.stage ≡ Waits ticket → (s : State (Option S) (View E)) (r : Kept past_of s) → get_elem? s.views id ≡ some m.0
      → slice_index s.words 2 ≡ ticket
      → (w : View E) × (a : Act (Option S)) × Rattle.atomic_table.specs.Table.Valid s.homes m.1 a × Kept past_of (stepped s 2 (slice_index s.words 2) id m.1 w a)
      × looks past_of (step slots 2 0 0 none) m (slice_index s.words 2) (w, Rattle.atomic_table.specs.Table.carried_after m.1 a)
  finds_ok slots id m ticket waits s r at hit =
      let v : View E = m.0 in
      let found : ℕ = slice_index s.words 2 in
      let found_is : found ≡ r.serving = ap (λ ws. slice_index ws 2) r.words in
      let drawn = stands past_of s r id v (Waits ticket) at waits in
      let served : ticket ≡ r.serving = sym hit ∙ found_is in
      let own : r.owner r.serving ≡ id = ap r.owner (sym served) ∙ drawn.own in
      let home = is_home past_of s r id v at (ap has_turn waits) own in
      let value : S = home.0 in
      let w : View E = at_stage v (Holds ticket (past_of value)) in
      let homes' = slice_set s.homes 0 none in
      let out : homes' ≡ none ∷ [] = ap (λ hs. slice_set hs 0 none) home.1 in
      let turns' = sum_after turns_of s.views id v w at in
      let taken' = sum_after taken_of s.views id v w at in
      let queued' = sum_after queued_of s.views id v w at in
      let in_queue : queued v.stage ≡ 1 = ap queued waits in
      let all_turns = r.turns in
      let all_taken = r.taken in
      let all_queued = r.queue in (
        w,
        takes 0 (Some value),
        ap (λ hs. get_elem? hs 0) home.1,
        record {
          past = r.past;
          next = r.next;
          serving = r.serving;
          owner = r.owner;
          words = ap (λ ws. slice_set ws 2 found) r.words ∙ ap (λ (n : ℕ). length r.past ∷ r.next ∷ n ∷ []) found_is;
          placed = inr (out, (id, w, set_at s.views id v w at, refl));
          each = each_after (Fits r.past s.homes r.serving r.next r.owner) (Fits r.past homes' r.serving r.next r.owner) s.views id w r.each
              ((r.each id v at).0, ((drawn, served, ap (λ hs. get_elem? hs 0) out), home.2))
              (λ j u ne f. fits_after r.past r.past s.homes homes' r.serving r.serving r.next r.next r.owner r.owner j u (prefix_self r.past) (λ t d. d)
              (λ t h. absurd (no_other past_of s r id j u t own ne h)) f);
          queue = omega arith;
          taken = omega arith;
          turns = omega arith;
        },
        λ t is.
            let same : ticket ≡ t = let e : Waits ticket ≡ Waits t = sym waits ∙ is in cc in (
              (λ _. (value, ap (λ (k : ℕ). (at_stage v (Holds k (past_of value)), (0, Some value) ∷ m.1)) same, subst (IsPrefix v.seen) (sym home.2) (r.each id v at).0)),
              λ miss. absurd (miss (hit ∙ same)),
            ),
      )

  pub looks_ok : (slots id : ℕ) (m : Me (Option S) (View E)) (ticket : ℕ) → m.0.stage ≡ Waits ticket → Allows (Kept past_of) slots id m 2 (λ n. n) (looks past_of (step slots 2 0 0 none) m)
  looks_ok slots id m ticket waits s r _ at _ =
      let found : ℕ = slice_index s.words 2 in
      dite (ℕ_discrete found ticket) (λ hit. finds_ok slots id m ticket waits s r at hit) (λ miss. (
        m.0,
        keeps,
        tt,
        unmoved past_of s r 2 found id m.0 at (ap (λ ws. slice_set ws 2 (slice_index ws 2)) r.words ∙ sym r.words),
        λ t is.
            let same : ticket ≡ t = let e : Waits ticket ≡ Waits t = sym waits ∙ is in cc in
            ((λ hit. absurd (miss (hit ∙ sym same))), λ _. refl),
      ))
