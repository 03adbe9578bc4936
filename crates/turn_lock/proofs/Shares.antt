-- A split and a join keep the rule, and so does the look after a join.
use Rattle.std.proofs.Common.{◌≡◌, ℕ, ◌^◌, ◌≤◌, inl, inr, ⊎_elim, List, [], ◌∷◌, set, slice_index, slice_set, Option, refl, ap, sym, subst, ◌∙◌, arith}
use mathlib.Core.Option.{some, none}
use lib.ListN.{get_elem?}
use Rattle.atomic_table.specs.Table.{Me, keeps, step, Allows, Splits, Joins}
use Rattle.atomic_table.proofs.Lists.{at_longer, at_snoc, set_else}
use Rattle.turn_lock.specs.declared.view.View.{View}
use Rattle.turn_lock.specs.declared.view.Stage.TheVariants.{Idle, Joined}
use Rattle.turn_lock.specs.Rule.{queued, has_turn, Stands, Fits, Kept}
use Rattle.turn_lock.specs.Steps.{left_half, right_half, met, spent_view, settled, settles}
use Rattle.turn_lock.proofs.Prefixes.{prefix_meets}
use Rattle.turn_lock.proofs.Views.{sum_after, sum_at, sum_snoc, each_after}
use Rattle.turn_lock.proofs.Moves.{queued_of, taken_of, turns_of, placed_after, stands}

module _ {S E : Type 0} (past_of : S → List E) where
  pub splits_ok : (id : ℕ) (v : View E) → v.stage ≡ Idle → Splits (Kept past_of) id v (left_half v) (right_half v)
  splits_ok id v idle s r at =
      let left : View E = left_half v in
      let right : View E = right_half v in
      let seen = (r.each id v at).0 in
      let views' = set s.views id left in
      let each' = each_after (Fits r.past s.homes r.serving r.next r.owner) (Fits r.past s.homes r.serving r.next r.owner) s.views id left r.each
      (seen, subst (Stands r.past s.homes r.serving r.next r.owner id left) (sym idle) tt) (λ j u ne f. f) in
      let turns' = sum_after turns_of s.views id v left at in
      let taken' = sum_after taken_of s.views id v left at in
      let queued' = sum_after queued_of s.views id v left at in
      let turns'' = sum_snoc turns_of views' right in
      let taken'' = sum_snoc taken_of views' right in
      let queued'' = sum_snoc queued_of views' right in
      let all_turns = r.turns in
      let all_taken = r.taken in
      let all_queued = r.queue in
      record {
        past = r.past;
        next = r.next;
        serving = r.serving;
        owner = r.owner;
        words = r.words;
        placed = ⊎_elim (λ h. inl h) (λ o. inr (o.0, (o.1.0, o.1.1, at_longer views' (right ∷ []) o.1.0 o.1.1 o.1.2, o.1.3))) (placed_after past_of r.past s.homes s.views id v left at (ap has_turn idle) r.placed);
        each = λ j u at'. ⊎_elim (λ old. each' j u old) (λ new. subst (Fits r.past s.homes r.serving r.next r.owner j) new (seen, tt)) (at_snoc views' right u j at');
        queue = omega arith;
        taken = omega arith;
        turns = omega arith;
      }

  pub joins_ok : (id : ℕ) (v : View E) (other : ℕ) (w : View E) → v.stage ≡ Idle → w.stage ≡ Idle → Joins (Kept past_of) id v other w (met v w) spent_view
  joins_ok id v other w idle idle' s r at ne at' =
      let both : View E = met v w in
      let views' = set s.views id both in
      let there : get_elem? s.views other ≡ some w = sym (set_else s.views id other both ne) ∙ at' in
      let F = Fits r.past s.homes r.serving r.next r.owner in
      let each' = each_after F F s.views id both r.each ((r.each id v at).0, (r.each other w there).0) (λ j u ne f. f) in
      let turns' = sum_after turns_of s.views id v both at in
      let taken' = sum_after taken_of s.views id v both at in
      let queued' = sum_after queued_of s.views id v both at in
      let turns'' = sum_after turns_of views' other w spent_view at' in
      let taken'' = sum_after taken_of views' other w spent_view at' in
      let queued'' = sum_after queued_of views' other w spent_view at' in
      let here : queued v.stage ≡ 0 = ap queued idle in
      let gone : queued w.stage ≡ 0 = ap queued idle' in
      let all_turns = r.turns in
      let all_taken = r.taken in
      let all_queued = r.queue in
      record {
        past = r.past;
        next = r.next;
        serving = r.serving;
        owner = r.owner;
        words = r.words;
        placed = placed_after past_of r.past s.homes views' other w spent_view at' (ap has_turn idle') (placed_after past_of r.past s.homes s.views id v both at (ap has_turn idle) r.placed);
        each = each_after F F views' other spent_view each' ((r.past, refl), tt) (λ j u ne f. f);
        queue = omega arith;
        taken = omega arith;
        turns = omega arith;
      }

  pub settles_ok : (slots id : ℕ) (m : Me (Option S) (View E)) (told : List E) → m.0.stage ≡ Joined told → Allows (Kept past_of) slots id m 0 (λ n. n) (settles (step slots 0 0 0 none) m)
  settles_ok slots id m told joined s r _ at _ =
      let v : View E = m.0 in
      let found : ℕ = slice_index s.words 0 in
      let w : View E = settled v told in
      let meets = prefix_meets v.seen told r.past (r.each id v at).0 (stands past_of s r id v (Joined told) at joined) in
      let F = Fits r.past s.homes r.serving r.next r.owner in
      let turns' = sum_after turns_of s.views id v w at in
      let taken' = sum_after taken_of s.views id v w at in
      let queued' = sum_after queued_of s.views id v w at in
      let here : queued v.stage ≡ 0 = ap queued joined in
      let below = sum_at turns_of s.views id v at in
      let all_turns = r.turns in
      let all_taken = r.taken in
      let all_queued = r.queue in
      let few : v.turns ≤ 2 ^ 62 = omega arith in (
        w,
        keeps,
        tt,
        record {
          past = r.past;
          next = r.next;
          serving = r.serving;
          owner = r.owner;
          words = ap (λ ws. slice_set ws 0 (slice_index ws 0)) r.words;
          placed = placed_after past_of r.past s.homes s.views id v w at (ap has_turn joined) r.placed;
          each = each_after F F s.views id w r.each (meets.1, tt) (λ j u ne f. f);
          queue = omega arith;
          taken = omega arith;
          turns = omega arith;
        },
        λ told' is.
            let e : Joined told ≡ Joined told' = sym joined ∙ is in
            let same : told ≡ told' = cc in
            (ap (λ (xs : List E). (settled v xs, m.1)) same, subst (λ (xs : List E). Rattle.turn_lock.specs.Steps.Meets v.seen xs) same meets.0, few),
      )
