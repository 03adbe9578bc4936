-- The rule in words on any two seats.
use Rattle.std.proofs.Common.{◌≡◌, ℕ, true, List, Option, Some, ap, sym, subst, ◌∙◌, arith}
use mathlib.Core.Option.{some, none}
use mathlib.Core.Option as maybe
use lib.ListN.{get_elem?}
use Rattle.turn_lock.specs.declared.view.View.{View}
use Rattle.turn_lock.specs.declared.view.Stage.{Stage}
use Rattle.turn_lock.specs.declared.view.Stage.TheVariants.{Idle, Joined, Waits, Holds, Stored}
use Rattle.turn_lock.specs.Rule.{ticket_of, has_turn, IsDrawn, Stands, RuleSays}
use Rattle.turn_lock.proofs.Moves.{turn_from, is_out, stands}

module _ {S E : Type 0} (past : List E) (homes : List (maybe.Option (Option S))) (serving next : ℕ) (owner : ℕ → ℕ) (j : ℕ) (u : View E) where
  drawn_by : (stage : Stage E) (ticket : ℕ) → ticket_of stage ≡ Some ticket → Stands past homes serving next owner j u stage → IsDrawn serving next owner j u.taken ticket
  drawn_by Idle ticket is h = absurd cc
  drawn_by (Joined told) ticket is h = absurd cc
  drawn_by (Waits t) ticket is h = let e : t ≡ ticket = cc in subst (IsDrawn serving next owner j u.taken) e h
  drawn_by (Holds t taken) ticket is h = let e : t ≡ ticket = cc in subst (IsDrawn serving next owner j u.taken) e h.0.0
  drawn_by (Stored t) ticket is h = let e : t ≡ ticket = cc in subst (IsDrawn serving next owner j u.taken) e h.0.0

  served_by : (stage : Stage E) → has_turn stage ≡ true → Stands past homes serving next owner j u stage → ticket_of stage ≡ Some serving
  served_by Idle is h = absurd cc
  served_by (Joined told) is h = absurd cc
  served_by (Waits t) is h = absurd cc
  served_by (Holds t taken) is h = ap (λ (k : ℕ). Some k) h.0.1
  served_by (Stored t) is h = ap (λ (k : ℕ). Some k) h.0.1

pub rule_says : {S E : Type 0} (past_of : S → List E) → RuleSays past_of
rule_says {S} {E} past_of s r =
    let drawn : (j : ℕ) (u : View E) (ticket : ℕ) → get_elem? s.views j ≡ some u → ticket_of u.stage ≡ Some ticket → IsDrawn r.serving r.next r.owner j u.taken ticket =
    λ j u ticket at is. drawn_by r.past s.homes r.serving r.next r.owner j u u.stage ticket is (r.each j u at).1 in
    let served : (j : ℕ) (u : View E) → get_elem? s.views j ≡ some u → has_turn u.stage ≡ true → ticket_of u.stage ≡ Some r.serving =
    λ j u at is. served_by r.past s.homes r.serving r.next r.owner j u u.stage is (r.each j u at).1 in
    let all_turns = r.turns in
    record {
      words = r.words;
      tickets = λ j u ticket at is. let d = drawn j u ticket at is in (d.waits, d.drawn);
      no_shared_ticket = λ i j v w ticket at at' is is'. sym (drawn i v ticket at is).own ∙ (drawn j w ticket at' is').own;
      queue = r.queue;
      turn = λ j u at is. (served j u at is, is_out past_of r.past s.homes s.views (turn_from r.past s.homes r.serving r.next r.owner j u u.stage is (r.each j u at).1).1.2 r.placed);
      one_turn = λ i j v w at at' is is'. sym (drawn i v r.serving at (served i v at is)).own ∙ (drawn j w r.serving at' (served j w at' is')).own;
      slot = r.placed;
      past_held = λ j u ticket held at is. (stands past_of s r j u (Holds ticket held) at is).1;
      past_stored = λ j u ticket at is. (stands past_of s r j u (Stored ticket) at is).1;
      seen = λ j u at. (r.each j u at).0;
      turns = omega arith;
    }
