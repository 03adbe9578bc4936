-- Lists of steps as one step is added.
use Rattle.std.proofs.Common.{◌≡◌, ◌≢◌, ℕ, suc, ◌+◌, ◌<◌, Bool, true, false, List, [], ◌∷◌, ◌++◌, length, refl, sym, ap, ◌∙◌, arith, inl, inr}
use Rattle.std.specs.Prelude.{slice_index, ◌==◌, not, if◌then◌else◌}
use Rattle.std.proofs.lemmas.Bool.{cases_lt}
use Rattle.std.proofs.lemmas.List.{get_or_push, get_or_append_left, length_push}
use Rattle.match_rules.specs.Sums.{count_below, when}
use Rattle.bounded_network.specs.Network.{NetworkValue, arc_at}
use Rattle.bounded_network.specs.declared.network.Arc.{Arc}
use Rattle.bounded_network.proofs.Sums.{count_below-equal}
use Rattle.residual_arcs.specs.declared.step.Step.{Step}
use Rattle.residual_arcs.specs.Step.{start_of, end_of, left_on}
use Rattle.unit_turns.specs.declared.side.Aim.{Aim}
use Rattle.unit_turns.specs.declared.side.Side.{Side}
use Rattle.unit_turns.specs.Side.{toward, reach_at, IsSide}
use Rattle.unit_turns.specs.Steps.{no_step, step_at, starts_to, ends_to, Lead, AreFree}
use Rattle.unit_turns.specs.Paths.{AreAside, HasPath}
use Rattle.unit_turns.proofs.Trees.{arcs_apart}

module _ (steps : List Step) (s : Step) where
  pub pushed-long : length (steps ++ s ∷ []) ≡ suc (length steps)
  pushed-long = omega (arith, length_push steps s)

  pub pushed-old : (i : ℕ) → i < length steps → step_at (steps ++ s ∷ []) i ≡ step_at steps i
  pushed-old i b = get_or_append_left steps (s ∷ []) no_step i b

  pub pushed-new : step_at (steps ++ s ∷ []) (length steps) ≡ s
  pushed-new = get_or_push steps s no_step (length steps) refl

  -- a count over the steps, with one more
  counted-pushed : (f : Step → ℕ) → count_below (length (steps ++ s ∷ [])) (λ i. f (step_at (steps ++ s ∷ []) i)) ≡ count_below (length steps) (λ i. f (step_at steps i)) + f s
  counted-pushed f =
      let new : ℕ → ℕ = λ i. f (step_at (steps ++ s ∷ []) i) in
      let old : ℕ → ℕ = λ i. f (step_at steps i) in
      let all : count_below (length (steps ++ s ∷ [])) new ≡ count_below (suc (length steps)) new = ap (λ n. count_below n new) pushed-long in
      let before : count_below (length steps) new ≡ count_below (length steps) old = count_below-equal (length steps) new old (λ i b. ap f (pushed-old i b)) in
      let last : new (length steps) ≡ f s = ap f pushed-new in
      omega (arith, all, before, last)

  pub starts-pushed : (net : NetworkValue) (v : ℕ) → starts_to net (steps ++ s ∷ []) (length (steps ++ s ∷ [])) v ≡ starts_to net steps (length steps) v + when (start_of (arc_at net s.arc) s.forward == v) 1
  starts-pushed net v = counted-pushed (λ t. when (start_of (arc_at net t.arc) t.forward == v) 1)

  pub ends-pushed : (net : NetworkValue) (v : ℕ) → ends_to net (steps ++ s ∷ []) (length (steps ++ s ∷ [])) v ≡ ends_to net steps (length steps) v + when (end_of (arc_at net s.arc) s.forward == v) 1
  ends-pushed net v = counted-pushed (λ t. when (end_of (arc_at net t.arc) t.forward == v) 1)

  -- a free step over another arc
  pub AreFree-pushed : (net : NetworkValue) (flow : List ℕ) → AreFree net flow steps → s.arc < length net.arcs → 0 < left_on (arc_at net s.arc) (slice_index flow s.arc) s.forward
      → ((k : ℕ) → k < length steps → (step_at steps k).arc ≢ s.arc) → AreFree net flow (steps ++ s ∷ [])
  AreFree-pushed net flow free arc_in left apart = record {
    arcs = λ i b. elim (cases_lt i (length steps)) [
      | inl below ↦ rw (pushed-old i below) (free.arcs i below)
      | inr above ↦ let e : i ≡ length steps = omega (arith, above, b, pushed-long) in rw (e, pushed-new) arc_in
    ];
    apart = λ i j below b. elim (cases_lt j (length steps)) [
      | inl j_below ↦ rw (pushed-old i (omega (arith, below, j_below)), pushed-old j j_below) (free.apart i j below j_below)
      | inr above ↦ let e : j ≡ length steps = omega (arith, above, b, pushed-long) in
          rw (pushed-old i (omega (arith, below, e)), e, pushed-new) (apart i (omega (arith, below, e)))
    ];
    left = λ i b. elim (cases_lt i (length steps)) [
      | inl below ↦ rw (pushed-old i below) (free.left i below)
      | inr above ↦ let e : i ≡ length steps = omega (arith, above, b, pushed-long) in rw (e, pushed-new) left
    ];
  }

-- no steps
pub AreFree-none : (net : NetworkValue) (flow : List ℕ) → AreFree net flow []
AreFree-none net flow = record {
  arcs = λ i b. absurd (omega (arith, b));
  apart = λ i j below b. absurd (omega (arith, b));
  left = λ i b. absurd (omega (arith, b));
}

-- the ends of a step as the path takes it
turned_start : (arc : Arc) (forward : Bool) → start_of arc (not forward) ≡ end_of arc forward
turned_start arc true = refl
turned_start arc false = refl

turned_end : (arc : Arc) (forward : Bool) → end_of arc (not forward) ≡ start_of arc forward
turned_end arc true = refl
turned_end arc false = refl

-- a step before the others, or behind them, makes what they lead over longer
lead_before : (net : NetworkValue) (old mid : List Step) (s : Step) (x y z : ℕ) → Lead net old mid y z → start_of (arc_at net s.arc) s.forward ≡ x → end_of (arc_at net s.arc) s.forward ≡ y → Lead net old (mid ++ s ∷ []) x z
lead_before net old mid s x y z lead starts ends v =
    let a = starts-pushed mid s net v in
    let b = ends-pushed mid s net v in
    let c = ap (λ u. when (u == v) 1) starts in
    let d = ap (λ u. when (u == v) 1) ends in
    omega (arith, a, b, c, d, lead v)

lead_behind : (net : NetworkValue) (old mid : List Step) (s : Step) (x y z : ℕ) → Lead net old mid x y → start_of (arc_at net s.arc) s.forward ≡ y → end_of (arc_at net s.arc) s.forward ≡ z → Lead net old (mid ++ s ∷ []) x z
lead_behind net old mid s x y z lead starts ends v =
    let a = starts-pushed mid s net v in
    let b = ends-pushed mid s net v in
    let c = ap (λ u. when (u == v) 1) starts in
    let d = ap (λ u. when (u == v) 1) ends in
    omega (arith, a, b, c, d, lead v)

-- nothing added leads from a node to itself
lead_none : (net : NetworkValue) (old : List Step) (x : ℕ) → Lead net old old x x
lead_none net old x v = omega arith

lead_first : (net : NetworkValue) (ahead : Bool) (old : List Step) (x : ℕ) → Lead net old old (if ahead then x else x) (if ahead then x else x)
lead_first net true old x = lead_none net old x
lead_first net false old x = lead_none net old x

-- the step between a node and the one that it is reached from, as the path takes it
lead_more : (net : NetworkValue) (ahead : Bool) (old mid : List Step) (step s : Step) (x y z : ℕ) → s.arc ≡ step.arc → s.forward ≡ toward ahead step.forward
    → start_of (arc_at net step.arc) step.forward ≡ x → end_of (arc_at net step.arc) step.forward ≡ y
    → Lead net old mid (if ahead then y else z) (if ahead then z else y) → Lead net old (mid ++ s ∷ []) (if ahead then x else z) (if ahead then z else x)
lead_more net true old mid step s x y z arc forward starts ends lead = lead_before net old mid s x y z lead (rw (arc, forward) starts) (rw (arc, forward) ends)
lead_more net false old mid step s x y z arc forward starts ends lead =
    lead_behind net old mid s z y x lead
    (rw (arc, forward) (turned_start (arc_at net step.arc) step.forward ∙ ends))
    (rw (arc, forward) (turned_end (arc_at net step.arc) step.forward ∙ starts))

module _ (net : NetworkValue) (flow : List ℕ) (aim : Aim) (side : Side) (tree : IsSide net flow aim side) (old : List Step) (aside : AreAside side old) where
  -- no step yet
  pub HasPath-first : (place : ℕ) → AreFree net flow old → HasPath net flow aim side place place old old
  HasPath-first place free = record {
    longer = omega arith;
    kept = λ k b. refl;
    fresh = λ k from b. absurd (omega (arith, from, b));
    free = free;
    lead = lead_first net aim.ahead old (reach_at side place).node;
  }

  -- one step more
  pub HasPath-more : (at place : ℕ) (mid : List Step) (s : Step) → 0 < at → at < length side.reaches.items → HasPath net flow aim side at place old mid
      → s.arc ≡ (reach_at side at).step.arc → s.forward ≡ toward aim.ahead (reach_at side at).step.forward → HasPath net flow aim side (reach_at side at).from place old (mid ++ s ∷ [])
  HasPath-more at place mid s above at_in was arc forward =
      let reach = tree.each at above at_in in
      let long = pushed-long mid s in
      record {
        longer = omega (arith, was.longer, long);
        kept = λ k b. pushed-old mid s k (omega (arith, b, was.longer)) ∙ was.kept k b;
        fresh = λ k from b. elim (cases_lt k (length mid)) [
          | inl below ↦
              let there = was.fresh k from below in
              (there.0, omega (arith, there.1, reach.from), there.2, rw (pushed-old mid s k below) there.3)
          | inr past ↦
              let e : k ≡ length mid = omega (arith, past, b, long) in
              (at, reach.from, at_in, rw (e, pushed-new mid s) arc)
        ];
        free = AreFree-pushed mid s net flow was.free (rw arc reach.arc) (rw (arc, forward) reach.passes.left) (λ k b same. elim (cases_lt k (length old)) [
          | inl below ↦ aside k at below above at_in (ap (λ (t : Step). t.arc) (sym (was.kept k below)) ∙ same ∙ arc)
          | inr past ↦
              let there = was.fresh k past b in
              arcs_apart net flow aim side tree there.0 at (omega (arith, there.1)) above there.2 at_in (λ q. absurd (omega (arith, q, there.1))) (sym there.3 ∙ same ∙ arc)
        ]);
        lead = lead_more net aim.ahead old mid (reach_at side at).step s (reach_at side (reach_at side at).from).node (reach_at side at).node (reach_at side place).node arc forward reach.starts reach.ends was.lead;
      }
