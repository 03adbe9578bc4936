-- The links of all nodes, as they are made.
use Rattle.std.proofs.Common.{◌≡◌, ◌≢◌, ℕ, ◌+◌, ◌<◌, ◌≤◌, Bool, true, false, List, [], ◌∷◌, ◌++◌, length, All, refl, ap, ◌∙◌, arith, inl, inr}
use Rattle.std.specs.Prelude.{slice_index}
use Rattle.std.proofs.lemmas.Bool.{cases_eq, cases_lt}
use Rattle.std.proofs.lemmas.List.{length_push, get_or_push, get_or_append_left, get_or_past}
use Rattle.std.proofs.lemmas.List.Elements.{All-push}
use Rattle.bounded_network.specs.Network.{NetworkValue, IsNetwork, arc_at}
use Rattle.residual_arcs.specs.declared.step.Step.{Step}
use Rattle.residual_arcs.specs.declared.links.Link.{Link}
use Rattle.residual_arcs.specs.declared.links.Links.{Links}
use Rattle.residual_arcs.specs.Adding.{IsGrown, StandsFrom, Adds, AddsFrom}
use Rattle.residual_arcs.specs.Chains.{IsBound}
use Rattle.residual_arcs.specs.Links.{HasChoice, IsLink, AreLinks, link_at, no_link, start_at}
use Rattle.residual_arcs.specs.Step.{start_of}
use Rattle.residual_arcs.proofs.Steps.{start_in}

-- nothing is added
pub IsGrown-same : (net : NetworkValue) (v : ℕ) (old : List Link) → IsGrown net v old old
IsGrown-same net v old = record {
  longer = omega arith;
  kept = λ i b. refl;
  each = λ all. all;
  fresh = λ i above below. absurd (omega arith);
}

-- one link is added
pub IsGrown-push : (net : NetworkValue) (v : ℕ) (old : List Link) (link : Link) → IsLink net link → start_at net link ≡ v → IsGrown net v old (old ++ link ∷ [])
IsGrown-push net v old link good leaves = record {
  longer = omega (arith, length_push old link);
  kept = λ i b. get_or_append_left old (link ∷ []) no_link i b;
  each = λ all. All-push (λ l. IsLink net l) old link all good;
  fresh = λ i above below.
      let e : i ≡ length old = omega (arith, length_push old link) in
      rw (e, get_or_push old link no_link (length old) refl) leaves;
}

pub IsGrown-then : (net : NetworkValue) (v : ℕ) (a b c : List Link) → IsGrown net v a b → IsGrown net v b c → IsGrown net v a c
IsGrown-then net v a b c one two = record {
  longer = omega (arith, one.longer, two.longer);
  kept = λ i below. two.kept i (omega (arith, one.longer)) ∙ one.kept i below;
  each = λ all. two.each (one.each all);
  fresh = λ i above below. elim (cases_lt i (length b)) [
    | inl before ↦ rw (two.kept i before) (one.fresh i above before)
    | inr behind ↦ two.fresh i behind below
  ];
}

-- a step that stands among the links still does when they have grown
StandsFrom-grown : (net : NetworkValue) (v first : ℕ) (old new : List Link) (step : Step) → IsGrown net v old new → StandsFrom old first step → StandsFrom new first step
StandsFrom-grown net v first old new step grown (i, above, below, at) =
    (i, above, omega (arith, grown.longer), ap (λ (l : Link). l.step) (grown.kept i below) ∙ at)

-- also when less stands before them
StandsFrom-wider : (first less : ℕ) (links : List Link) (step : Step) → less ≤ first → StandsFrom links first step → StandsFrom links less step
StandsFrom-wider first less links step le (i, above, below, at) = (i, omega (arith, le), below, at)

-- the two steps over an arc
abbrev pub over_arc : ℕ → Bool → Step
over_arc a forward = record { arc = a; forward = forward }

both_steps_at : (P : Step → Type 0) (a b : ℕ) (forward : Bool) → P (over_arc a true) → P (over_arc a false) → b ≡ a → P (over_arc b forward)
both_steps_at P a b true ahead back e = rw e ahead
both_steps_at P a b false ahead back e = rw e back

both_steps : (P : Step → Type 0) (a : ℕ) → P (over_arc a true) → P (over_arc a false) → (step : Step) → step.arc ≡ a → P step
both_steps P a ahead back step e = both_steps_at P a step.arc step.forward ahead back e

-- a step starts at the tail or the head
starts_at : (net : NetworkValue) (a v : ℕ) (forward : Bool) → start_of (arc_at net a) forward ≡ v → (arc_at net a).tail ≢ v → (arc_at net a).head ≢ v → ⊥
starts_at net a v true starts not_tail not_head = not_tail starts
starts_at net a v false starts not_tail not_head = not_head starts

-- nothing is added before the first arc
pub AddsFrom-first : (net : NetworkValue) (v bound : ℕ) (old : List Link) → IsBound net v (length net.arcs) bound → AddsFrom net v bound old old
AddsFrom-first net v bound old between = record {
  grown = IsGrown-same net v old;
  whole = λ step a_in from choice leaves. let none = between.none_between step.arc from a_in in absurd (starts_at net step.arc v step.forward leaves none.0 none.1);
}

-- the steps over one arc more
pub AddsFrom-more : (net : NetworkValue) (v place bound : ℕ) (first old mid new : List Link) → AddsFrom net v (place + 1) first old
    → Adds net v (over_arc place true) old mid → Adds net v (over_arc place false) mid new → IsBound net v place bound → AddsFrom net v bound first new
AddsFrom-more net v place bound first old mid new before ahead back between =
    let once : IsGrown net v first mid = IsGrown-then net v first old mid before.grown ahead.grown in
    record {
      grown = IsGrown-then net v first mid new once back.grown;
      whole = λ step a_in from choice leaves. elim (cases_eq step.arc place) [
        | inl e ↦ both_steps (λ s. HasChoice (arc_at net s.arc) → start_of (arc_at net s.arc) s.forward ≡ v → StandsFrom new (length first) s) place
            (λ c l. StandsFrom-wider (length old) (length first) new (over_arc place true) before.grown.longer (StandsFrom-grown net v (length old) mid new (over_arc place true) back.grown (ahead.here c l)))
            (λ c l. StandsFrom-wider (length mid) (length first) new (over_arc place false) once.longer (back.here c l))
            step e choice leaves
        | inr ne ↦ elim (cases_lt step.arc place) [
          | inl below ↦ let none = between.none_between step.arc from below in absurd (starts_at net step.arc v step.forward leaves none.0 none.1)
          | inr above ↦ StandsFrom-grown net v (length first) old new step (IsGrown-then net v old mid new ahead.grown back.grown) (before.whole step a_in (omega arith) choice leaves)
        ]
      ];
    }

-- the links of the nodes below a limit
pub record AreLinksTo (net : NetworkValue) (limit : ℕ) (all : List Link) (starts : List ℕ) : Type 0 where
  pub each : All (λ link. IsLink net link) all
  pub starts_long : length starts ≡ limit + 1
  pub last : slice_index starts limit ≡ length all
  pub within : (v : ℕ) → slice_index starts v ≤ length all
  pub leave : (v i : ℕ) → v < limit → slice_index starts v ≤ i → i < slice_index starts (v + 1) → start_at net (link_at all i) ≡ v
  pub whole : (step : Step) → step.arc < length net.arcs → HasChoice (arc_at net step.arc) → start_of (arc_at net step.arc) step.forward < limit
      → (i : ℕ) × (slice_index starts (start_of (arc_at net step.arc) step.forward) ≤ i) × (i < slice_index starts (start_of (arc_at net step.arc) step.forward + 1)) × ((link_at all i).step ≡ step)

-- those of one node more
pub AreLinksTo-more : (net : NetworkValue) (limit : ℕ) (old new : List Link) (starts : List ℕ) → AreLinksTo net limit old starts → AddsFrom net limit 0 old new
    → AreLinksTo net (limit + 1) new (starts ++ length new ∷ [])
AreLinksTo-more net limit old new starts before adds =
    let more : List ℕ = starts ++ length new ∷ [] in
    let below : (v : ℕ) → v ≤ limit → slice_index more v ≡ slice_index starts v = λ v b. get_or_append_left starts (length new ∷ []) 0 v (omega (arith, before.starts_long)) in
    let end : slice_index more (limit + 1) ≡ length new = get_or_push starts (length new) 0 (limit + 1) before.starts_long in
    let long : length more ≡ limit + 1 + 1 = omega (arith, length_push starts (length new), before.starts_long) in
    record {
      each = adds.grown.each before.each;
      starts_long = long;
      last = end;
      within = λ v. elim (cases_lt v (limit + 1)) [
        | inl b ↦ rw (below v (omega arith)) (omega (arith, before.within v, adds.grown.longer))
        | inr past ↦ elim (cases_eq v (limit + 1)) [
          | inl e ↦ rw (e, end) (omega arith)
          | inr ne ↦ rw (get_or_past more v 0 (omega (arith, long))) (omega arith)
        ]
      ];
      leave = λ v i b from to. elim (cases_eq v limit) [
        | inl e ↦
            let from_limit : length old ≤ i = rw (e, below limit (omega arith), before.last) at from in
            let to_limit : i < length new = rw (e, end) at to in
            rw e (adds.grown.fresh i from_limit to_limit)
        | inr ne ↦
            let from_old : slice_index starts v ≤ i = rw (below v (omega arith)) at from in
            let to_old : i < slice_index starts (v + 1) = rw (below (v + 1) (omega arith)) at to in
            rw (adds.grown.kept i (omega (arith, before.within (v + 1)))) (before.leave v i (omega arith) from_old to_old)
      ];
      whole = λ step a_in choice b.
          let v : ℕ = start_of (arc_at net step.arc) step.forward in
          elim (cases_eq v limit) [
            | inl e ↦
                let there = adds.whole step a_in (omega arith) choice e in
                (there.0, rw (e, below limit (omega arith), before.last) there.1, rw (e, end) there.2, there.3)
            | inr ne ↦
                let there = before.whole step a_in choice (omega arith) in
                (there.0, rw (below v (omega arith)) there.1, rw (below (v + 1) (omega arith)) there.2, ap (λ (l : Link). l.step) (adds.grown.kept there.0 (omega (arith, before.within (v + 1), there.2))) ∙ there.3)
          ];
    }

-- those of all nodes
pub AreLinks-of : (net : NetworkValue) (links : Links) → IsNetwork net → AreLinksTo net net.nodes links.all.items links.starts.items → AreLinks net links
AreLinks-of net links good to_end = record {
  each = to_end.each;
  starts_long = to_end.starts_long;
  within = to_end.within;
  leave = to_end.leave;
  whole = λ step a_in choice. to_end.whole step a_in choice (start_in net.nodes (arc_at net step.arc) step.forward (good.each step.arc a_in));
}
