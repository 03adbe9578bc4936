-- The way round: over the arc, on the side ahead, from it to the side behind, and on that side.
use Rattle.std.proofs.Common.{◌≡◌, ℕ, zero, suc, ◌<◌, true, false, List, [], ◌∷◌, ◌++◌, length, refl, sym, ap, ◌∙◌, arith, inl, inr}
use Rattle.std.specs.Prelude.{slice_index, ◌==◌}
use Rattle.std.proofs.lemmas.Bool.{cases_lt}
use Rattle.match_rules.specs.Sums.{when}
use Rattle.bounded_network.specs.Network.{NetworkValue, arc_at}
use Rattle.residual_arcs.specs.declared.step.Step.{Step}
use Rattle.residual_arcs.specs.Step.{start_of, end_of, left_on}
use Rattle.unit_turns.specs.declared.side.Aim.{Aim}
use Rattle.unit_turns.specs.declared.side.Side.{Side}
use Rattle.unit_turns.specs.declared.scanning.Meeting.{Meeting}
use Rattle.unit_turns.specs.Side.{reach_at, IsSide, AreApart, IsMeeting}
use Rattle.unit_turns.specs.Steps.{step_at, AreFree, IsWay}
use Rattle.unit_turns.specs.Paths.{AreAside, HasPath}
use Rattle.unit_turns.proofs.Stepping.{pushed-long, pushed-old, pushed-new, starts-pushed, ends-pushed, AreFree-none, AreFree-pushed}
use Rattle.unit_turns.proofs.Trees.{sides_apart, meeting_apart, meeting_aside}

-- the arc to avoid
abbrev pub onward : Step → Aim
onward step = record { ahead = true; avoid = step.arc }

abbrev pub back : Step → Aim
back step = record { ahead = false; avoid = step.arc }

module _ (net : NetworkValue) (flow : List ℕ) (step : Step) (arc_in : step.arc < length net.arcs) (left : 0 < left_on (arc_at net step.arc) (slice_index flow step.arc) step.forward) where
  pub AreFree-one : AreFree net flow (step ∷ [])
  AreFree-one = AreFree-pushed [] step net flow (AreFree-none net flow) arc_in left (λ k b. absurd (omega (arith, b)))

-- the first of the steps
module _ (step : Step) where
  one_step : (k : ℕ) → k < length (step ∷ []) → step_at (step ∷ []) k ≡ step
  one_step zero b = refl
  one_step (suc k) b = absurd (omega (arith, b))

  pub AreAside-one : (net : NetworkValue) (flow : List ℕ) (side : Side) → IsSide net flow (onward step) side → AreAside side (step ∷ [])
  AreAside-one net flow side tree k i b above i_in same =
      (tree.each i above i_in).passes.others (sym same ∙ ap (λ (t : Step). t.arc) (one_step k b))

module _ (net : NetworkValue) (flow : List ℕ) (step : Step) (ahead behind : Side) (ahead_tree : IsSide net flow (onward step) ahead) (behind_tree : IsSide net flow (back step) behind) (apart : AreApart ahead behind)
    (meeting : Meeting) (meets : IsMeeting net flow (onward step) ahead behind meeting)
    (mid : List Step) (path : HasPath net flow (onward step) ahead 0 meeting.from (step ∷ []) mid) where
  -- the steps so far: the one over the arc, and those of the side ahead
  first_arc : (k : ℕ) → k < length (step ∷ []) → (step_at mid k).arc ≡ step.arc
  first_arc k b = ap (λ (t : Step). t.arc) (path.kept k b ∙ one_step step k b)

  pub AreFree-across : AreFree net flow (mid ++ meeting.step ∷ [])
  AreFree-across = AreFree-pushed mid meeting.step net flow path.free meets.arc meets.passes.left (λ k b same. elim (cases_lt k (length (step ∷ []))) [
    | inl first ↦ meets.passes.others (sym same ∙ first_arc k first)
    | inr more ↦
        let there = path.fresh k more b in
        meeting_apart net flow (onward step) (back step) ahead behind ahead_tree behind_tree apart meeting meets there.0 there.1 there.2 (sym there.3 ∙ same)
  ])

  pub AreAside-across : AreAside behind (mid ++ meeting.step ∷ [])
  AreAside-across k i b above i_in same = elim (cases_lt k (length mid)) [
    | inl before ↦
        let was : (step_at mid k).arc ≡ (reach_at behind i).step.arc = ap (λ (t : Step). t.arc) (sym (pushed-old mid meeting.step k before)) ∙ same in
        elim (cases_lt k (length (step ∷ []))) [
          | inl first ↦ (behind_tree.each i above i_in).passes.others (sym was ∙ first_arc k first)
          | inr more ↦
              let there = path.fresh k more before in
              sides_apart net flow (onward step) (back step) ahead behind ahead_tree behind_tree apart there.0 i there.1 there.2 above i_in (sym there.3 ∙ was)
        ]
    | inr past ↦
        let e : k ≡ length mid = omega (arith, past, b, pushed-long mid meeting.step) in
        let here : meeting.step.arc ≡ (reach_at behind i).step.arc = ap (λ (t : Step). t.arc) (sym (ap (step_at (mid ++ meeting.step ∷ [])) e ∙ pushed-new mid meeting.step)) ∙ same in
        meeting_aside net flow (onward step) (back step) ahead behind ahead_tree behind_tree apart meeting meets i above i_in (sym here)
  ]

  -- the whole way
  pub IsWay-whole : (all : List Step) → HasPath net flow (back step) behind 0 meeting.to (mid ++ meeting.step ∷ []) all
      → (reach_at ahead 0).node ≡ end_of (arc_at net step.arc) step.forward → (reach_at behind 0).node ≡ start_of (arc_at net step.arc) step.forward → IsWay net flow step all
  IsWay-whole all rest ahead_root behind_root =
      let long = pushed-long mid meeting.step in
      let one : length (step ∷ []) ≡ 1 = refl in
      record {
        free = rest.free;
        round = λ v.
            let starts_one = starts-pushed [] step net v in
            let ends_one = ends-pushed [] step net v in
            let to_meeting = path.lead v in
            let starts_across = starts-pushed mid meeting.step net v in
            let ends_across = ends-pushed mid meeting.step net v in
            let from_meeting = rest.lead v in
            let e1 = ap (λ u. when (u == v) 1) ahead_root in
            let e2 = ap (λ u. when (u == v) 1) behind_root in
            let e3 = ap (λ u. when (u == v) 1) meets.starts in
            let e4 = ap (λ u. when (u == v) 1) meets.ends in
            omega (arith, starts_one, ends_one, to_meeting, starts_across, ends_across, from_meeting, e1, e2, e3, e4);
        some = omega (arith, rest.longer, long);
        first = rest.kept 0 (omega (arith, long)) ∙ pushed-old mid meeting.step 0 (omega (arith, path.longer, one)) ∙ path.kept 0 (omega (arith, one));
      }
