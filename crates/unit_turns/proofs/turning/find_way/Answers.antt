use Rattle.std.proofs.Common.{◌≡◌, ◌<◌, true, false, map, ap, ◌∙◌, arith, inl, inr}
use Rattle.std.specs.Prelude.{not, ◌==◌}
use Rattle.std.proofs.lemmas.Bool.{cases_lt}
use Rattle.bounded_network.specs.Network.{arc_at}
use Rattle.residual_arcs.specs.Step.{start_of, end_of}
use Rattle.unit_turns.specs.declared.side.Reach.{Reach}
use Rattle.unit_turns.specs.Side.{reach_at, place_of}
use Rattle.unit_turns.proofs.Growing.{AreNumbered-blank, node_placed}
use Rattle.unit_turns.proofs.Ending.{AreViolated-ahead, AreViolated-behind}
use Rattle.unit_turns.proofs.turning.find_way.Goals as goal

pub returns-in_err-set_out-clause-behind : goal.returns-in_err-set_out-clause-behind
returns-in_err-set_out-clause-behind c = AreNumbered-blank c.args.net.now c.args.behind.now c.requires.behind

pub search-requires-clause-ahead : goal.search-requires-clause-ahead
search-requires-clause-ahead c = c.in_ok-set_out.ensures.side c.args.flow.now (record { ahead = true; avoid = c.args.step.arc })

pub search-requires-clause-behind : goal.search-requires-clause-behind
search-requires-clause-behind c = c.in_ok-set_out-2.ensures.side c.args.flow.now (record { ahead = false; avoid = c.args.step.arc })

pub returns-in-None-clause-none : goal.returns-in-None-clause-none
returns-in-None-clause-none c =
    let net = c.args.net.now in
    let step = c.args.step in
    let found = c.in_ok-found.ensures in
    let ahead = c.search.new.ahead in
    let behind = c.search.new.behind in
    let good = c.arc_of-arc.ensures.kept in
    let end_root : (reach_at ahead 0).node ≡ end_of (arc_at net step.arc) step.forward =
    ap (λ (r : Reach). r.node) found.ahead_root ∙ c.in_ok-set_out.ensures.root ∙ c.end.ensures ∙ ap (λ a. end_of a step.forward) c.arc_of-arc.ensures.value in
    let start_root : (reach_at behind 0).node ≡ start_of (arc_at net step.arc) step.forward =
    ap (λ (r : Reach). r.node) found.behind_root ∙ c.in_ok-set_out-2.ensures.root ∙ c.start.ensures ∙ ap (λ a. start_of a step.forward) c.arc_of-arc.ensures.value in
    let end_placed : 0 < place_of ahead (end_of (arc_at net step.arc) step.forward) = rw end_root at (node_placed net ahead found.ahead.numbered 0 found.ahead.some) in
    let start_placed : 0 < place_of behind (start_of (arc_at net step.arc) step.forward) = rw start_root at (node_placed net behind found.behind.numbered 0 found.behind.some) in
    let start_unplaced : place_of ahead (start_of (arc_at net step.arc) step.forward) ≡ 0 = elim (cases_lt 0 (place_of ahead (start_of (arc_at net step.arc) step.forward))) [
      | inl placed ↦ absurd (found.apart (start_of (arc_at net step.arc) step.forward) placed start_placed)
      | inr none ↦ omega (arith, none)
    ] in
    let end_unplaced : place_of behind (end_of (arc_at net step.arc) step.forward) ≡ 0 = elim (cases_lt 0 (place_of behind (end_of (arc_at net step.arc) step.forward))) [
      | inl placed ↦ absurd (found.apart (end_of (arc_at net step.arc) step.forward) end_placed placed)
      | inr none ↦ omega (arith, none)
    ] in
    elim (rw c.in-None.is at found.ended) [
      | inl ended ↦ (map (λ p. not (p == 0)) ahead.places.items, AreViolated-ahead net c.args.flow.now good c.requires.circulation step.arc c.requires.arc_in step.forward c.requires.some ahead found.ahead.numbered ended end_placed start_unplaced)
      | inr ended ↦ (map (λ p. p == 0) behind.places.items, AreViolated-behind net c.args.flow.now good c.requires.circulation step.arc c.requires.arc_in step.forward c.requires.some behind found.behind.numbered ended end_unplaced start_placed)
    ]
