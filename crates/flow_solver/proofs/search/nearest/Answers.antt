use Rattle.std.proofs.Common.{◌≡◌, true, inl, inr, rules, ap, ◌∙◌}
use Rattle.std.proofs.lemmas.Bool.{both_ways, cases_Bool}
use Rattle.flow_solver.specs.Search.{is_settled}
use Rattle.flow_solver.proofs.search.nearest.Goals as goal

pub bounds-settled-node : goal.bounds-settled-node
bounds-settled-node c =
    c.requires c.in-Some.distance c.in-Some.node (c.loop-distance.invariant.only c.in-Some.distance c.in-Some.node c.in-Some.ensures.waited)

pub returns-then-not-done-clause-kept : goal.returns-then-not-done-clause-kept
returns-then-not-done-clause-kept c = λ d v waits uns. c.in-Some.ensures.kept d v (c.loop-distance.invariant.kept d v waits uns)

pub returns-then-not-done-clause-nearest : goal.returns-then-not-done-clause-nearest
returns-then-not-done-clause-nearest c = λ d v waits uns. c.in-Some.ensures.nearest d v (c.loop-distance.invariant.kept d v waits uns)

pub loop-distance-preserved : goal.loop-distance-preserved
loop-distance-preserved c = record {
  only = λ d v waits. c.loop-distance.invariant.only d v (c.in-Some.ensures.only d v waits);
  kept = λ d v waits uns. elim (c.in-Some.ensures.kept d v (c.loop-distance.invariant.kept d v waits uns)) [
    | inl stays ↦ stays
    | inr popped ↦
        let here : is_settled c.args.settled.now c.in-Some.node ≡ true = search rules in
        absurd (both_ways (is_settled c.args.settled.now v) uns (ap (is_settled c.args.settled.now) popped.1 ∙ here))
  ];
}

pub returns-clause-none : goal.returns-clause-none
returns-clause-none c = λ d v waits. elim (cases_Bool (is_settled c.args.settled.now v)) [
  | inl s ↦ s
  | inr uns ↦ absurd (c.in_default.ensures.none d v (c.loop-distance.invariant.kept d v waits uns))
]
