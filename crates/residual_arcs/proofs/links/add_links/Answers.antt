use Rattle.std.proofs.Common.{◌≡◌, ◌+◌, ◌-◌, arith, subst}
use Rattle.residual_arcs.specs.Adding.{AddsFrom}
use Rattle.residual_arcs.proofs.Linking.{AddsFrom-first, AddsFrom-more}
use Rattle.residual_arcs.proofs.links.add_links.Goals as goal

pub loop-bound-init : goal.loop-bound-init
loop-bound-init c = record {
  adds = AddsFrom-first c.args.net.now c.args.node c.last_bound-bound.result c.args.all.now.items c.last_bound-bound.ensures;
  below = c.last_bound-bound.ensures.below;
  at = c.last_bound-bound.ensures.at;
}

pub loop-bound-preserved : goal.loop-bound-preserved
loop-bound-preserved c =
    let next = c.bound_before-bound.ensures in
    let place : c.loop-bound.bound ≡ c.loop-bound.bound - 1 + 1 = omega arith in
    let before : AddsFrom c.args.net.now c.args.node (c.loop-bound.bound - 1 + 1) c.args.all.now.items c.loop-bound.all.items =
    subst (λ b. AddsFrom c.args.net.now c.args.node b c.args.all.now.items c.loop-bound.all.items) place c.loop-bound.invariant.adds in
    record {
      adds = AddsFrom-more c.args.net.now c.args.node (c.loop-bound.bound - 1) c.bound_before-bound.result c.args.all.now.items c.loop-bound.all.items c.add_step.new.all.items c.add_step-in-loop-bound.new.all.items
          before c.in_ok-add_step.ensures.adds c.in_ok-add_step-2.ensures.adds next;
      below = omega (arith, next.below, c.loop-bound.invariant.below);
      at = next.at;
    }
