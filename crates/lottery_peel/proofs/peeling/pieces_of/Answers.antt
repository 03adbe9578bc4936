use Rattle.std.proofs.Common.{◌≡◌, ℕ, ◌≤◌, ◌∙◌, subst, arith}
use Rattle.match_rules.specs.Rules.{RulesValue}
use Rattle.lottery_peel.specs.Peeling.{IsPeeling, IsStepTo}
use Rattle.lottery_peel.specs.Remainder.{RemainderValue}
use Rattle.lottery_peel.proofs.LoopLaws.{peeling_first, peeling_more, peeling_all}
use Rattle.lottery_peel.proofs.peeling.pieces_of.Goals as goal

pub loop-alloc-init : goal.loop-alloc-init
loop-alloc-init c = record {
  rules = c.in_ok-remainder.ensures.rules;
  peeling =
      rw (c.in_ok-remainder.ensures.left, c.in_ok-remainder.ensures.rest, c.new-pieces.ensures.items)
      (peeling_first c.args.rules.now c.args.shares.now c.of.ensures.kept c.requires.fit);
}

pub loop-alloc-preserved : goal.loop-alloc-preserved
loop-alloc-preserved c =
    let all : RulesValue = c.args.rules.now in
    let old : RemainderValue = c.loop-alloc.remainder in
    let new : RemainderValue = c.in_ok-piece.next in
    let some : 1 ≤ old.left = omega (arith, c.left.ensures, c.loop-alloc-test.true) in
    let step : IsStepTo all old.left old.rest old.counts c.in_ok-piece.piece new.left new.rest =
    subst (λ (x : RulesValue). IsStepTo x old.left old.rest old.counts c.in_ok-piece.piece new.left new.rest) c.loop-alloc.invariant.rules c.in_ok-piece.ensures.step in
    record {
      rules = c.in_ok-piece.ensures.rules ∙ c.loop-alloc.invariant.rules;
      peeling =
          rw c.in_ok-push.ensures.items
          (peeling_more all c.args.shares.now old.left old.rest c.loop-alloc.pieces.items old.counts c.in_ok-piece.piece new.left new.rest c.of.ensures.kept c.requires.fit
          c.loop-alloc.invariant.peeling some step);
    }

pub returns-clause-peeled : goal.returns-clause-peeled
returns-clause-peeled c =
    let last : RemainderValue = c.loop-alloc.remainder in
    let none : last.left ≡ 0 = omega (arith, c.left.ensures, c.loop-alloc-test.false) in
    peeling_all c.args.rules.now c.args.shares.now last.rest c.loop-alloc.pieces.items c.requires.fit
    (subst (λ (n : ℕ). IsPeeling c.args.rules.now c.args.shares.now n last.rest c.loop-alloc.pieces.items) none c.loop-alloc.invariant.peeling)
