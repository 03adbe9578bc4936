use Rattle.std.proofs.Common.{sym, ◌∙◌, subst, arith, inl, inr}
use Rattle.std.specs.Prelude.{slice_index}
use Rattle.std.proofs.lemmas.Bool.{cases_eq}
use Rattle.lottery_peel.specs.Standing.{IsStanding, TightAt, rest_of}
use Rattle.lottery_peel.proofs.RestLaws.{own-rest, rest-kept, rest-long}
use Rattle.lottery_peel.proofs.settling.settle_all.Goals as goal

pub loop-place-preserved : goal.loop-place-preserved
loop-place-preserved c =
    let before = c.loop-place.invariant in
    let after = c.in_ok-settle.ensures in
    record {
      stands = subst (λ xs. IsStanding c.args.rules.now c.args.left xs c.settle.new.standing) (rest-kept c.args.rules.now c.args.left c.args.standing.now c.loop-place.standing before.stands) after.stands;
      long = after.long ∙ before.long;
      tight = λ a tight. after.tight a (before.tight a tight);
      multiples = λ j lt. after.multiple (slice_index c.args.arcs.now j) (before.multiples j lt);
      settled = λ j lt. elim (cases_eq j c.loop-place.place) [
        | inl here ↦ subst (λ k. TightAt c.args.rules.now.tickets c.args.left c.settle.new.standing (slice_index c.args.arcs.now k)) (sym here) after.settled
        | inr earlier ↦ after.tight (slice_index c.args.arcs.now j) (before.settled j (omega arith))
      ];
    }

pub settle-requires-clause-stands : goal.settle-requires-clause-stands
settle-requires-clause-stands c =
    own-rest c.args.rules.now c.args.left (rest_of c.args.rules.now c.args.left c.args.standing.now) c.loop-place.standing c.loop-place.invariant.stands (rest-long c.args.rules.now c.args.left c.args.standing.now)
