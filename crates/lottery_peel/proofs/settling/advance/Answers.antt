use Rattle.std.proofs.Common.{ℕ, ◌-◌, ◌<◌, List, length, subst, arith, inl, inr}
use Rattle.std.specs.Prelude.{slice_index}
use Rattle.lottery_peel.specs.Standing.{AreDueArcs, TightAt, Waits}
use Rattle.lottery_peel.proofs.settling.advance.Goals as goal

pub returns : goal.returns
returns c =
    let all : ℕ = c.args.rules.now.tickets in
    let dues : List ℕ = c.args.standing.now.dues.items in
    let due : AreDueArcs dues (all - c.args.left) c.list_due.new.arcs.items = rw (c.as_slice.ensures.value, c.tickets.ensures.value) at c.in_ok-list_due.ensures in
    let settled : (j : ℕ) → j < length c.list_due.new.arcs.items → TightAt all c.args.left c.settle_all.new.standing (slice_index c.list_due.new.arcs.items j) =
    rw c.as_slice-2.ensures.value at c.in_ok-settle_all.ensures.settled in
    record {
      stands = c.in_ok-settle_all.ensures.stands;
      tight = λ a lt.
          let a_in : a < length c.args.standing.now.net.arcs = omega (arith, lt, c.in_ok-settle_all.ensures.long) in
          elim (c.requires.ready a a_in) [
            | inl tight ↦ c.in_ok-settle_all.ensures.tight a tight
            | inr now ↦
                let found = due.whole a (omega (arith, a_in, c.requires.stands.long)) (omega (arith, now)) in
                subst (λ k. TightAt all c.args.left c.settle_all.new.standing k) found.1.1 (settled found.0 found.1.0)
          ];
    }

pub at-requires : goal.at-requires
at-requires c = omega (arith, c.tickets.ensures.value, c.requires.some, c.requires.fewer, c.requires.stands.waiting.long)

pub list_due-requires : goal.list_due-requires
list_due-requires c = record {
  waiting = rw (c.at.ensures, c.as_slice.ensures.value, c.tickets.ensures.value)
      (λ a lt now. subst (λ ticket. Waits c.args.standing.now.waiting ticket a) now (c.requires.stands.waiting.each a lt (omega (arith, now, c.requires.some, c.requires.fewer))));
}
