use Rattle.std.proofs.Common.{◌≡◌, ℕ, ◌+◌, ◌-◌, ◌*◌, ◌≤◌, ◌/◌, ◌∙◌, ap, sym, arith}
use Rattle.made_conference.specs.Numbers.{state_after}
use Rattle.made_conference.specs.Pairs.{made_pair, paper_pairs, pairs_before}
use Rattle.made_conference.proofs.PairLaws.{pairs_are, items_more}
use Rattle.made_conference.proofs.pairs.push_pairs.Goals as goal

pub made_pair-requires : goal.made_pair-requires
made_pair-requires g c =
    let before = pairs_are c.args.paper c.loop-reviewer.reviewer c.loop-reviewer.auto.reviewer c.loop-reviewer-test.true in
    c.loop-reviewer.invariant.state ∙ ap (λ (n : ℕ). state_after g.seed (2 * n)) (sym before)

pub loop-reviewer-preserved : goal.loop-reviewer-preserved
loop-reviewer-preserved g c =
    let before = pairs_are c.args.paper c.loop-reviewer.reviewer c.loop-reviewer.auto.reviewer c.loop-reviewer-test.true in
    let le : 45 * (c.args.paper / 60) ≤ c.loop-reviewer.reviewer = c.loop-reviewer.auto.reviewer in
    let draws : 2 * pairs_before c.args.paper c.loop-reviewer.reviewer + 2 ≡ 2 * (45 * c.args.paper + (c.loop-reviewer.reviewer + 1 - 45 * (c.args.paper / 60))) = omega (arith, before, le) in
    record {
      pairs = items_more (made_pair g.seed c.args.paper) _ _ _ (45 * (c.args.paper / 60)) c.loop-reviewer.reviewer _ le c.loop-reviewer.invariant.pairs c.made_pair.ensures.pair c.in_ok-push.ensures.items;
      state = c.made_pair.ensures.state ∙ ap (state_after g.seed) draws;
    }

pub returns-clause-pairs : goal.returns-clause-pairs
unfolding paper_pairs
returns-clause-pairs g c =
    let count : c.loop-reviewer.reviewer - 45 * (c.args.paper / 60) ≡ 45 = omega arith in
    rw count at c.loop-reviewer.invariant.pairs
