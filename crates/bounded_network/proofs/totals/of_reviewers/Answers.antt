use Rattle.std.proofs.Common.{rules, ◌≡◌, ℕ, ◌<◌, ◌==◌, length, slice_index, arith, refl}
use Rattle.match_rules.specs.Rules.{RulesValue, AreRules, pair_at}
use Rattle.bounded_network.specs.Totals.{AreWords}
use Rattle.bounded_network.proofs.Tallies.{tally-small, tally-more, tally-all}
use Rattle.bounded_network.proofs.totals.of_reviewers.Goals as goal

pub add-requires-clause-fits : goal.add-requires-clause-fits
add-requires-clause-fits c =
    let all : RulesValue = c.args.rules.now in
    let e : ℕ = c.loop-e.e in
    let are : AreRules all = c.reviewers.ensures.kept in
    let words : AreWords c.args.shares.now = search rules in
    let below : e < length all.pairs = omega (arith, c.pairs-pairs.ensures.len) in
    rw c.pairs-pairs.ensures.value
    (tally-small (length all.reviewers) (λ p k. (pair_at all k).reviewer == p) (slice_index c.args.shares.now) e c.loop-e.totals.items (pair_at all e).reviewer
    c.loop-e.invariant words (omega (arith, are.pairs.few)) (are.pairs.each e below).reviewer)

pub loop-e-preserved : goal.loop-e-preserved
loop-e-preserved c =
    let all : RulesValue = c.args.rules.now in
    let e : ℕ = c.loop-e.e in
    let are : AreRules all = c.reviewers.ensures.kept in
    let below : e < length all.pairs = omega (arith, c.pairs-pairs.ensures.len) in
    let added = rw c.pairs-pairs.ensures.value at c.add.ensures in
    rw added
    (tally-more (length all.reviewers) (λ p k. (pair_at all k).reviewer == p) (slice_index c.args.shares.now) e c.loop-e.totals.items (pair_at all e).reviewer _
    c.loop-e.invariant (are.pairs.each e below).reviewer (λ v. refl) refl)

pub returns : goal.returns
returns c =
    let all : RulesValue = c.args.rules.now in
    let end : c.loop-e.e ≡ length all.pairs = omega (arith, c.pairs-pairs.ensures.len) in
    rw end at (tally-all (length all.reviewers) (λ p k. (pair_at all k).reviewer == p) (slice_index c.args.shares.now) c.loop-e.e c.loop-e.totals.items c.loop-e.invariant)
