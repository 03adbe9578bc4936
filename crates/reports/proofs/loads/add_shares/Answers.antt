use Rattle.std.proofs.Common.{◌≡◌, ℕ, ◌<◌, ◌≤◌, ◌==◌, length, arith}
use Rattle.std.specs.Prelude.{slice_index}
use Rattle.match_rules.specs.Rules.{RulesValue, AreRules, pair_at}
use Rattle.reports.proofs.CountLaws.{sum-fits}
use Rattle.reports.proofs.loads.add_shares.Goals as goal

pub overflow_add-loads : goal.overflow_add-loads
overflow_add-loads c =
    let all : RulesValue = c.args.rules.now in
    let e : ℕ = c.loop-e.e in
    let are : AreRules all = c.pairs-pairs.ensures.kept in
    let below : e < length all.pairs = omega (arith, c.pairs-pairs.ensures.len) in
    let j : ℕ = (pair_at all e).reviewer in
    let size : length c.loop-e.loads ≡ length all.reviewers = c.loop-e.invariant.size in
    let known : j < length all.reviewers = (are.pairs.each e below).reviewer in
    let counted = c.loop-e.invariant.each j (omega arith) in
    let share : (k : ℕ) → k < length all.pairs → slice_index c.args.shares.now k ≤ 10000 =
    λ k h. let s = c.requires.shares.1 k 0 (omega (arith, h, c.requires.shares.0)) in omega (arith, s, are.tickets) in
    let sum = sum-fits (λ k. (pair_at all k).reviewer == j) (slice_index c.args.shares.now) 10000 e (λ k h. share k (omega (arith, h, below))) in
    let last = share e below in
    let few = are.pairs.few in
    rw c.pairs-pairs.ensures.value (omega (arith, counted, sum, last, few))
