use Rattle.std.proofs.Common.{◌≡◌, ℕ, ◌<◌, ◌==◌, length, arith, rules, refl, sym, length-set}
use Rattle.std.proofs.lemmas.Bool.{eq-eqb, ne_eqb}
use Rattle.std.proofs.lemmas.Int.{ints, to_z-of_z}
use Rattle.std.specs.Int.{w128}
use Rattle.std.specs.Prelude.{ℤ, pos, ◌+ℤ◌, ◌*ℤ◌, FitsSigned, slice_index, slice_index_or}
use Rattle.match_rules.specs.Rules.{RulesValue, AreRules, pair_at}
use Rattle.reports.proofs.CountLaws.{score-bounds, totals_more}
use Rattle.reports.proofs.papers.add_terms.Goals as goal

pub plus-requires-clause-above : goal.plus-requires-clause-above
plus-requires-clause-above c =
    let all : RulesValue = c.args.rules.now in
    let e : ℕ = c.loop-e.e in
    let are : AreRules all = c.pairs-pairs.ensures.kept in
    let below : e < length all.pairs = omega (arith, c.pairs-pairs.ensures.len) in
    let j : ℕ = (pair_at all e).paper in
    let size : length c.loop-e.scores ≡ length all.papers = c.loop-e.invariant.size in
    let known : j < length all.papers = (are.pairs.each e below).paper in
    let counted = c.loop-e.invariant.each j (omega arith) in
    let bounds = score-bounds all c.args.shares.now j e are c.requires.shares below in
    let fits : FitsSigned w128 (slice_index_or c.loop-e.scores j (pos 0)) = search rules in
    rw c.pairs-pairs.ensures.value (rw (to_z-of_z w128 (slice_index_or c.loop-e.scores j (pos 0)) fits, counted) bounds.0)

pub plus-requires-clause-below : goal.plus-requires-clause-below
plus-requires-clause-below c =
    let all : RulesValue = c.args.rules.now in
    let e : ℕ = c.loop-e.e in
    let are : AreRules all = c.pairs-pairs.ensures.kept in
    let below : e < length all.pairs = omega (arith, c.pairs-pairs.ensures.len) in
    let j : ℕ = (pair_at all e).paper in
    let size : length c.loop-e.scores ≡ length all.papers = c.loop-e.invariant.size in
    let known : j < length all.papers = (are.pairs.each e below).paper in
    let counted = c.loop-e.invariant.each j (omega arith) in
    let bounds = score-bounds all c.args.shares.now j e are c.requires.shares below in
    let fits : FitsSigned w128 (slice_index_or c.loop-e.scores j (pos 0)) = search rules in
    rw c.pairs-pairs.ensures.value (rw (to_z-of_z w128 (slice_index_or c.loop-e.scores j (pos 0)) fits, counted) bounds.1)

pub loop-e-preserved : goal.loop-e-preserved
loop-e-preserved c =
    let all : RulesValue = c.args.rules.now in
    let e : ℕ = c.loop-e.e in
    let are : AreRules all = c.pairs-pairs.ensures.kept in
    let below : e < length all.pairs = omega (arith, c.pairs-pairs.ensures.len) in
    let j : ℕ = (pair_at all e).paper in
    let amount : ℕ → ℤ = λ k. pos (slice_index c.args.shares.now k) *ℤ (pair_at all k).score in
    let size : length c.loop-e.scores ≡ length all.papers = c.loop-e.invariant.size in
    let known : j < length all.papers = (are.pairs.each e below).paper in
    let old : ℤ = slice_index_or c.loop-e.scores j (pos 0) in
    let old_fits : FitsSigned w128 old = search rules in
    let term_fits : FitsSigned w128 c.pair_term.result = search rules in
    let fits : FitsSigned w128 c.plus.result = search rules in
    let sum = rw c.pairs-pairs.ensures.value at c.plus.ensures in
    let is : c.plus.result ≡ old +ℤ amount e =
    omega (arith, ints, sum, c.pair_term.ensures.value, to_z-of_z w128 old old_fits, to_z-of_z w128 c.pair_term.result term_fits) in
    rw (c.pairs-pairs.ensures.value, to_z-of_z w128 c.plus.result fits)
    (record {
      size = rw length-set size;
      each = totals_more (λ k p. (pair_at all k).paper == p) amount c.loop-e.scores e j c.plus.result (eq-eqb _ _ refl)
          (λ p h other. ne_eqb _ _ (λ same. other (sym same))) (omega arith) is c.loop-e.invariant.each;
    })
