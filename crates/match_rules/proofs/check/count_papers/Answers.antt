use Rattle.std.proofs.Common.{◌≡◌, ◌<◌, ◌≤◌, length, get_or, eqb, arith, length-set, refl}
use Rattle.match_rules.specs.Rules.{pair_in}
use Rattle.match_rules.proofs.Counts.{count-fits, counted-more}
use Rattle.match_rules.proofs.check.count_papers.Goals as goal

pub overflow_add-counts : goal.overflow_add-counts
overflow_add-counts c =
    let rules = c.args.rules.now in
    let paper = (pair_in c.pairs-pairs.result.now (get_or c.args.places.now c.loop-e.e-index 0)).paper in
    let known : (pair_in rules.pairs (get_or c.args.places.now c.loop-e.e-index 0)).paper < length rules.papers =
    (c.pairs-pairs.ensures.kept.pairs.each _ (c.requires.places.known c.loop-e.e-index 0 c.loop-e-test.true)).paper in
    let same : paper ≡ (pair_in rules.pairs (get_or c.args.places.now c.loop-e.e-index 0)).paper = rw c.pairs-pairs.ensures.value in
    let size : length c.loop-e.counts ≡ length rules.papers = c.loop-e.invariant.size in
    let counted = c.loop-e.invariant.each paper (omega arith) in
    let few : length rules.pairs ≤ 250000 = c.pairs-pairs.ensures.kept.pairs.few in
    let fits = count-fits (length rules.pairs) c.loop-e.e-index (λ e. eqb (pair_in rules.pairs e).paper paper) c.args.places.now c.requires.places.ascending c.requires.places.known c.loop-e-test.true few in
    omega (arith, counted, fits)

pub loop-e-preserved : goal.loop-e-preserved
loop-e-preserved c =
    let rules = c.args.rules.now in
    let place = get_or c.args.places.now c.loop-e.e-index 0 in
    let paper = (pair_in c.pairs-pairs.result.now place).paper in
    let known : (pair_in rules.pairs place).paper < length rules.papers =
    (c.pairs-pairs.ensures.kept.pairs.each _ (c.requires.places.known c.loop-e.e-index 0 c.loop-e-test.true)).paper in
    let same : paper ≡ (pair_in rules.pairs place).paper = rw c.pairs-pairs.ensures.value in
    let size : length c.loop-e.counts ≡ length rules.papers = c.loop-e.invariant.size in
    record {
      size = rw length-set size;
      each = counted-more (λ e. (pair_in rules.pairs e).paper) c.args.places.now c.loop-e.counts c.loop-e.e-index paper _ c.loop-e-test.true same (omega arith) refl c.loop-e.invariant.each;
    }
