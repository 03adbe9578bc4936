use Rattle.std.proofs.Common.{◌≡◌, ◌+◌, ◌<◌, length, get_or, arith, length-set, ap}
use Rattle.match_rules.proofs.Counts.{weighed-more}
use Rattle.match_rules.proofs.check.add_weight.Goals as goal

pub loop-e-preserved : goal.loop-e-preserved
loop-e-preserved c =
    let within : get_or c.args.places.now c.loop-e.e-index 0 < length c.args.counts.now = c.requires.places c.loop-e.e-index 0 c.loop-e-test.true in
    let size : length c.loop-e.counts ≡ length c.args.counts.now = c.loop-e.invariant.size in
    record {
      size = rw length-set size;
      each = weighed-more c.args.places.now c.loop-e.counts (λ e. get_or c.args.counts.now e 0) c.args.weight c.loop-e.e-index _ c.loop-e-test.true (omega arith)
          (ap (λ added. get_or c.loop-e.counts (get_or c.args.places.now c.loop-e.e-index 0) 0 + added) c.from.ensures) c.loop-e.invariant.each;
    }
