use Rattle.std.proofs.Common.{arith}
use Rattle.std.proofs.lemmas.Int.{ints}
use Rattle.flow_solver.proofs.start.start_at.Goals as goal

pub invariant_of-result : goal.invariant_of-result
invariant_of-result c =
    let suits = rw c.deref.ensures.value at c.in_ok-flow.ensures in
    let sums = rw c.deref-2.ensures.value at c.in_ok-excess.ensures in
    record {
      good = c.nodes-nodes.ensures.kept;
      kept = record {
        flow_long = suits.long;
        excess_long = sums.long;
        potentials_long = c.requires.long;
        floors = λ a b. (suits.each a b).floor;
        rooms = λ a b. (suits.each a b).room;
        exact = sums.each;
        optimal = record { may_rise = λ a b. (suits.each a b).may_rise; may_fall = λ a b. (suits.each a b).may_fall };
        bounded = λ v b. let small = c.requires.small v b in record { low = omega (arith, ints, b, small.low); high = omega (arith, ints, b, small.high) };
      };
    }
