use Rattle.std.proofs.Common.{rules, ◌≡◌, Some, slice_get}
use Rattle.turn_lock_tests.proofs.Fronts.{front_get}
use Rattle.turn_lock_tests.proofs.threads.both.Goals as goal

pub returns : goal.returns
returns g c =
    let noted : slice_get c.in_ok-pass.pass.seen c.in_ok-pass.one ≡ Some c.args.first = search rules in
    let noted' : slice_get c.in_ok-other.other.seen c.in_ok-other.two ≡ Some c.args.second = search rules in
    (front_get _ _ _ _ c.in_ok-log.ensures.past (front_get _ _ _ _ c.join.ensures.later.0 noted), front_get _ _ _ _ c.in_ok-log.ensures.past (front_get _ _ _ _ c.join.ensures.later.1 noted'))
