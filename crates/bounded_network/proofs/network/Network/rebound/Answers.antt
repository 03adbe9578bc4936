use Rattle.std.proofs.Common.{◌≡◌, length, ap, arith}
use Rattle.bounded_network.specs.Network.{NetworkValue}
use Rattle.bounded_network.proofs.Rebounds.{refused}
use Rattle.bounded_network.proofs.network.Network.rebound.Goals as goal
use Rattle.bounded_network.proofs.network.Network.rebound.Goals.{then-place-len-via-then-place-len, then-place-len-via-else-place-len+then-room-floor, then-place-len-via-else-place-len+else-room-floor+then-room-gt-MAX_ROOM}

pub returns-then-place-len-clause-exact : goal.returns-then-place-len-clause-exact
returns-then-place-len-clause-exact c =
    let long : length c.self.inside.arcs.items ≡ length c.args.self.now.arcs = ap (λ (n : NetworkValue). length n.arcs) c.self.view_is in
    refused c.args.self.now c.args.arc c.args.floor c.args.room (λ lt ordered small. elim c.then-place-len.branch [
      | then-place-len-via-then-place-len w ↦ absurd (omega arith)
      | then-place-len-via-else-place-len+then-room-floor w ↦ absurd (omega arith)
      | then-place-len-via-else-place-len+else-room-floor+then-room-gt-MAX_ROOM w ↦ absurd (omega arith)
    ])
