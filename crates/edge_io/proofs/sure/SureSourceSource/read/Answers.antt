use Rattle.std.proofs.Common.{ap}
use Rattle.edge_io.specs.Memory.{SureBytes}
use Rattle.edge_io.proofs.Taking.{left_after, given_after}
use Rattle.edge_io.proofs.sure.SureSourceSource.read.Goals as goal

pub returns-clause-left : goal.returns-clause-left
returns-clause-left c =
    left_after c.self.inside.bytes.items c.copy_front-n.new.room c.args.self.now.left c.self.inside.at c.copy_front-n.result _
    (ap (λ (s : SureBytes). s.left) c.self.view_is) c.requires (rw c.deref.ensures.value at c.copy_front-n.ensures.count) (rw c.deref.ensures.value at c.copy_front-n.ensures.copied)

pub returns-clause-given : goal.returns-clause-given
returns-clause-given c =
    given_after c.self.inside.bytes.items c.copy_front-n.new.room c.args.self.now.given c.self.inside.at c.copy_front-n.result
    (ap (λ (s : SureBytes). s.given) c.self.view_is) (rw c.deref.ensures.value at c.copy_front-n.ensures.copied)
