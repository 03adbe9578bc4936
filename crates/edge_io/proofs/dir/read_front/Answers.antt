use Rattle.std.proofs.Common.{◌+◌}
use Rattle.edge_io.specs.declared.folder.TheConstants.{MOST_FILE_BYTES}
use Rattle.edge_io.proofs.Fronts.{front_of_known}
use Rattle.edge_io.proofs.dir.read_front.Goals as goal

pub returns : goal.returns
returns g c =
    front_of_known (g.T.Read.remaining c.args.file) (MOST_FILE_BYTES + 1) _ _ _ c.new-front.ensures.items c.take.ensures.limit
    (rw c.take.ensures.inner at c.in_ok-read_to_end.ensures.bytes)
