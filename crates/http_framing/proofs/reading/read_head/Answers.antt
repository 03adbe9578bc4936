use Rattle.std.proofs.Common.{◌∙◌}
use Rattle.http_framing.proofs.ReadLaws.{parts_of}
use Rattle.http_framing.proofs.reading.read_head.Goals as goal

pub returns : goal.returns
returns c =
    let found = c.in-Some.ensures.found in
    (found.0, found.2, c.in_ok-head.ensures ∙ parts_of c.args.bytes.now _ c.in-Some.spans found.0 found.1)
