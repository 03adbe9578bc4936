use Rattle.http_framing.proofs.ReadLaws.{other_text}
use Rattle.http_framing.proofs.reading.spans_of.Goals as goal

pub returns-else-spans-bytes-clause-none : goal.returns-else-spans-bytes-clause-none
returns-else-spans-bytes-clause-none c none k is =
    let found = c.in_ok-spans.ensures.found in
    other_text c.args.bytes.now _ c.in_ok-spans.spans found.0 found.1 c.in_ok-spans.ensures.within.section.len_fits c.if-spans-bytes.false k is
