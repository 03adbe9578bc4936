use Rattle.std.proofs.Common.{◌≤◌, length, arith}
use Rattle.reports.proofs.TextLaws.{id_is_short}
use Rattle.reports.proofs.lines.begun_with.Goals as goal

pub push-requires : goal.push-requires
push-requires c =
    let short : length c.args.id.now ≤ 128 = id_is_short c.args.id.now c.requires in
    rw (c.new-line.ensures, c.as_bytes.ensures.value) (omega arith)

pub returns-clause-few : goal.returns-clause-few
returns-clause-few c =
    let short : length c.args.id.now ≤ 128 = id_is_short c.args.id.now c.requires in
    rw (c.push.ensures, c.new-line.ensures, c.as_bytes.ensures.value) short
