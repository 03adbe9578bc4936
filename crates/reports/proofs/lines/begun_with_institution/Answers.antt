use Rattle.std.proofs.Common.{◌≤◌, length, arith}
use Rattle.reports.proofs.TextLaws.{institution_is_short}
use Rattle.reports.proofs.lines.begun_with_institution.Goals as goal

pub push-requires : goal.push-requires
push-requires c =
    let short : length c.args.name.now ≤ 128 = institution_is_short c.args.name.now c.requires in
    rw (c.new-line.ensures, c.as_bytes.ensures.value) (omega arith)

pub returns-clause-few : goal.returns-clause-few
returns-clause-few c =
    let short : length c.args.name.now ≤ 128 = institution_is_short c.args.name.now c.requires in
    rw (c.push.ensures, c.new-line.ensures, c.as_bytes.ensures.value) short
