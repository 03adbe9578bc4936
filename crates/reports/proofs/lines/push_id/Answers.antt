use Rattle.std.proofs.Common.{ℕ, ◌≤◌, length, length-append, arith}
use Rattle.reports.proofs.TextLaws.{id_is_short}
use Rattle.reports.proofs.lines.push_id.Goals as goal

pub push-requires-2 : goal.push-requires-2
push-requires-2 c =
    let short : length c.args.id.now ≤ 128 = id_is_short c.args.id.now c.requires.id in
    rw (c.push.ensures, c.as_bytes.ensures.value) (omega (arith, length-append {A = ℕ}))

pub returns-clause-few : goal.returns-clause-few
returns-clause-few c =
    let short : length c.args.id.now ≤ 128 = id_is_short c.args.id.now c.requires.id in
    rw (c.push-2.ensures, c.push.ensures, c.as_bytes.ensures.value) (omega (arith, length-append {A = ℕ}))
