use Rattle.std.proofs.Common.{ℕ, ◌≤◌, length, length-append, arith}
use Rattle.matcher_cli.proofs.IdLengths.{id_is_short}
use Rattle.matcher_cli.proofs.refusals.push_id.Goals as goal

pub push-requires : goal.push-requires
push-requires c =
    let short : length c.args.id.now ≤ 128 = id_is_short c.args.id.now c.requires.id in
    rw c.as_bytes.ensures.value (omega arith)

pub returns-clause-few : goal.returns-clause-few
returns-clause-few c =
    let short : length c.args.id.now ≤ 128 = id_is_short c.args.id.now c.requires.id in
    rw (c.push.ensures, c.as_bytes.ensures.value) (omega (arith, length-append {A = ℕ}))
