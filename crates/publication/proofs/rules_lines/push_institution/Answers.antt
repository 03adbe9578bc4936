use Rattle.std.proofs.Common.{ℕ, length-append, arith}
use Rattle.publication.proofs.WriteLaws.{institution_is_short}
use Rattle.publication.proofs.rules_lines.push_institution.Goals as goal

pub push-requires-in-Some : goal.push-requires-in-Some
push-requires-in-Some c =
    let short = institution_is_short _ c.text.ensures.kept in
    rw (c.push.ensures, c.as_bytes.ensures.value, c.text.ensures.same) (omega (arith, length-append {A = ℕ}))

pub returns-in-Some-clause-few : goal.returns-in-Some-clause-few
returns-in-Some-clause-few c =
    let short = institution_is_short _ c.text.ensures.kept in
    rw (c.push-in-Some.ensures, c.push.ensures, c.as_bytes.ensures.value, c.text.ensures.same) (omega (arith, length-append {A = ℕ}))
