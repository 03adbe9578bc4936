use Rattle.std.proofs.Common.{subst, sym, Option}
use Rattle.desk_history.specs.declared.replies.Snapshot.{Snapshot}
use Rattle.http_desk.specs.Given.{IsGiven}
use Rattle.http_desk.proofs.GivenLaws.{given_taken}
use Rattle.http_desk.proofs.benches.take.Goals as goal

pub returns-clause-given : goal.returns-clause-given
returns-clause-given g c =
    let H = c.args.desk.now.history in
    let next = c.reply-answer.new.desk.history in
    subst (λ (given : Option Snapshot). IsGiven next given) (sym c.note_taken.ensures) (given_taken H c.args.given.now c.reply-answer.result.0 next c.requires.given c.reply-answer.ensures.step)
