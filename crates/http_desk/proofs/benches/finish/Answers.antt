use Rattle.std.proofs.Common.{subst, sym, Option}
use Rattle.desk_history.specs.declared.replies.Snapshot.{Snapshot}
use Rattle.desk_history.specs.declared.requests.Request.TheVariants as request
use Rattle.http_desk.specs.Given.{IsGiven}
use Rattle.http_desk.proofs.GivenLaws.{asked_finish, finish_empties}
use Rattle.http_desk.proofs.benches.finish.Goals as goal

pub returns-clause-serves : goal.returns-clause-serves
returns-clause-serves g c =
    let H = c.args.desk.now.history in
    let handed = c.handed_in-job in
    let gives = subst (λ (given : Option Snapshot). IsGiven H given) (sym c.take.ensures.value) c.requires.given in
    record {
      request = request.Finish 0 handed.result.0 handed.result.1;
      result = c.reply-answer.result.0;
      is = asked_finish H c.take.result handed.result.0 handed.result.1 gives handed.ensures;
      does = c.reply-answer.ensures.step;
      chairs = c.reply-answer.ensures.chairs;
      reply = c.reply-answer.ensures.reply;
      later = c.reply-answer.ensures.later;
      fault = c.reply-answer.ensures.fault;
    }

pub returns-clause-given : goal.returns-clause-given
returns-clause-given g c =
    let H = c.args.desk.now.history in
    let next = c.reply-answer.new.desk.history in
    let handed = c.handed_in-job in
    let gives = subst (λ (given : Option Snapshot). IsGiven H given) (sym c.take.ensures.value) c.requires.given in
    subst (λ (given : Option Snapshot). IsGiven next given) (sym c.take.ensures.after)
    (finish_empties H c.take.result handed.result.0 handed.result.1 c.reply-answer.result.0 next gives handed.ensures (c.reply-answer.ensures.ends tt) c.reply-answer.ensures.step)
