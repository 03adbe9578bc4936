use Rattle.std.proofs.Common.{refl, ap}
use Rattle.desk_history.specs.declared.requests.Look.{Look}
use Rattle.desk_history.specs.declared.requests.Request.TheVariants as request
use Rattle.desk_history.specs.Steps.{step}
use Rattle.http_desk.proofs.GivenLaws.{command_brings, given_stays, look_brings_none}
use Rattle.http_desk.proofs.benches.ask.Goals as goal

pub returns-in-Do-clause-serves : goal.returns-in-Do-clause-serves
returns-in-Do-clause-serves g c =
    let asked = c.ask_for_chair.ensures in
    rw c.in-Do.is (record {
      request = request.Do c.in-Do.its;
      result = asked.step.0;
      is = refl;
      does = asked.step.1;
      chairs = asked.chairs;
      reply = asked.step.2;
      later = asked.later;
      fault = asked.step.3;
    })

pub returns-in-Do-clause-given : goal.returns-in-Do-clause-given
returns-in-Do-clause-given g c =
    let chairs = c.args.desk.now.chairs in
    let H = c.args.desk.now.history in
    given_stays (step chairs H (request.Do c.in-Do.its)) H c.ask_for_chair.ensures.step.0 c.ask_for_chair.new.desk.history c.args.given.now (command_brings chairs H c.in-Do.its) c.ask_for_chair.ensures.step.1 c.requires.given

pub returns-in-Look-clause-serves : goal.returns-in-Look-clause-serves
returns-in-Look-clause-serves g c =
    let asked = c.ask_for_chair-in-Look.ensures in
    rw c.in-Look.is (record {
      request = request.Look c.in-Look.caller c.look_of-what.result;
      result = asked.step.0;
      is = ap (λ (what : Look). request.Look c.in-Look.caller what) c.look_of-what.ensures;
      does = asked.step.1;
      chairs = asked.chairs;
      reply = asked.step.2;
      later = asked.later;
      fault = asked.step.3;
    })

pub returns-in-Look-clause-given : goal.returns-in-Look-clause-given
returns-in-Look-clause-given g c =
    let chairs = c.args.desk.now.chairs in
    let H = c.args.desk.now.history in
    given_stays (step chairs H (request.Look c.in-Look.caller c.look_of-what.result)) H c.ask_for_chair-in-Look.ensures.step.0 c.ask_for_chair-in-Look.new.desk.history c.args.given.now (look_brings_none chairs H c.in-Look.caller c.look_of-what.result) c.ask_for_chair-in-Look.ensures.step.1 c.requires.given
