use Rattle.std.proofs.Common.{[], ◌++◌, length, refl, sym, ◌∙◌, ap, arith}
use Rattle.std.proofs.lemmas.List.{append-nil, length-append}
use Rattle.http_stream.proofs.BodyLaws.{headed_more}
use Rattle.http_stream.proofs.ReadingLaws.{added_none, added_then, caused_before}
use Rattle.http_stream.proofs.TakingLaws.{grows_on}
use Rattle.http_stream.proofs.intake.Intake.await_body.Goals as goal

pub loop-self-init : goal.loop-self-init
loop-self-init g c = record {
  came = ([], added_none, sym (append-nil c.args.self.now.bytes.items));
  room = refl;
  within = c.requires.head.2;
  later = omega arith;
}

pub fill_body-requires-clause-head : goal.fill_body-requires-clause-head
fill_body-requires-clause-head g c =
    let h = c.args.headed.now in
    headed_more c.args.self.now.room c.loop-self.self.room c.args.self.now.bytes.items c.loop-self.invariant.came.0 c.loop-self.self.bytes.items h.head h.end h.count h.due c.requires.head c.loop-self.invariant.room c.loop-self.invariant.came.2

pub loop-self-preserved : goal.loop-self-preserved
loop-self-preserved g c =
    let before = c.loop-self.invariant.came in
    let came = c.in-Ok.ensures.came in
    record {
      came = (before.0 ++ came.0, added_then _ _ _ before.0 came.0 before.1 came.1, grows_on _ _ _ before.0 came.0 before.2 came.2);
      room = c.in-Ok.ensures.same ∙ c.loop-self.invariant.room;
      within = omega (arith, c.loop-self.invariant.within, c.in-Ok.ensures.less);
      later = omega (arith, c.loop-self.invariant.later, c.in-Ok.ensures.later);
    }

pub returns-in-Err-clause-came : goal.returns-in-Err-clause-came
returns-in-Err-clause-came g c =
    let before = c.loop-self.invariant.came in
    let came = c.in-Err.ensures.came in
    (before.0 ++ came.0, added_then _ _ _ before.0 came.0 before.1 came.1, grows_on _ _ _ before.0 came.0 before.2 came.2, came.3)

pub returns-in-Err-clause-fault : goal.returns-in-Err-clause-fault
returns-in-Err-clause-fault g c = caused_before _ _ _ _ c.loop-self.invariant.later c.in-Err.ensures.fault

pub returns-clause-came : goal.returns-clause-came
returns-clause-came g c =
    let before = c.loop-self.invariant.came in
    (before.0, before.1, before.2, omega (arith, c.loop-self.invariant.within))
