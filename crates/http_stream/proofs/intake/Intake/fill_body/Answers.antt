use Rattle.std.proofs.Common.{◌≡◌, [], sym, ◌∙◌, rules, arith}
use Rattle.std.proofs.lemmas.List.{append-nil}
use Rattle.http_stream.proofs.BodyLaws.{body_unread, full_stops, over_stops}
use Rattle.http_stream.proofs.ReadingLaws.{added_none, no_bytes}
use Rattle.http_stream.proofs.intake.Intake.fill_body.Goals as goal

pub returns-then-len-self-clause-came : goal.returns-then-len-self-clause-came
returns-then-len-self-clause-came g c =
    let h = c.args.headed.now in (
      [],
      added_none,
      sym (append-nil c.args.self.now.bytes.items),
      full_stops (g.S.Source.left c.args.source.now) c.args.self.now.room c.args.self.now.bytes.items h.head h.end h.count h.due c.requires.head c.requires.short (omega arith),
    )

pub returns-in-Err-clause-came : goal.returns-in-Err-clause-came
returns-in-Err-clause-came g c =
    let h = c.args.headed.now in
    let came = c.in-Err.ensures.came in (
      came.0,
      came.1,
      came.2,
      body_unread (g.S.Source.left c.fill.new.source) c.args.self.now.room c.fill.new.self.room c.args.self.now.bytes.items c.fill.new.self.bytes.items came.0 h.head h.end h.count h.due c.in-Err.stop c.requires.head c.requires.short (omega arith) c.in-Err.ensures.same came.2 came.3.0 came.3.1,
    )

pub returns-in-Ok-eq0-clause-came : goal.returns-in-Ok-eq0-clause-came
returns-in-Ok-eq0-clause-came g c =
    let h = c.args.headed.now in
    let came = c.in-Ok-eq0.ensures.came in
    let zero : c.in-Ok-eq0.field-0 ≡ 0 = search rules in (
      came.0,
      came.1,
      came.2,
      over_stops (g.S.Source.left c.fill.new.source) c.args.self.now.room c.fill.new.self.room c.args.self.now.bytes.items c.fill.new.self.bytes.items came.0 h.head h.end h.count h.due c.requires.head c.requires.short (omega arith) c.in-Ok-eq0.ensures.same came.2 (no_bytes came.0 (came.3.0 ∙ zero)) (came.3.1 zero),
    )
