use Rattle.std.proofs.Common.{◌∙◌, ℕ, List, inl, refl, subst, sym}
use Rattle.std.specs.String.{string_bytes}
use Rattle.desk_history.specs.Opened.{IsDamaged, IsLegal, Opens}
use Rattle.matcher_cli.proofs.SessionLaws.{map_behind}
use Rattle.matcher_cli.proofs.serving.serve_session.Goals as goal

pub returns-in-Ok-reopen-clause-sessions : goal.returns-in-Ok-reopen-clause-sessions
returns-in-Ok-reopen-clause-sessions g c =
    let K = g.P.Keeper in
    let opened = c.in-Ok-reopen.ensures in
    let served = c.session.ensures in
    let stream = served.stream in
    let chairs = opened.chairs ∙ (c.in-Ok.ensures ∙ map_behind string_bytes c.args.words.now) in
    inl (
      c.session.result,
      c.status_at.ensures,
      record {
        before = record { desk = c.in-Ok-reopen.desk; faults = K.faults c.reopen.new.keeper };
        after = record { desk = c.session.new.desk; faults = K.faults c.session.new.keeper };
        trail = stream.0;
        bytes = stream.2;
        out = stream.3;
        over = stream.4;
        chairs_are = chairs;
        opened = λ is. subst (λ (rows : List (List ℕ)). Opens rows c.in-Ok-reopen.desk.history) (opened.same.same (served.untold is)) (opened.opened (served.untold is));
        legal = subst (λ (names : List (List ℕ)). IsLegal names c.in-Ok-reopen.desk.history) chairs opened.legal;
        first = opened.later;
        serves = stream.1;
        last = refl;
        kept = served.told;
        legal_after = subst (λ (names : List (List ℕ)). IsLegal names c.session.new.desk.history) (served.chairs ∙ chairs) served.legal;
        best = served.best;
        given = stream.5;
        written = stream.6;
        ended = stream.7;
        wrote = stream.8;
      },
    )

pub returns-in-Ok-reopen-clause-damaged : goal.returns-in-Ok-reopen-clause-damaged
returns-in-Ok-reopen-clause-damaged g c = λ place is damaged.
    let opened = c.in-Ok-reopen.ensures in
    let told = c.session.ensures.untold is in
    absurd (opened.sound told place (subst (λ (rows : List (List ℕ)). IsDamaged rows place) (sym (opened.same.same told)) damaged))
