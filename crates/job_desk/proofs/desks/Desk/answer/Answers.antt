use Rattle.std.proofs.Common.{subst, sym, ap}
use Rattle.desk_keeper.specs.Keepers.{Tells}
use Rattle.desk_history.specs.Courses.{Does, history_of}
use Rattle.desk_history.specs.Histories.{History}
use Rattle.desk_history.specs.Rows.{rows}
use Rattle.desk_history.specs.Steps.{MayAsk, step}
use Rattle.job_desk.specs.Desks.{DeskValue}
use Rattle.job_desk.proofs.DeskLaws.{step_makes}
use Rattle.job_desk.proofs.desks.Desk.answer.Goals as goal

pub ask-answered-requires-clause-may : goal.ask-answered-requires-clause-may
ask-answered-requires-clause-may g c = subst (λ (v : DeskValue). MayAsk v.history c.args.request) (sym c.self.view_is) c.requires.may

pub ask-answered-requires-clause-told : goal.ask-answered-requires-clause-told
ask-answered-requires-clause-told g c = subst (λ (v : DeskValue). Tells (g.P.Keeper.rows c.args.keeper.now) (rows v.history)) (sym c.self.view_is) c.requires.told

pub returns-clause-step : goal.returns-clause-step
returns-clause-step g c =
    subst (λ (v : DeskValue). Does (step v.chairs v.history c.args.request) v.history c.ask-answered.result (history_of c.ask-answered.new.entries)) c.self.view_is c.ask-answered.ensures.step

pub returns-clause-chairs : goal.returns-clause-chairs
returns-clause-chairs g c = ap (λ (v : DeskValue). v.chairs) c.self.view_is

pub returns-clause-published : goal.returns-clause-published
returns-clause-published g c = c.evidence_laws.ensures.published c.self.inside.chairs.items (history_of c.ask-answered.new.entries) c.ask-answered.ensures.desk.legal

pub returns-clause-best : goal.returns-clause-best
returns-clause-best g c =
    let H : History = history_of c.self.inside.entries in
    let next : History = history_of c.ask-answered.new.entries in
    c.evidence_laws.ensures.each_best c.self.inside.chairs.items next c.ask-answered.ensures.desk.legal
    (step_makes (step c.self.inside.chairs.items H c.args.request) H c.ask-answered.result next c.ask-answered.ensures.step c.self.invariant.editions (c.edition_laws.ensures next c.ask-answered.ensures.desk.kept.are))

pub invariant_of-self : goal.invariant_of-self
invariant_of-self g c =
    let H : History = history_of c.self.inside.entries in
    let next : History = history_of c.ask-answered.new.entries in
    record {
      desk = c.ask-answered.ensures.desk;
      indexed = c.ask-answered.ensures.indexed;
      editions = step_makes (step c.self.inside.chairs.items H c.args.request) H c.ask-answered.result next c.ask-answered.ensures.step c.self.invariant.editions (c.edition_laws.ensures next c.ask-answered.ensures.desk.kept.are);
    }
