use Rattle.std.proofs.Common.{◌≡◌, ◌≤◌, length, sym, arith, inl, inr}
use Rattle.std.specs.Prelude.{slice_index}
use Rattle.std.proofs.lemmas.Bool.{cases_lt, true≢false}
use Rattle.std.proofs.lemmas.Bool.Decides.{nat_tests}
use Rattle.std.proofs.lemmas.List.{get_or_read}
use Rattle.unit_turns.specs.Steps.{step_at}
use Rattle.std.proofs.lemmas.Result.{on_ok_weaker}
use Rattle.lottery_peel.proofs.ChoiceLaws.{chosen-none, chosen-in, chosen-out}
use Rattle.lottery_peel.proofs.choices.choose.Goals as goal

pub returns-in-None : goal.returns-in-None
returns-in-None c =
    chosen-none c.args.counts.now c.args.steps.now c.args.place c.args.places.now.items c.requires.before
    (elim (cases_lt (step_at c.args.steps.now c.args.place).arc (length c.args.counts.now)) [
      | inl within ↦ absurd (true≢false (sym (c.in-None.ensures.lookup.2 within)))
      | inr past ↦ past
    ])

pub returns-in-Some-eq0 : goal.returns-in-Some-eq0
returns-in-Some-eq0 c =
    let at = c.in-Some-eq0.ensures.lookup in
    let count = get_or_read c.args.counts.now (step_at c.args.steps.now c.args.place).arc c.in-Some-eq0.field-0.now at.3.0 at.1 0 in
    let none : slice_index c.args.counts.now (step_at c.args.steps.now c.args.place).arc ≡ 0 = grind (arith, nat_tests, count, c.in-Some-eq0.field-0-test) in
    chosen-out c.args.counts.now c.args.steps.now c.args.place c.args.places.now.items c.take_out.new.places.items c.requires.before none c.take_out.ensures

pub returns-in-Some : goal.returns-in-Some
returns-in-Some c =
    let at = c.in-Some.ensures.lookup in
    let count = get_or_read c.args.counts.now (step_at c.args.steps.now c.args.place).arc c.in-Some.field-0.now at.3.0 at.1 0 in
    let some : 1 ≤ slice_index c.args.counts.now (step_at c.args.steps.now c.args.place).arc = grind (arith, nat_tests, count, c.in-Some.field-0-test) in
    on_ok_weaker c.take_in.result (chosen-in c.args.counts.now c.args.steps.now c.args.place c.args.places.now.items c.take_in.new.places.items c.requires.before at.3.0 some) c.take_in.ensures
