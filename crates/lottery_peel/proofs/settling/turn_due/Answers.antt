use Rattle.std.proofs.Common.{◌≡◌, ◌≢◌, ℕ, ◌+◌, ◌-◌, ◌<◌, Bool, ltb, List, length, sym, ◌∙◌, subst, arith}
use Rattle.std.specs.Prelude.{slice_index}
use Rattle.std.specs.Vec.{with_items}
use Rattle.std.proofs.lemmas.List.{get_or_read, with_items_is}
use Rattle.bounded_network.specs.Compile.{amounts_in, flow_of}
use Rattle.bounded_network.specs.Network.{IsCirculation, AreViolated, arc_at}
use Rattle.residual_arcs.specs.declared.step.Step.{Step}
use Rattle.residual_arcs.specs.Step.{carried}
use Rattle.unit_turns.specs.Fixed.{with_fixed}
use Rattle.unit_turns.specs.Steps.{AreFree, AreTaken, step_at}
use Rattle.lottery_peel.specs.declared.standing.Standing.{Standing}
use Rattle.lottery_peel.specs.Standing.{rest_of, AreTurned, IsLine, IsMultiple, IsTight, Waits}
use Rattle.lottery_peel.specs.Choices.{AreChosenBut}
use Rattle.lottery_peel.proofs.ChoiceLaws.{chosen-before}
use Rattle.lottery_peel.proofs.RestLaws.{size-of_chosen}
use Rattle.lottery_peel.proofs.DueLaws.{waits-others}
use Rattle.lottery_peel.proofs.StandingLaws.{dues-between, due-possible, first-turned, lines-turned, multiple-turned, other-way, tight-turned}
use Rattle.lottery_peel.proofs.settling.turn_due.Goals as goal

pub unreachable-requires : goal.unreachable-requires
unreachable-requires c =
    let s : Standing = c.args.standing.now in
    let arc : ℕ = c.args.arc in
    let count : ℕ = slice_index s.counts.items arc in
    let inside : arc < length s.counts.items = omega (arith, c.requires.arc_in, c.requires.stands.circulates.long) in
    let here : c.index.result.now ≡ count = get_or_read _ _ _ inside c.index.ensures 0 in
    let broken : (marks : List Bool) × AreViolated (with_fixed s.net arc (carried count (ltb count (arc_at s.net arc).room) 1)) marks =
    rw (c.if-not-turned.true, c.deref_mut.ensures.value, here, c.arc_of.ensures.value) at c.in_ok-turned.ensures.violated in
    absurd
    (due-possible c.args.rules.now c.args.left (rest_of c.args.rules.now c.args.left c.args.standing.now) s arc (ltb count (arc_at s.net arc).room) c.arc_of.ensures.kept c.requires.stands c.requires.some c.requires.arc_in c.requires.is_due
    (other-way (arc_at s.net arc) count) broken.0 broken.1)

pub set_dues-requires-clause-after : goal.set_dues-requires-clause-after
set_dues-requires-clause-after c =
    let taken : AreTaken c.args.standing.now.net c.deref_mut.result.now c.turn.new.flow c.turn.new.steps.items = rw c.if-not-turned.false at c.in_ok-turned.ensures.taken in
    rw (c.tickets-all.ensures.value, c.as_slice.ensures.value, c.deref_mut-2.ensures.value)
    (λ i lt.
    let both = dues-between c.args.rules.now c.args.left (rest_of c.args.rules.now c.args.left c.args.standing.now) c.args.standing.now c.requires.stands (step_at c.turn.new.steps.items i).arc (taken.arcs i lt) in
    omega (arith, both.1))

pub set_dues-requires-clause-before : goal.set_dues-requires-clause-before
set_dues-requires-clause-before c =
    let taken : AreTaken c.args.standing.now.net c.deref_mut.result.now c.turn.new.flow c.turn.new.steps.items = rw c.if-not-turned.false at c.in_ok-turned.ensures.taken in
    rw (c.tickets-all.ensures.value, c.as_slice.ensures.value, c.deref_mut-2.ensures.value)
    (λ i lt.
    (dues-between c.args.rules.now c.args.left (rest_of c.args.rules.now c.args.left c.args.standing.now) c.args.standing.now c.requires.stands (step_at c.turn.new.steps.items i).arc (taken.arcs i lt)).0)

pub wait_again-requires-clause-within : goal.wait_again-requires-clause-within
wait_again-requires-clause-within c =
    let s : Standing = c.args.standing.now in
    let all : ℕ = c.args.rules.now.tickets in
    let taken : AreTaken s.net c.deref_mut.result.now c.turn.new.flow c.turn.new.steps.items = rw c.if-not-turned.false at c.in_ok-turned.ensures.taken in
    let turned : AreTurned all (all - c.args.left) c.turn.new.steps.items (length c.turn.new.steps.items) s.dues.items c.set_dues.new.dues =
    rw (c.tickets-all.ensures.value, c.as_slice.ensures.value, c.deref_mut-2.ensures.value) at c.set_dues.ensures in
    let dues : (with_items s.dues c.set_dues.new.dues).items ≡ c.set_dues.new.dues = with_items_is s.dues c.set_dues.new.dues (omega (arith, turned.long, s.dues.ok.0)) in
    rw (c.as_slice-2.ensures.value, c.as_slice-3.ensures.value)
    (λ i lt. subst (λ xs. (step_at c.turn.new.steps.items i).arc < length xs) (sym dues) (omega (arith, turned.long, c.requires.stands.long, taken.arcs i lt)))

pub wait_again-requires-clause-long : goal.wait_again-requires-clause-long
wait_again-requires-clause-long c = rw c.tickets-all.ensures.value c.requires.stands.waiting.long

pub wait_again-requires-clause-others : goal.wait_again-requires-clause-others
wait_again-requires-clause-others c =
    let s : Standing = c.args.standing.now in
    let all : ℕ = c.args.rules.now.tickets in
    let steps : List Step = c.turn.new.steps.items in
    let turned : AreTurned all (all - c.args.left) steps (length steps) s.dues.items c.set_dues.new.dues =
    rw (c.tickets-all.ensures.value, c.as_slice.ensures.value, c.deref_mut-2.ensures.value) at c.set_dues.ensures in
    let dues : (with_items s.dues c.set_dues.new.dues).items ≡ c.set_dues.new.dues = with_items_is s.dues c.set_dues.new.dues (omega (arith, turned.long, s.dues.ok.0)) in
    rw (c.tickets-all.ensures.value, c.as_slice-2.ensures.value, c.as_slice-3.ensures.value)
    (subst (λ xs. (a : ℕ) → a < length xs → slice_index xs a < all → ((i : ℕ) → i < length steps → (step_at steps i).arc ≢ a) → Waits s.waiting (slice_index xs a) a) (sym dues)
    (waits-others all (all - c.args.left) steps s.dues.items c.set_dues.new.dues s.waiting turned c.requires.stands.waiting))

pub returns-clause-stands : goal.returns-clause-stands
returns-clause-stands c =
    let s : Standing = c.args.standing.now in
    let all : ℕ = c.args.rules.now.tickets in
    let left : ℕ = c.args.left in
    let steps : List Step = c.turn.new.steps.items in
    let stands = c.requires.stands in
    let amounts : List ℕ = flow_of c.args.rules.now (rest_of c.args.rules.now c.args.left c.args.standing.now) in
    let round : IsCirculation s.net c.turn.new.flow = c.in_ok-turned.ensures.circulation in
    let taken : AreTaken s.net s.counts.items c.turn.new.flow steps = rw (c.if-not-turned.false, c.deref_mut.ensures.value) at c.in_ok-turned.ensures.taken in
    let free : AreFree s.net s.counts.items steps = rw (c.if-not-turned.false, c.deref_mut.ensures.value) at c.in_ok-turned.ensures.free in
    let turned : AreTurned all (all - left) steps (length steps) s.dues.items c.set_dues.new.dues =
    rw (c.tickets-all.ensures.value, c.as_slice.ensures.value, c.deref_mut-2.ensures.value) at c.set_dues.ensures in
    let counts : (with_items s.counts c.turn.new.flow).items ≡ c.turn.new.flow = with_items_is s.counts c.turn.new.flow (omega (arith, round.long, stands.circulates.long, s.counts.ok.0)) in
    let dues : (with_items s.dues c.set_dues.new.dues).items ≡ c.set_dues.new.dues = with_items_is s.dues c.set_dues.new.dues (omega (arith, turned.long, s.dues.ok.0)) in
    let used : (all - left) + left ≡ all = omega (arith, c.requires.is_due) in
    let lines = lines-turned all (all - left) left s.net s.counts.items c.turn.new.flow s.dues.items c.set_dues.new.dues amounts steps used stands.lines free taken round turned in
    record {
      passes = stands.passes;
      links = stands.links;
      circulates = subst (λ xs. IsCirculation s.net xs) (sym counts) round;
      long = subst (λ xs. length xs ≡ length s.net.arcs) (sym dues) (turned.long ∙ stands.long);
      lines = λ a lt.
          subst (λ xs. IsLine all left (arc_at s.net a) (slice_index xs a) (slice_index (with_items s.dues c.set_dues.new.dues).items a) (slice_index amounts a)) (sym counts)
          (subst (λ xs. IsLine all left (arc_at s.net a) (slice_index c.turn.new.flow a) (slice_index xs a) (slice_index amounts a)) (sym dues) (lines a lt));
      chosen = rw (c.pairs.ensures.value, c.deref.ensures.value) at c.in_ok-choose_again.ensures;
      ahead = c.in_ok-turned.ensures.ahead;
      behind = c.in_ok-turned.ensures.behind;
      waiting = rw (c.tickets-all.ensures.value, c.as_slice-2.ensures.value) at c.in_ok-wait_again.ensures;
    }

pub choose_again-requires : goal.choose_again-requires
choose_again-requires c =
    let s : Standing = c.args.standing.now in
    let stands = c.requires.stands in
    let steps : List Step = c.turn.new.steps.items in
    let round : IsCirculation s.net c.turn.new.flow = c.in_ok-turned.ensures.circulation in
    let taken : AreTaken s.net s.counts.items c.turn.new.flow steps = rw (c.if-not-turned.false, c.deref_mut.ensures.value) at c.in_ok-turned.ensures.taken in
    let counts : (with_items s.counts c.turn.new.flow).items ≡ c.turn.new.flow = with_items_is s.counts c.turn.new.flow (omega (arith, round.long, stands.circulates.long, s.counts.ok.0)) in
    rw (c.pairs.ensures.value, c.deref.ensures.value, c.as_slice-4.ensures.value)
    (subst (λ xs. AreChosenBut (amounts_in c.args.rules.now xs) steps 0 s.chosen.items) (sym counts)
    (chosen-before c.args.rules.now s.counts.items c.turn.new.flow steps s.chosen.items stands.chosen
    (size-of_chosen c.args.rules.now s.net s.counts.items stands.passes.size stands.circulates.long)
    (size-of_chosen c.args.rules.now s.net c.turn.new.flow stands.passes.size round.long) taken.stay))

pub returns-clause-last : goal.returns-clause-last
returns-clause-last c =
    let s : Standing = c.args.standing.now in
    let all : ℕ = c.args.rules.now.tickets in
    let left : ℕ = c.args.left in
    let steps : List Step = c.turn.new.steps.items in
    let turned : AreTurned all (all - left) steps (length steps) s.dues.items c.set_dues.new.dues =
    rw (c.tickets-all.ensures.value, c.as_slice.ensures.value, c.deref_mut-2.ensures.value) at c.set_dues.ensures in
    let dues : (with_items s.dues c.set_dues.new.dues).items ≡ c.set_dues.new.dues = with_items_is s.dues c.set_dues.new.dues (omega (arith, turned.long, s.dues.ok.0)) in
    let used : (all - left) + left ≡ all = omega (arith, c.requires.is_due) in
    let first = rw c.if-not-turned.false at c.in_ok-turned.ensures.first in
    subst (λ xs. slice_index xs c.args.arc ≡ all) (sym dues)
    (first-turned all (all - left) left s.dues.items c.set_dues.new.dues steps _ used turned first.0 first.1 c.requires.is_due)

pub returns-clause-tight : goal.returns-clause-tight
returns-clause-tight c = λ a tight.
    let s : Standing = c.args.standing.now in
    let all : ℕ = c.args.rules.now.tickets in
    let left : ℕ = c.args.left in
    let steps : List Step = c.turn.new.steps.items in
    let turned : AreTurned all (all - left) steps (length steps) s.dues.items c.set_dues.new.dues =
    rw (c.tickets-all.ensures.value, c.as_slice.ensures.value, c.deref_mut-2.ensures.value) at c.set_dues.ensures in
    let dues : (with_items s.dues c.set_dues.new.dues).items ≡ c.set_dues.new.dues = with_items_is s.dues c.set_dues.new.dues (omega (arith, turned.long, s.dues.ok.0)) in
    let used : (all - left) + left ≡ all = omega (arith, c.requires.is_due) in
    subst (λ xs. IsTight all left (arc_at s.net a) (slice_index xs a)) (sym dues)
    (tight-turned all (all - left) left s.net s.dues.items c.set_dues.new.dues steps used turned a tight)

pub returns-clause-multiple : goal.returns-clause-multiple
returns-clause-multiple c = λ a multiple.
    let s : Standing = c.args.standing.now in
    let all : ℕ = c.args.rules.now.tickets in
    let left : ℕ = c.args.left in
    let steps : List Step = c.turn.new.steps.items in
    let turned : AreTurned all (all - left) steps (length steps) s.dues.items c.set_dues.new.dues =
    rw (c.tickets-all.ensures.value, c.as_slice.ensures.value, c.deref_mut-2.ensures.value) at c.set_dues.ensures in
    let dues : (with_items s.dues c.set_dues.new.dues).items ≡ c.set_dues.new.dues = with_items_is s.dues c.set_dues.new.dues (omega (arith, turned.long, s.dues.ok.0)) in
    let used : (all - left) + left ≡ all = omega (arith, c.requires.is_due) in
    subst (λ xs. IsMultiple all left (slice_index xs a)) (sym dues)
    (multiple-turned all (all - left) left s.dues.items c.set_dues.new.dues steps used turned a multiple)
