use Rattle.std.proofs.Common.{◌≡◌, ◌<◌, ◌++◌, ◌∷◌, [], length, take, slice_index, arith, ap, sym, ◌∙◌}
use Rattle.std.proofs.lemmas.List.{take_more}
use Rattle.match_rules.specs.Rules.{RulesValue}
use Rattle.bounded_network.specs.Spans.{ticket_spans}
use Rattle.bounded_network.specs.Compile.{amounts_in}
use Rattle.bounded_network.proofs.Compiled.{arc_count}
use Rattle.bounded_network.proofs.Fitting.{are-shares, circulation-small}
use Rattle.bounded_network.proofs.back.shares_of.Goals as goal

pub bounds-flow-e : goal.bounds-flow-e
bounds-flow-e c =
    let all : RulesValue = c.args.rules.now in
    omega (arith, c.requires.circulates.long, arc_count all (ticket_spans all c.args.sieve), c.pairs-count.ensures.len)

pub overflow_cast-flow : goal.overflow_cast-flow
overflow_cast-flow c =
    let all : RulesValue = c.args.rules.now in
    let below : c.loop-e.e < length all.pairs = omega (arith, c.pairs-count.ensures.len) in
    omega (arith, circulation-small all c.args.sieve c.args.flow.now c.loop-e.e c.pairs-count.ensures.kept c.requires.circulates below, c.pairs-count.ensures.kept.tickets)

pub loop-e-preserved : goal.loop-e-preserved
loop-e-preserved c =
    let all : RulesValue = c.args.rules.now in
    let below : c.loop-e.e < length c.args.flow.now = omega (arith, c.requires.circulates.long, arc_count all (ticket_spans all c.args.sieve), c.pairs-count.ensures.len) in
    c.in_ok-push.ensures.items
    ∙ ap (λ xs. xs ++ (slice_index c.args.flow.now c.loop-e.e ∷ [])) c.loop-e.invariant
    ∙ sym (take_more c.args.flow.now c.loop-e.e 0 below)

pub returns-clause-value : goal.returns-clause-value
returns-clause-value c =
    let end : c.loop-e.e ≡ length c.args.rules.now.pairs = omega (arith, c.pairs-count.ensures.len) in
    c.from_vec.ensures ∙ c.loop-e.invariant ∙ ap (λ n. take n c.args.flow.now) end

pub returns-clause-fit : goal.returns-clause-fit
returns-clause-fit c =
    let all : RulesValue = c.args.rules.now in
    let is : c.from_vec.result ≡ amounts_in all c.args.flow.now = returns-clause-value c in
    rw is ((are-shares all c.args.sieve c.pairs-count.ensures.kept).fit c.args.flow.now c.requires.circulates)
