use Rattle.std.proofs.Common.{◌≡◌, length, get_or, take, None, arith, rules, sym, ap, ◌∙◌}
use Rattle.std.proofs.lemmas.List.{take_all}
use Rattle.match_rules.specs.Rules.{locked_places}
use Rattle.match_rules.proofs.Locks.{first_in, lack, locks-in, first_in-more, first_in-found, lack-some, lack-none}
use Rattle.match_rules.proofs.check.lock_in_piece.Goals as goal

pub returns-then-not-has_place : goal.returns-then-not-has_place
returns-then-not-has_place c =
    let k = c.args.k in
    let places = c.args.places.now in
    let locked = c.locked-e-items.result.now in
    let same : locked ≡ locked_places c.args.rules.now = c.locked-e-items.ensures.value in
    let none : first_in (take c.loop-e.e-index locked) (lack k places) ≡ None = rw same c.loop-e.invariant in
    let here = lack-some k (get_or locked c.loop-e.e-index 0) places c.has_place.result c.has_place.ensures (search rules) in
    let found = first_in-found locked c.loop-e.e-index (lack k places) _ c.loop-e-test.true none here in
    sym (locks-in c.args.rules.now k places ∙ ap (λ places_of. first_in places_of (lack k places)) (sym same) ∙ found)

pub loop-e-preserved : goal.loop-e-preserved
loop-e-preserved c =
    let k = c.args.k in
    let places = c.args.places.now in
    let locked = c.locked-e-items.result.now in
    let same : locked ≡ locked_places c.args.rules.now = c.locked-e-items.ensures.value in
    let none : first_in (take c.loop-e.e-index locked) (lack k places) ≡ None = rw same c.loop-e.invariant in
    let here = lack-none k (get_or locked c.loop-e.e-index 0) places c.has_place.result c.has_place.ensures (search rules) in
    let more = first_in-more locked c.loop-e.e-index (lack k places) c.loop-e-test.true none here in
    rw same at more

pub returns : goal.returns
returns c =
    let k = c.args.k in
    let places = c.args.places.now in
    let locked = c.locked-e-items.result.now in
    let same : locked ≡ locked_places c.args.rules.now = c.locked-e-items.ensures.value in
    let none = c.loop-e.invariant in
    let whole : take c.loop-e.e-index (locked_places c.args.rules.now) ≡ locked_places c.args.rules.now = take_all _ _ (let few = ap length same in omega arith) in
    sym (locks-in c.args.rules.now k places ∙ (rw whole at none))
