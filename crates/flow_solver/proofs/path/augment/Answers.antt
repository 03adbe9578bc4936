use Rattle.std.proofs.Common.{◌≡◌, ◌≢◌, ◌<◌, ◌≤◌, ◌-◌, ◌∙◌, length, arith, ap}
use Rattle.std.specs.Prelude.{pos, ◌+ℤ◌, ◌≤ℤ◌}
use Rattle.std.proofs.lemmas.Int.{ints}
use Rattle.std.proofs.lemmas.List.{get_or_read}
use Rattle.flow_solver.specs.declared.search.Reach.{Reach}
use Rattle.flow_solver.specs.Search.{reach_at, no_reach}
use Rattle.flow_solver.specs.State.{IsShifted, excess_at}
use Rattle.flow_solver.proofs.Bounds.{width_some}
use Rattle.flow_solver.proofs.States.{excess_within}
use Rattle.flow_solver.proofs.Paths.{from_decreases, from_rich, others_stay, calm_stays}
use Rattle.flow_solver.proofs.path.augment.Goals as goal
use Rattle.flow_solver.proofs.path.augment.Goals.{After-index, After-min-amount, After-carry_along}

index_is : (c : After-index) → c.index.result.now ≡ excess_at c.args.state.now.excess.items c.args.search.now.node
index_is c =
    let same = c.update_potentials.ensures.excess in
    let b : c.args.search.now.node < length c.update_potentials.new.state.excess.items = rw same (omega (arith, c.args.state.now.kept.excess_long, c.requires.found.search_kept.node_in)) in
    get_or_read _ _ _ b c.index.ensures (pos 0) ∙ ap (λ xs. excess_at xs c.args.search.now.node) same

pub deficit_of-deficit-requires-clause-small : goal.deficit_of-deficit-requires-clause-small
deficit_of-deficit-requires-clause-small c =
    let e = index_is (goal.at.deficit_of-deficit-requires-clause-small c).After-index in
    let small = excess_within c.args.state.now.network.now _ _ _ c.args.state.now.good c.args.state.now.kept c.args.search.now.node in
    record { low = omega (arith, ints, e, small.low); high = omega (arith, ints, e, small.high) }

last_is : (c : After-min-amount) → c.index-2.result.now ≡ reach_at c.args.search.now.tree.items (length c.args.search.now.tree.items - 1)
last_is c =
    let tree = c.args.search.now.tree.items in
    let some = c.requires.found.search_kept.is_tree.some in
    let n : c.len.result ≡ length tree = omega (arith, c.len.ensures, c.args.search.now.tree.ok.0) in
    let b : c.len.result - 1 < length tree = omega (arith, n, some) in
    get_or_read _ _ _ b c.index-2.ensures no_reach ∙ ap (λ i. reach_at tree (i - 1)) n

amount_wide : (c : After-min-amount) → c.min-amount.result ≤ (reach_at c.args.search.now.tree.items (length c.args.search.now.tree.items - 1)).width
amount_wide c = let e = ap (λ (r : Reach). r.width) (last_is c) in omega (arith, c.min-amount.ensures, e)

pub carry_along-requires : goal.carry_along-requires
carry_along-requires c =
    record { path = rw c.deref.ensures.value (c.update_potentials.ensures.path c.min-amount.result (amount_wide (goal.at.carry_along-requires c).After-min-amount)) }

deficit_is : (c : After-carry_along) → c.index.result.now ≡ excess_at c.args.state.now.excess.items c.args.search.now.node
deficit_is c =
    let same = c.update_potentials.ensures.excess in
    let b : c.args.search.now.node < length c.update_potentials.new.state.excess.items = rw same (omega (arith, c.args.state.now.kept.excess_long, c.requires.found.search_kept.node_in)) in
    get_or_read _ _ _ b c.index.ensures (pos 0) ∙ ap (λ xs. excess_at xs c.args.search.now.node) same

last_reach_is : (c : After-carry_along) → c.index-2.result.now ≡ reach_at c.args.search.now.tree.items (length c.args.search.now.tree.items - 1)
last_reach_is c =
    let tree = c.args.search.now.tree.items in
    let some = c.requires.found.search_kept.is_tree.some in
    let n : c.len.result ≡ length tree = omega (arith, c.len.ensures, c.args.search.now.tree.ok.0) in
    let b : c.len.result - 1 < length tree = omega (arith, n, some) in
    get_or_read _ _ _ b c.index-2.ensures no_reach ∙ ap (λ i. reach_at tree (i - 1)) n

shifted : (c : After-carry_along) → IsShifted c.args.state.now.excess.items c.carry_along.new.state.excess.items c.args.search.now.source c.args.search.now.node c.min-amount.result
shifted c =
    let search = c.requires.found.search_kept in
    rw (c.deref.ensures.value, search.is_tree.root, search.node_last, c.update_potentials.ensures.excess) at c.carry_along.ensures.shifted

enough : (c : After-carry_along) → pos c.min-amount.result ≤ℤ excess_at c.args.state.now.excess.items c.args.search.now.source
enough c =
    let wide = rw c.deref.ensures.value at c.carry_along.ensures.wide in
    omega (arith, ints, wide, c.requires.found.search_kept.is_tree.root_width)

little : (c : After-carry_along) → (excess_at c.args.state.now.excess.items c.args.search.now.node +ℤ pos c.min-amount.result) ≤ℤ pos 0
little c = omega (arith, ints, deficit_is c, c.min-amount.ensures, c.deficit_of-deficit.ensures.within)

amount_some : (c : After-carry_along) → 0 < c.min-amount.result
amount_some c =
    let is_tree = c.requires.found.search_kept.is_tree in
    let last = width_some _ _ _ _ _ is_tree (length c.args.search.now.tree.items - 1) (omega (arith, is_tree.some)) in
    let e = ap (λ (r : Reach). r.width) (last_reach_is c) in
    omega (arith, last, e, c.min-amount.ensures, c.deficit_of-deficit.ensures.some)

apart : (c : After-carry_along) → c.args.search.now.source ≢ c.args.search.now.node
apart c same =
    let e = ap (excess_at c.args.state.now.excess.items) same in
    absurd (omega (arith, ints, e, enough c, amount_some c, c.requires.found.deficit))

pub returns-clause-calm : goal.returns-clause-calm
returns-clause-calm c =
    rw (c.carry_along.ensures.network, c.update_potentials.ensures.network, c.carry_along.ensures.potentials)
    (calm_stays c.args.state.now.excess.items c.carry_along.new.state.excess.items c.args.search.now.source c.args.search.now.node c.min-amount.result (shifted c) (apart c)
    c.args.state.now.network.now c.update_potentials.new.state.potentials.items (enough c) c.requires.found.deficit (rw (c.update_potentials.ensures.network, c.update_potentials.ensures.excess) at c.update_potentials.ensures.calm))

pub returns-clause-decreases : goal.returns-clause-decreases
returns-clause-decreases c =
    from_decreases c.args.state.now.excess.items c.carry_along.new.state.excess.items c.args.search.now.source c.args.search.now.node c.min-amount.result (shifted c) (apart c) (amount_some c)

pub returns-clause-rich : goal.returns-clause-rich
returns-clause-rich c =
    from_rich c.args.state.now.excess.items c.carry_along.new.state.excess.items c.args.search.now.source c.args.search.now.node c.min-amount.result (shifted c) (apart c) (enough c)

pub returns-clause-others : goal.returns-clause-others
returns-clause-others c =
    others_stay c.args.state.now.excess.items c.carry_along.new.state.excess.items c.args.search.now.source c.args.search.now.node c.min-amount.result (shifted c) (apart c) (little c)
