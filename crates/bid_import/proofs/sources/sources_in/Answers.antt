use Rattle.std.proofs.Common.{◌≡◌, Some, map, sym, ap, ◌∙◌, arith}
use Rattle.std.specs.Prelude.{ok_or}
use Rattle.bid_import.specs.declared.fault.Key.TheVariants.{Source}
use Rattle.toml.specs.View.{view}
use Rattle.bid_import.specs.Settings.{sources_in}
use Rattle.bid_import.proofs.Documents.{given-by}
use Rattle.bid_import.proofs.Tables.{too_many, twice-named, all-good, sources-length}
use Rattle.bid_import.proofs.sources.sources_in.Goals as goal

pub returns-then-nodes-gt8-clause-same : goal.returns-then-nodes-gt8-clause-same
returns-then-nodes-gt8-clause-same c = ap (λ o. ok_or o Source) (too_many c.args.nodes.now c.if-nodes-gt8.true)

pub returns-then-not-are_distinct-clause-same : goal.returns-then-not-are_distinct-clause-same
returns-then-not-are_distinct-clause-same c =
    let read = given-by _ Source _ c.in_ok-sources.ensures in
    let twice = rw c.as_slice.ensures.value at (sym c.are_distinct.ensures ∙ c.if-not-are_distinct.true) in
    ap (λ o. ok_or o Source) (twice-named c.args.nodes.now c.in_ok-sources.sources.items read twice)

pub returns-clause-same : goal.returns-clause-same
returns-clause-same c =
    let read = given-by _ Source _ c.in_ok-sources.ensures in
    let distinct = rw c.as_slice.ensures.value at (sym c.are_distinct.ensures ∙ c.if-not-are_distinct.false) in
    let size = sources-length c.args.nodes.now c.in_ok-sources.sources.items read in
    let whole : sources_in (map view c.args.nodes.now) ≡ Some c.from_vec.result = rw c.from_vec.ensures (all-good c.args.nodes.now c.in_ok-sources.sources.items read distinct (omega (arith, size, c.if-nodes-gt8.false))) in
    ap (λ o. ok_or o Source) whole

pub returns-clause-few : goal.returns-clause-few
returns-clause-few c =
    let size = sources-length c.args.nodes.now c.in_ok-sources.sources.items (given-by _ Source _ c.in_ok-sources.ensures) in
    rw c.from_vec.ensures (omega (arith, size, c.if-nodes-gt8.false))
