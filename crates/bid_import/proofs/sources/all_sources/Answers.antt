use Rattle.std.proofs.Common.{◌≡◌, true, map, drop, ◌+◌, sym, ap, ◌∙◌, rules}
use Rattle.std.specs.Result.{is_ok}
use Rattle.std.proofs.lemmas.Result.{err_from_is_err_and}
use Rattle.toml.specs.View.{view}
use Rattle.bid_import.specs.declared.fault.Key.TheVariants.{Source}
use Rattle.bid_import.proofs.Documents.{after, after-more, after-stop, given-by, refused-with}
use Rattle.bid_import.proofs.Tables.{read_source, tables-from}
use Rattle.bid_import.proofs.sources.all_sources.Goals as goal

pub loop-node-preserved : goal.loop-node-preserved
loop-node-preserved c =
    let nodes = c.args.nodes.now in
    let i = c.loop-node.node-index in
    let done = c.loop-node.sources.items in
    let item = c.node-item.result in
    let rest = map view (drop (i + 1) nodes) in
    let left = tables-from nodes i item c.loop-node-test.true c.node-item.is in
    let read = given-by _ Source _ c.in_ok-source_of.ensures in
    let good : is_ok c.push.result ≡ true = search rules in
    let items = rw good at c.push.ensures.items in
    let step = after-more read_source done (view item) rest c.in_ok-source_of.field-0 read in
    c.loop-node.invariant ∙ ap (after read_source done) left ∙ step ∙ ap (λ ss. after read_source ss rest) (sym items)

pub returns-in_err-source_of : goal.returns-in_err-source_of
returns-in_err-source_of c =
    let nodes = c.args.nodes.now in
    let i = c.loop-node.node-index in
    let done = c.loop-node.sources.items in
    let item = c.node-item.result in
    let left = tables-from nodes i item c.loop-node-test.true c.node-item.is in
    let whole = c.loop-node.invariant ∙ ap (after read_source done) left in
    let p = err_from_is_err_and c.from_residual.result c.from_residual.ensures.1 in
    rw (p.1, p.2) (refused-with _ _ _ Source c.in_err-source_of.ensures (λ none. whole ∙ after-stop read_source done (view item) (map view (drop (i + 1) nodes)) none))
