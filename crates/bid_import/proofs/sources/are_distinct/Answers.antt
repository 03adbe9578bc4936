use Rattle.std.proofs.Common.{true, false, sym, ◌∙◌}
use Rattle.bid_import.proofs.Tables.{distinct-at}
use Rattle.bid_import.proofs.sources.are_distinct.Goals as goal

pub returns-then-has_named : goal.returns-then-has_named
returns-then-has_named c =
    let there = rw c.name.ensures at (sym c.has_named.ensures ∙ c.if-has_named.true) in
    sym (distinct-at c.args.sources.now c.loop-place.place c.index-sources-place.result true c.loop-place-test.true c.index-sources-place.is there) ∙ c.loop-place.invariant

pub loop-place-preserved : goal.loop-place-preserved
loop-place-preserved c =
    let missing = rw c.name.ensures at (sym c.has_named.ensures ∙ c.if-has_named.false) in
    sym (distinct-at c.args.sources.now c.loop-place.place c.index-sources-place.result false c.loop-place-test.true c.index-sources-place.is missing) ∙ c.loop-place.invariant
