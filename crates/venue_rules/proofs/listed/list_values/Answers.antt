use Rattle.std.proofs.Common.{◌≡◌, ◌∷◌, ◌++◌, ◌∙◌, ℤ, sym, ap}
use Rattle.std.specs.Map.Iter.{deref_pair}
use Rattle.std.specs.String.{string_bytes}
use Rattle.std.proofs.lemmas.List.{append-nil}
use Rattle.std.proofs.lemmas.Map.Iter.{rest_more, rest_all}
use Rattle.score_spec.specs.PairTables.{Entry, PairsValue}
use Rattle.score_spec.specs.TextMaps.{entries_of}
use Rattle.venue_rules.specs.Listed.{places_by}
use Rattle.venue_rules.proofs.ListedLaws.{table-turn}
use Rattle.venue_rules.proofs.listed.list_values.Goals as goal

pub loop-table-preserved : goal.loop-table-preserved
loop-table-preserved c =
    let turn = rest_more deref_pair c.loop-table.table-iterator c.next.new.self c.next.result (c.in-Some.field-0-0, c.in-Some.table) c.in-Some.is c.next.ensures.steps in
    let table : Entry (PairsValue ℤ) = record { id = string_bytes c.in-Some.field-0-0.now; value = c.in-Some.table.now } in
    let split : entries_of c.loop-table.table-iterator ≡ table ∷ entries_of c.next.new.self = ap entries_of turn in
    table-turn c.args.reviewers.now c.args.paper.now table _ _ _ _ _ split c.in_ok-list_table.ensures c.loop-table.invariant

pub returns : goal.returns
returns c =
    let done = rest_all deref_pair c.loop-table.table-iterator c.next.new.self c.next.result c.in-None.is c.next.ensures.steps in
    sym (append-nil c.loop-table.places.items) ∙ ap (λ xs. c.loop-table.places.items ++ places_by c.args.reviewers.now (entries_of xs) c.args.paper.now) (sym done) ∙ c.loop-table.invariant
