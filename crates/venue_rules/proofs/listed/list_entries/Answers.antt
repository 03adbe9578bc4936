use Rattle.std.proofs.Common.{◌≡◌, ◌∷◌, ◌++◌, ◌∙◌, sym, ap}
use Rattle.std.specs.Map.Iter.{deref_pair}
use Rattle.std.specs.String.{string_bytes}
use Rattle.std.proofs.lemmas.List.{append-nil}
use Rattle.std.proofs.lemmas.Map.Iter.{rest_more, rest_all}
use Rattle.score_spec.specs.PairTables.{Entry}
use Rattle.score_spec.specs.TextMaps.{entries_of}
use Rattle.venue_rules.specs.Listed.{place_with, places_in}
use Rattle.venue_rules.proofs.ListedLaws.{entry-turn}
use Rattle.venue_rules.proofs.listed.list_entries.Goals as goal

pub loop-id-preserved : goal.loop-id-preserved
loop-id-preserved g c =
    let rows = c.args.reviewers.now in
    let turn = rest_more deref_pair c.loop-id.id-iterator c.next.new.self c.next.result (c.in-Some.id, c.in-Some.field-0-1) c.in-Some.is c.next.ensures.steps in
    let entry : Entry g.row.V.Denot = record { id = string_bytes c.in-Some.id.now; value = c.in-Some.field-0-1.now } in
    let split : entries_of c.loop-id.id-iterator ≡ entry ∷ entries_of c.next.new.self = ap entries_of turn in
    let is : c.list_id.new.places.items ≡ c.loop-id.places.items ++ place_with rows entry.id = c.in_ok-list_id.ensures ∙ ap (λ id. c.loop-id.places.items ++ place_with rows id) c.as_str.ensures.value in
    entry-turn rows entry _ _ _ _ _ split is c.loop-id.invariant

pub returns : goal.returns
returns g c =
    let rows = c.args.reviewers.now in
    let done = rest_all deref_pair c.loop-id.id-iterator c.next.new.self c.next.result c.in-None.is c.next.ensures.steps in
    sym (append-nil c.loop-id.places.items) ∙ ap (λ xs. c.loop-id.places.items ++ places_in {V = g.row.V.Denot} rows (entries_of xs)) (sym done) ∙ c.loop-id.invariant
