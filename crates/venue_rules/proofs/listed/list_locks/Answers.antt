use Rattle.std.proofs.Common.{◌≡◌, [], ◌∷◌, ◌++◌, ◌∙◌, ℤ, sym, ap}
use Rattle.std.specs.Prelude.{filter, if◌then◌else◌}
use Rattle.std.specs.Map.Iter.{deref_pair}
use Rattle.std.specs.String.{string_bytes}
use Rattle.std.proofs.lemmas.List.{append-nil}
use Rattle.std.proofs.lemmas.Map.Iter.{rest_more, rest_all}
use Rattle.score_spec.specs.PairTables.{Entry}
use Rattle.score_spec.specs.TextMaps.{entries_of}
use Rattle.venue_rules.specs.Listed.{is_lock, place_with, places_in}
use Rattle.venue_rules.proofs.ListedLaws.{lock-turn}
use Rattle.venue_rules.proofs.listed.list_locks.Goals as goal

pub loop-id-preserved : goal.loop-id-preserved
loop-id-preserved c =
    let rows = c.args.reviewers.now in
    let turn = rest_more deref_pair c.loop-id.id-iterator c.next.new.self c.next.result (c.in-Some.id, c.in-Some.mark) c.in-Some.is c.next.ensures.steps in
    let mark : Entry ℤ = record { id = string_bytes c.in-Some.id.now; value = c.in-Some.mark.now } in
    let split : entries_of c.loop-id.id-iterator ≡ mark ∷ entries_of c.next.new.self = ap entries_of turn in
    let is : c.list_lock.new.places.items ≡ c.loop-id.places.items ++ (if is_lock mark then place_with rows mark.id else []) =
    c.in_ok-list_lock.ensures ∙ ap (λ id. c.loop-id.places.items ++ (if is_lock mark then place_with rows id else [])) c.as_str.ensures.value in
    lock-turn rows mark _ _ _ _ _ split is c.loop-id.invariant

pub returns-clause-places : goal.returns-clause-places
returns-clause-places c =
    let rows = c.args.reviewers.now in
    let done = rest_all deref_pair c.loop-id.id-iterator c.next.new.self c.next.result c.in-None.is c.next.ensures.steps in
    sym (append-nil c.loop-id.places.items) ∙ ap (λ xs. c.loop-id.places.items ++ places_in {V = ℤ} rows (filter is_lock (entries_of xs))) (sym done) ∙ c.loop-id.invariant
