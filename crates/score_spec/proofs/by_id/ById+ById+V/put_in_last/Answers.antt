use Rattle.std.proofs.Common.{rules, arith, ◌≡◌, [], Some, sym, ◌∙◌, string_bytes}
use Rattle.std.specs.BTreeMap.Entry.{entry_key}
use Rattle.std.specs.declared.collections.btree_map.Entry.TheVariants.{Occupied}
use Rattle.std.proofs.lemmas.Grind.{common_steps}
use Rattle.score_spec.specs.PairTables.{IsLast, put_value, value_of}
use Rattle.score_spec.specs.TextMaps.{entries_of}
use Rattle.score_spec.proofs.TextMaps.{ascend-entries, last-key, last-written, last-value}
use Rattle.score_spec.proofs.PairTables.{put-through, kept-through}
use Rattle.score_spec.proofs.by_id.ById+ById+V.put_in_last.Goals as goal

pub returns-clause-put : goal.returns-clause-put
returns-clause-put g c = λ last is.
    let es = c.self.inside.map.entries in let key = entry_key (Occupied c.in-Some.entry) in
    let here : IsLast last (entries_of es) = rw c.self.view_is is in
    let found = last-value last es key c.into_mut.result.now c.in-Some.ensures.key (sym c.into_mut.ensures.value ∙ c.in-Some.ensures.value.1) here in
    rw (← c.self.view_is) (put-through c.put.result (put_value (string_bytes c.args.id) c.args.value) last [] c.into_mut.result.now c.put.new.self (entries_of es) _ found (last-written last es _ key c.put.new.self c.in-Some.ensures.key (search (rules, c.in-Some.ensures.update.1 c.put.new.self)) here) c.put.ensures.put)

pub returns-clause-more : goal.returns-clause-more
returns-clause-more g c = λ last is.
    let es = c.self.inside.map.entries in let key = entry_key (Occupied c.in-Some.entry) in
    let here : IsLast last (entries_of es) = rw c.self.view_is is in
    let found : value_of c.args.self.now last ≡ Some c.into_mut.result.now = rw (← c.self.view_is) (last-value last es key c.into_mut.result.now c.in-Some.ensures.key (sym c.into_mut.ensures.value ∙ c.in-Some.ensures.value.1) here) in
    rw found c.put.ensures.more

pub returns-clause-known : goal.returns-clause-known
returns-clause-known g c = λ last is.
    let es = c.self.inside.map.entries in let key = entry_key (Occupied c.in-Some.entry) in
    let here : IsLast last (entries_of es) = rw c.self.view_is is in
    let found : value_of c.args.self.now last ≡ Some c.into_mut.result.now = rw (← c.self.view_is) (last-value last es key c.into_mut.result.now c.in-Some.ensures.key (sym c.into_mut.ensures.value ∙ c.in-Some.ensures.value.1) here) in
    rw found c.put.ensures.known

pub returns-clause-kept : goal.returns-clause-kept
returns-clause-kept g c =
    let es = c.self.inside.map.entries in let key = entry_key (Occupied c.in-Some.entry) in
    let here = last-key es key c.in-Some.ensures.key in
    let found = last-value (string_bytes key) es key c.into_mut.result.now c.in-Some.ensures.key (sym c.into_mut.ensures.value ∙ c.in-Some.ensures.value.1) here in
    let up = ascend-entries es (rw (c.in-Some.ensures.keys_stay c.put.new.self) at (c.in-Some.ensures.update.2 c.put.new.self)) in
    rw (← c.self.view_is) (kept-through c.put.result (string_bytes key) c.into_mut.result.now c.put.new.self (entries_of es) _ up found (last-written (string_bytes key) es _ key c.put.new.self c.in-Some.ensures.key (grind (arith, common_steps)) here) c.put.ensures.kept)
