use Rattle.std.proofs.Common.{◌≡◌, true, Some, [], ◌∷◌, string_bytes, sym, ap, ◌∙◌, arith, rules}
use Rattle.std.specs.Prelude.{ok_or}
use Rattle.std.specs.Result.{is_ok}
use Rattle.std.proofs.lemmas.Grind.{common_steps}
use Rattle.toml.specs.View.{view, members_view}
use Rattle.toml.proofs.Views.{Entry}
use Rattle.bid_import.specs.declared.fault.Key.TheVariants.{Bids}
use Rattle.bid_import.specs.Settings.{entries, word_from}
use Rattle.bid_import.proofs.Documents.{after, after-more, after-end, given-by}
use Rattle.bid_import.proofs.BidWords.{ascends}
use Rattle.bid_import.proofs.words.all_words.Goals as goal

pub loop-key-preserved : goal.loop-key-preserved
loop-key-preserved c =
    let (can, finite, same) = c.loop-key.invariant in
    let e : Entry = (c.in-Some.key.now, c.in-Some.node.now) in
    let iter : c.loop-key.key-iterator ≡ e ∷ c.next.new.self = grind (arith, common_steps) in
    let read : word_from (string_bytes e.0, view e.1) ≡ Some c.in_ok-word_of.field-0 = given-by _ Bids _ (rw c.as_str.ensures.value at c.in_ok-word_of.ensures) in
    let good : is_ok c.push.result ≡ true = search rules in
    let items = rw good at c.push.ensures.items in
    let rest = entries (members_view c.next.new.self) in
    let step = after-more word_from c.loop-key.words.items (string_bytes e.0, view e.1) rest c.in_ok-word_of.field-0 read in
    (tt, tt, same ∙ ap (λ es. after word_from c.loop-key.words.items (entries (members_view es))) iter ∙ step ∙ ap (λ ws. after word_from ws rest) (sym items))

pub returns-clause-same : goal.returns-clause-same
returns-clause-same c =
    let (can, finite, same) = c.loop-key.invariant in
    let none : c.loop-key.key-iterator ≡ [] = grind (arith, common_steps) in
    let whole = same ∙ ap (λ es. after word_from c.loop-key.words.items (entries (members_view es))) none ∙ after-end word_from c.loop-key.words.items in
    ap (λ o. ok_or o Bids) whole

pub returns-clause-order : goal.returns-clause-order
returns-clause-order c =
    let (can, finite, same) = c.loop-key.invariant in
    let none : c.loop-key.key-iterator ≡ [] = grind (arith, common_steps) in
    let whole = same ∙ ap (λ es. after word_from c.loop-key.words.items (entries (members_view es))) none ∙ after-end word_from c.loop-key.words.items in
    ascends c.args.table.now.entries c.loop-key.words.items c.iter-key-items.ensures.ordered whole
