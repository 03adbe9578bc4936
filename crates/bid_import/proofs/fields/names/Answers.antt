-- Each turn takes the next part between the semicolons.
use Rattle.std.proofs.Common.{◌≡◌, ◌∙◌, ◌==◌, length, sym, ap, refl, arith, lit<, false, true, rules, length-append, ◌∷◌, []}
use Rattle.std.specs.Result.{is_ok}
use Rattle.std.proofs.lemmas.Iterator.Splits.{YieldsList-from_str_split}
use Rattle.std.proofs.lemmas.Iterator.Consumers.{YieldsList-so_far, YieldsList-turn, YieldsList-end}
use Rattle.bid_import.specs.Fields.{names_in}
use Rattle.bid_import.proofs.Names.{bytes_of, stays, grows, too_many, all-names, names-length}
use Rattle.bid_import.proofs.fields.names.Goals as goal

pub loop-name-preserved-then-has_name : goal.loop-name-preserved-then-has_name
loop-name-preserved-then-has_name c =
    let there = rw c.as_slice.ensures.value at (sym c.has_name.ensures ∙ c.if-has_name.true) in
    record { known = stays c.loop-name.known.items c.loop-name.yielded c.in-Some.name c.loop-name.invariant.known there; few = c.loop-name.invariant.few }

pub returns-then-len-ge64 : goal.returns-then-len-ge64
returns-then-len-ge64 c =
    let start = c.into_iter-name-iterator.ensures.into_iter_gives in
    let yields = YieldsList-from_str_split 59 c.args.text.now (lit< tt) c.split-name-items.ensures.text c.split-name-items.ensures.has_more c.split-name-items.ensures.pattern in
    let by = rw start at c.loop-name.yielded_by in
    let front = YieldsList-so_far yields c.loop-name.yielded _ by in
    let turn = YieldsList-turn yields c.loop-name.yielded _ by _ _ c.in-Some.name c.in-Some.is c.next.ensures.steps in
    let missing = rw c.as_slice.ensures.value at (sym c.has_name.ensures ∙ c.if-has_name.false) in
    let some : (length c.args.text.now == 0) ≡ false = sym c.is_empty.ensures ∙ c.if-is_empty.false in
    (refl, too_many c.args.text.now c.loop-name.known.items c.loop-name.yielded c.in-Some.name some front turn c.loop-name.invariant.known missing (omega (arith, c.loop-name.known.ok.0)))

pub loop-name-preserved : goal.loop-name-preserved
loop-name-preserved c =
    let missing = rw c.as_slice.ensures.value at (sym c.has_name.ensures ∙ c.if-has_name.false) in
    let grown = grows c.loop-name.known.items c.loop-name.yielded c.in-Some.name c.loop-name.invariant.known missing in
    let good : is_ok c.push.result ≡ true = search rules in
    let items = rw good at c.push.ensures.items in
    record { known = rw items grown; few = omega (arith, ap length items, length-append c.loop-name.known.items (c.in-Some.name ∷ []), c.loop-name.known.ok.0) }

pub returns : goal.returns
returns c =
    let start = c.into_iter-name-iterator.ensures.into_iter_gives in
    let yields = YieldsList-from_str_split 59 c.args.text.now (lit< tt) c.split-name-items.ensures.text c.split-name-items.ensures.has_more c.split-name-items.ensures.pattern in
    let by = rw start at c.loop-name.yielded_by in
    let whole = (YieldsList-end yields c.loop-name.yielded _ by _ _ c.in-None.is c.next.ensures.steps).0 in
    let some : (length c.args.text.now == 0) ≡ false = sym c.is_empty.ensures ∙ c.if-is_empty.false in
    let names : bytes_of c.loop-name.known.items ≡ names_in c.args.text.now = all-names c.args.text.now c.loop-name.known.items c.loop-name.yielded some whole c.loop-name.invariant.known in
    (names, omega (arith, ap length (sym names) ∙ names-length c.loop-name.known.items, c.loop-name.invariant.few))
