use Rattle.std.proofs.Common.{◌≡◌, true, false, ◌∷◌, sym, ap, ◌∙◌, Bor, List, ℕ, string_bytes, arith}
use Rattle.std.specs.List.{list_any}
use Rattle.std.specs.Str.{bytes_eq}
use Rattle.std.proofs.lemmas.Grind.{common_steps}
use Rattle.toml.specs.View.{members_view}
use Rattle.toml.proofs.Views.{Entry}
use Rattle.bid_import.specs.Settings.{knows}
use Rattle.bid_import.proofs.Names.{bytes_of}
use Rattle.bid_import.proofs.Documents.{knows-step}
use Rattle.bid_import.proofs.keys.knows.Goals as goal

pub loop-key-preserved : goal.loop-key-preserved
loop-key-preserved c =
    let (can, finite, same) = c.loop-key.invariant in
    let e : Entry = (c.in-Some.key.now, c.in-Some._node.now) in
    let iter : c.loop-key.key-iterator ≡ e ∷ c.next.new.self = grind (arith, common_steps) in
    let there : list_any (λ (k : Bor (List ℕ)). bytes_eq k.now (string_bytes e.0)) c.args.keys.now ≡ true = rw c.as_str.ensures.value at (sym c.is_known.ensures ∙ c.if-not-is_known.false) in
    let step = knows-step c.args.keys.now e c.next.new.self in
    (tt, tt, sym (ap (λ es. knows (bytes_of c.args.keys.now) (members_view es)) iter ∙ rw there at step) ∙ same)

pub returns-then-not-is_known : goal.returns-then-not-is_known
returns-then-not-is_known c =
    let (can, finite, same) = c.loop-key.invariant in
    let e : Entry = (c.in-Some.key.now, c.in-Some._node.now) in
    let iter : c.loop-key.key-iterator ≡ e ∷ c.next.new.self = grind (arith, common_steps) in
    let there : list_any (λ (k : Bor (List ℕ)). bytes_eq k.now (string_bytes e.0)) c.args.keys.now ≡ false = rw c.as_str.ensures.value at (sym c.is_known.ensures ∙ c.if-not-is_known.true) in
    let step = knows-step c.args.keys.now e c.next.new.self in
    sym (ap (λ es. knows (bytes_of c.args.keys.now) (members_view es)) iter ∙ rw there at step) ∙ same
