use Rattle.std.proofs.Common.{◌≡◌, ◌∙◌, false, sym, arith, get_or}
use Rattle.std.specs.String.{string_bytes}
use Rattle.std.specs.declared.string.String.{String}
use Rattle.std.specs.declared.alloc.Global.{Global}
use Rattle.std.proofs.lemmas.List.{take_all}
use Rattle.std.proofs.lemmas.List.Folds.{list_all-map, list_all_at}
use Rattle.command_words.specs.Hyphens.{is_plain}
use Rattle.command_words.proofs.words.are_plain.Goals as goal

pub returns-then-not-is_plain : goal.returns-then-not-is_plain
returns-then-not-is_plain c =
    let not_plain : c.is_plain.result ≡ false = c.if-not-is_plain.true in
    let here : is_plain (string_bytes (get_or c.args.words.now c.loop-word.word-index c.word-item.result)) ≡ false =
    rw (sym c.word-item.is, sym c.as_str.ensures.value, sym c.is_plain.ensures) not_plain in
    sym (list_all-map is_plain string_bytes c.args.words.now ∙ list_all_at (λ (w : String Global). is_plain (string_bytes w)) c.args.words.now c.loop-word.word-index c.word-item.result (omega arith) here)

pub returns : goal.returns
returns c =
    let whole = rw (take_all c.loop-word.word-index c.args.words.now c.loop-word-test.false) at c.loop-word.invariant in
    sym (list_all-map is_plain string_bytes c.args.words.now ∙ whole)
