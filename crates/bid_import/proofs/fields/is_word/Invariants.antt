use Rattle.std.proofs.Common.{◌≡◌, false, take}
use Rattle.std.specs.List.{list_any}
use Rattle.std.specs.Str.{bytes_eq}
use Rattle.score_spec.specs.declared.spec.BidWord.{BidWord}
use Rattle.bid_import.proofs.fields.is_word.Given as goal

abbrev pub invariant-loop-known : goal.invariant-loop-known
invariant-loop-known l = list_any (λ (w : BidWord). bytes_eq w.word l.text) (take l.known-index l.words) ≡ false
