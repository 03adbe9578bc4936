use Rattle.std.proofs.Common.{◌≡◌, false, take}
use Rattle.std.specs.List.{list_any}
use Rattle.std.specs.Str.{bytes_eq}
use Rattle.score_spec.specs.Sources.{SourceValue}
use Rattle.bid_import.proofs.sources.has_named.Given as goal

abbrev pub invariant-loop-source : goal.invariant-loop-source
invariant-loop-source l = list_any (λ (s : SourceValue). bytes_eq s.name l.name) (take l.source-index l.sources) ≡ false
