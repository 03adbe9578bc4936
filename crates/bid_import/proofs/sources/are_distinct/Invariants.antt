use Rattle.std.proofs.Common.{◌≡◌, map, drop}
use Rattle.score_spec.specs.Sources.{SourceValue}
use Rattle.bid_import.specs.Settings.{are_distinct}
use Rattle.bid_import.proofs.sources.are_distinct.Given as goal

abbrev pub invariant-loop-place : goal.invariant-loop-place
invariant-loop-place l = are_distinct (map (λ (s : SourceValue). s.name) (drop l.place l.sources)) ≡ are_distinct (map (λ (s : SourceValue). s.name) l.sources)
