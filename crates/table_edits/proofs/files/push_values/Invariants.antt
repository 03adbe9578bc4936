use Rattle.std.proofs.Common.{◌≡◌, ◌++◌, take, map, filter}
use Rattle.score_spec.specs.Scores.{is_values}
use Rattle.score_spec.specs.Sources.{SourceValue}
use Rattle.table_edits.specs.Files.{values_table}
use Rattle.table_edits.proofs.files.push_values.Given as goal

abbrev pub invariant-loop-source : goal.invariant-loop-source
invariant-loop-source l = l.tables.items ≡ l.fn.tables.items ++ map values_table (filter (λ (source : SourceValue). is_values source.kind) (take l.source-index l.sources))
