-- Maps from texts, seen by the texts' bytes.
use Rattle.std.specs.Prelude.{List, map}
use Rattle.std.specs.Global.{Global}
use Rattle.std.specs.String.{string_bytes}
use Rattle.std.specs.declared.string.String.{String}
use Rattle.score_spec.specs.PairTables.{Entries}

abbrev pub entries_of : {V : Type 0} → List (String Global × V) → Entries V
entries_of entries = map (λ entry. record { id = string_bytes entry.0; value = entry.1 }) entries
