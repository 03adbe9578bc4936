-- What is made of a part, and then of the whole.
use Rattle.std.proofs.Common.{List, refl}
use Rattle.std.specs.Prelude.{Err, ℤ}
use Rattle.std.proofs.lemmas.List.Elements.{All-nil}
use Rattle.roster.specs.declared.rows.PaperRow.{PaperRow}
use Rattle.score_spec.specs.PairTables.{PairsValue}
use Rattle.bid_import.specs.declared.fault.ImportFault.{ImportFault}
use Rattle.bid_import.specs.declared.fault.ImportFault.TheVariants.{Memory, Bad}
use Rattle.bid_import.specs.Results.{◌>>=◌}
use Rattle.table_edits.specs.declared.edit.How.{How}
use Rattle.table_edits.specs.declared.edit.How.TheVariants.{Merge, Replace}
use Rattle.table_edits.specs.Bodies.{Made, Makes, start_of}
use Rattle.editions.proofs.Keeping.{HasDemands, HasCaps}

-- a fault of the part is one of the whole
pub then_fails : {A B : Type 0} (fault : ImportFault) (made : Made A) (more : A → Made B) → Makes {A = A} (Err fault) made → Makes {A = B} (Err fault) (made >>= more)
then_fails Memory made more h = tt
then_fails (Bad row code) made more h = rw h refl

-- a table that is merged into, or emptied, keeps what it had

pub start_keeps_demands : (how : How) (table : List PaperRow) → HasDemands table → HasDemands (start_of how table)
start_keeps_demands Merge table kept = kept
start_keeps_demands Replace table kept = All-nil _

pub start_keeps_caps : (how : How) (table : PairsValue ℤ) → HasCaps table → HasCaps (start_of how table)
start_keeps_caps Merge table kept = kept
start_keeps_caps Replace table kept = All-nil _
