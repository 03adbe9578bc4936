-- What the reading of settings answers, step by step.
use Rattle.std.specs.Prelude.{◌≡◌, ℕ, List, Some, None, Result, Ok, Err, Vec, ⊤, String}
use Rattle.std.specs.BTreeMap.{BTreeMap}
use Rattle.std.specs.declared.alloc.Global.{Global}
use Rattle.toml.specs.View.{table_view}
use Rattle.toml.specs.declared.value.Value.{Value}
use Rattle.bid_import.specs.declared.fault.Key.{Key}
use Rattle.bid_import.specs.declared.document.KeyFault.{KeyFault}
use Rattle.bid_import.specs.declared.document.KeyFault.TheVariants.{Memory, At}
use Rattle.bid_import.specs.declared.document.TableFault.{TableFault}
use Rattle.bid_import.specs.declared.document.TableFault.TheVariants as table
use Rattle.bid_import.specs.Settings.{document_of}

-- the table of a document; or memory was wanting
abbrev pub ReadsTable : Result (BTreeMap (String Global) Value) TableFault → List ℕ → Type 0
ReadsTable (Ok found) bytes = document_of bytes ≡ Some (table_view found)
ReadsTable (Err table.Memory) bytes = ⊤
ReadsTable (Err table.NotToml) bytes = document_of bytes ≡ None

-- what was read, or its key at fault; or memory was wanting
abbrev pub ReadsKey : {A : Type 0} → Result A KeyFault → Result A Key → Type 0
ReadsKey (Ok found) said = said ≡ Ok found
ReadsKey (Err Memory) said = ⊤
ReadsKey (Err (At at_fault)) said = said ≡ Err at_fault

-- the same of the items of a vector
abbrev pub ReadsItems : {A : Type 0} → Result (Vec A Global) KeyFault → Result (List A) Key → Type 0
ReadsItems (Ok found) said = said ≡ Ok found.items
ReadsItems (Err Memory) said = ⊤
ReadsItems (Err (At at_fault)) said = said ≡ Err at_fault
