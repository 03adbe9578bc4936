-- The venue of a folder: its files as edits, in their order.
use Rattle.std.specs.Prelude.{◌≡◌, ℕ, nat_lt, if◌then◌else◌, List, [], ◌∷◌, length, Option, Some, None, Result, Ok, Err, ⊤, ◌≤◌, IsSome, IsErrOf}
use Rattle.bid_import.specs.Results.{◌>>=◌}
use Rattle.bid_import.specs.declared.fault.Code.{Code}
use Rattle.bid_import.specs.declared.fault.Code.TheVariants.{Missing, TooLong}
use Rattle.edge_io.specs.FileValues.{FileValue}
use Rattle.edge_io.specs.Counts.{Rose}
use Rattle.edge_io.specs.Files.{file_named, told_files}
use Rattle.edge_io.specs.declared.folder.TheConstants.{MOST_FILE_BYTES}
use Rattle.table_edits.specs.Bodies.{Made}
use Rattle.table_edits.specs.Files.{file_of, has_to_be_there, tables_of}
use Rattle.table_edits.specs.declared.edit.How.TheVariants.{Replace}
use Rattle.table_edits.specs.declared.edit.TableName.{TableName}
use Rattle.table_edits.specs.declared.edit.TableName.TheVariants.{Settings}
use Rattle.venue_rules.specs.Venues.{VenueValue, empty_venue}
use Rattle.editions.specs.declared.fault.LoadFault.{LoadFault}
use Rattle.editions.specs.declared.fault.LoadFault.TheVariants.{Memory, Folder, Bad, Limit}
use Rattle.editions.specs.declared.venue.Edited.{Edited}
use Rattle.editions.specs.Answers.{IsEdited, IsLimited}
use Rattle.editions.specs.Edits.{venue_after}

-- a venue, or the file at fault, with the row and the code
abbrev pub Loaded : Type 0
Loaded = Result VenueValue (List ℕ × ℕ × Code)

abbrev pub in_file : List ℕ → Made VenueValue → Loaded
in_file file (Ok venue) = Ok venue
in_file file (Err fault) = Err (file, fault.0, fault.1)

-- the venue after a file, which empties the table first
abbrev pub after_bytes : VenueValue → TableName → List ℕ → Loaded
after_bytes venue table bytes =
    if nat_lt MOST_FILE_BYTES (length bytes) then Err (file_of table, 0, TooLong) else in_file (file_of table) (venue_after venue table Replace bytes)

abbrev pub after_file : VenueValue → TableName → Option (List ℕ) → Loaded
after_file venue table None = if has_to_be_there table then Err (file_of table, 0, Missing) else Ok venue
after_file venue table (Some bytes) = after_bytes venue table bytes

-- the files of these tables, one after the other
abbrev pub after_files : List FileValue → List TableName → VenueValue → Loaded
after_files files [] venue = Ok venue
after_files files (table ∷ tables) venue = after_file venue table (file_named files (file_of table)) >>= after_files files tables

-- the venue of a folder with these files
unfoldable pub venue_in : List FileValue → Loaded
venue_in files = after_files files (Settings ∷ []) empty_venue >>= (λ venue. after_files files (tables_of venue.settings.spec.sources) venue)

-- the answer has the venue, or the file at fault, with the row and the code; or the folder failed or memory was wanting
abbrev pub Loads : Result VenueValue LoadFault → Loaded → Type 0
Loads (Ok venue) loaded = loaded ≡ Ok venue
Loads (Err Memory) loaded = ⊤
Loads (Err Folder) loaded = ⊤
Loads (Err (Bad file row code)) loaded = loaded ≡ Err (file, row, code)
Loads (Err (Limit fault)) loaded = ⊥

-- reading changes no file, and gives what the files say where they are told after it
pub record ReadsFiles (old new : Option (List FileValue)) (Answers : List FileValue → Type 0) : Type 0 where
  pub untold : IsSome new → IsSome old
  pub same : IsSome new → told_files new ≡ told_files old
  pub answer : IsSome new → Answers (told_files old)

-- the count never falls, and `Folder` comes only where it rose
pub record LoadFails {T : Type 0} (before now : ℕ) (result : Result T LoadFault) : Type 0 where
  pub later : before ≤ now
  pub failed : IsErrOf result Folder → Rose before now

-- the venue with its rules, the first fault in the order of reading, or the limit; or the folder failed or memory was wanting
abbrev pub IsLoadAnswer : Result Edited LoadFault → Loaded → Type 0
IsLoadAnswer (Ok edited) loaded = IsEdited edited loaded
IsLoadAnswer (Err Memory) loaded = ⊤
IsLoadAnswer (Err Folder) loaded = ⊤
IsLoadAnswer (Err (Bad file row code)) loaded = loaded ≡ Err (file, row, code)
IsLoadAnswer (Err (Limit fault)) loaded = IsLimited fault loaded
