-- Files by name, and what reading one whole answers.
use Rattle.std.specs.Prelude.{◌≡◌, ℕ, ◌<◌, ◌≤◌, List, [], ◌∷◌, length, Option, None, Some, Result, IfOk, IsErrOf, IsSome, if◌then◌else◌}
use Rattle.std.specs.Str.{bytes_eq}
use Rattle.edge_io.specs.Counts.{Rose}
use Rattle.edge_io.specs.Memory.{CallsSoFar}
use Rattle.edge_io.specs.declared.folder.FileRead.{FileRead}
use Rattle.edge_io.specs.declared.folder.FileRead.TheVariants.{Found, Absent, TooLong}
use Rattle.edge_io.specs.declared.folder.FolderFault.{FolderFault}
use Rattle.edge_io.specs.declared.folder.FolderFault.TheVariants.{Failed}
use Rattle.edge_io.specs.declared.folder.TheConstants.{MOST_FILE_BYTES}
use Rattle.edge_io.specs.FileValues.{FileValue}

-- the bytes of the first file of the name
abbrev pub file_named : List FileValue → List ℕ → Option (List ℕ)
file_named [] name = None
file_named (file ∷ files) name = if bytes_eq file.name name then Some file.bytes else file_named files name

-- what reading the file answers: its bytes, that there is none, or that it is longer than may be
abbrev pub IsRead : FileRead → Option (List ℕ) → Type 0
IsRead (Found bytes) file = (file ≡ Some bytes.items) × (length bytes.items ≤ MOST_FILE_BYTES)
IsRead Absent file = file ≡ None
IsRead TooLong file = (bytes : List ℕ) × (file ≡ Some bytes) × (MOST_FILE_BYTES < length bytes)

-- the files, or none where they aren't told
abbrev pub told_files : Option (List FileValue) → List FileValue
told_files None = []
told_files (Some files) = files

-- a read of a file changes none, and answers what the files say where they are told after it
pub record ReadsFile (old new : Option (List FileValue)) (result : Result FileRead FolderFault) (name : List ℕ) : Type 0 where
  pub untold : IsSome new → IsSome old
  pub same : IsSome new → told_files new ≡ told_files old
  pub read : IsSome new → IfOk result (λ answer. IsRead answer (file_named (told_files old) name))

-- the count never falls, and `Failed` comes only where it rose
pub record FolderFails {T : Type 0} (before now : ℕ) (result : Result T FolderFault) : Type 0 where
  pub later : before ≤ now
  pub failed : IsErrOf result Failed → Rose before now

-- a folder in memory: its files and its calls
pub record FolderValue : Type 0 where
  pub files : List FileValue
  pub calls : CallsSoFar
