-- Reading one file after another.
use Rattle.std.proofs.Common.{◌≡◌, ℕ, ◌≤◌, List, [], length, drop, Option, refl, subst, ◌∙◌}
use Rattle.std.specs.Prelude.{Result, Ok, Err}
use Rattle.std.proofs.lemmas.List.{drop_all}
use Rattle.edge_io.specs.FileValues.{FileValue}
use Rattle.bid_import.specs.Results.{◌>>=◌}
use Rattle.edge_io.specs.Files.{file_named, told_files}
use Rattle.table_edits.specs.declared.edit.TableName.{TableName}
use Rattle.table_edits.specs.declared.edit.TableName.TheVariants.{Settings}
use Rattle.editions.specs.declared.fault.LoadFault.{LoadFault}
use Rattle.editions.specs.declared.fault.LoadFault.TheVariants.{Memory, Folder, Bad, Limit}
use Rattle.table_edits.specs.Files.{file_of, tables_of}
use Rattle.editions.specs.Loads.{Loaded, Loads, ReadsFiles, after_file, after_files, venue_in}
use Rattle.venue_rules.specs.Venues.{VenueValue, empty_venue}

-- what is known of the files, and what follows from it
pub reads_so : (old new : Option (List FileValue)) (A B : List FileValue → Type 0) → ReadsFiles old new A → ((files : List FileValue) → A files → B files) → ReadsFiles old new B
reads_so old new A B reads so = record { untold = reads.untold; same = reads.same; answer = λ t. so (told_files old) (reads.answer t) }

-- a read, and then another
pub reads_more : (old mid new : Option (List FileValue)) (A B C : List FileValue → Type 0) → ReadsFiles old mid A → ReadsFiles mid new B → ((files : List FileValue) → A files → B files → C files) → ReadsFiles old new C
reads_more old mid new A B C first second so = record {
  untold = λ t. first.untold (second.untold t);
  same = λ t. second.same t ∙ first.same (second.untold t);
  answer = λ t. so (told_files old) (first.answer (second.untold t)) (subst B (first.same (second.untold t)) (second.answer t));
}

then_load_fails : (fault : LoadFault) (loaded : Loaded) (more : VenueValue → Loaded) → Loads (Err fault) loaded → Loads (Err fault) (loaded >>= more)
then_load_fails Memory loaded more h = tt
then_load_fails Folder loaded more h = tt
then_load_fails (Bad file row code) loaded more h = rw h refl
then_load_fails (Limit fault) loaded more h = absurd h

-- after all tables nothing is left to read
pub no_more_tables : (files : List FileValue) (tables : List TableName) (n : ℕ) (start venue : VenueValue) → length tables ≤ n → after_files files tables start ≡ after_files files (drop n tables) venue → after_files files tables start ≡ Ok venue
no_more_tables files tables n start venue past h = let none : drop n tables ≡ [] = drop_all n tables past in rw none at h

-- the settings are at fault
pub settings_fail : (fault : LoadFault) (empty : VenueValue) (files : List FileValue) → empty ≡ empty_venue → Loads (Err fault) (after_file empty Settings (file_named files (file_of Settings))) → Loads (Err fault) (venue_in files)
unfolding venue_in
settings_fail fault empty files e h =
    let first : Loads (Err fault) (after_file empty_venue Settings (file_named files (file_of Settings))) = rw e at h in
    then_load_fails fault _ _ (then_load_fails fault _ _ first)

-- the other tables after the settings
pub other_tables : (result : Result VenueValue LoadFault) (empty venue : VenueValue) (tables : List TableName) (files : List FileValue) → empty ≡ empty_venue → tables ≡ tables_of venue.settings.spec.sources → after_file empty Settings (file_named files (file_of Settings)) ≡ Ok venue → Loads result (after_files files tables venue) → Loads result (venue_in files)
unfolding venue_in
other_tables result empty venue tables files e t h rest =
    let first : after_file empty_venue Settings (file_named files (file_of Settings)) ≡ Ok venue = rw e at h in
    rw first (rw t at rest)
