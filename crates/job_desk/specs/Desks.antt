-- The desk: its chairs and its history.
use Rattle.std.specs.Prelude.{ℕ, ◌+◌, ◌≤◌, ◌==◌, Bool, false, List, Option, Vec, drop, reverse, ⊤}
use Rattle.std.specs.List.{position}
use Rattle.std.specs.Option.{option_map}
use Rattle.std.specs.declared.alloc.Global.{Global}
use Rattle.command_index.specs.declared.index.CommandIndex.{CommandIndex}
use Rattle.command_index.specs.Maps.{place_at}
use Rattle.command_index.specs.Places.{IsIndexOf}
use Rattle.desk_history.specs.declared.entries.Entry.{Entry}
use Rattle.desk_history.specs.declared.entries.Entry.TheVariants.{Ended, Released}
use Rattle.desk_history.specs.declared.refusals.TheConstants.{MOST_ROW_BYTES}
use Rattle.desk_history.specs.declared.requests.Request.{Request}
use Rattle.desk_history.specs.declared.requests.Request.TheVariants.{Finish, Release}
use Rattle.desk_history.specs.declared.tables.Tables.{Tables}
use Rattle.desk_history.specs.Courses.{AreKept, history_of}
use Rattle.desk_history.specs.Histories.{History}
use Rattle.desk_history.specs.Opened.{IsLegal}
use Rattle.desk_reopening.specs.Editions.{EditionsMakeRules}
use Rattle.desk_laws.specs.Reopened.{AreNames}

-- the names of the chairs, and what was done
pub record DeskValue : Type 0 where
  pub chairs : List (List ℕ)
  pub history : History

-- the parts of a desk: chairs with names, a legal history, and its tables
pub record IsDesk (chairs : List (List ℕ)) (entries : Vec Entry Global) (tables : Tables) : Type 0 where
  pub names : AreNames chairs
  pub legal : IsLegal chairs (history_of entries)
  pub kept : AreKept entries tables
  pub bytes : tables.bytes ≤ MOST_ROW_BYTES

-- the same, with the index of its commands, where each edition makes rules
pub record IsIndexedDesk (chairs : List (List ℕ)) (index : CommandIndex) (entries : Vec Entry Global) (tables : Tables) : Type 0 where
  pub desk : IsDesk chairs entries tables
  pub indexed : IsIndexOf (history_of entries) (place_at index)
  pub editions : EditionsMakeRules (history_of entries)

-- a bench lets go of its job, done or not
abbrev pub IsEnd : Request → Type 0
IsEnd (Finish bench job done) = ⊤
IsEnd (Release bench) = ⊤
IsEnd other = ⊥

-- this bench lets go of its job by the entry
abbrev pub lets_go : ℕ → Entry → Bool
lets_go bench (Ended at done) = at == bench
lets_go bench (Released at) = at == bench
lets_go bench other = false

-- the least place, from one on, at which a bench lets go of its job
abbrev pub let_go : History → ℕ → ℕ → Option ℕ
let_go H bench from = option_map (λ place. from + place) (position (lets_go bench) (drop from (reverse H)))
