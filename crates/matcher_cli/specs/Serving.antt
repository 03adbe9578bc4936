-- The session of a stream over the desk that a keeper's rows open.
use Rattle.std.specs.Prelude.{◌≡◌, ◌≤◌, ◌⊎◌, ℕ, Bool, true, List, [], map, drop, codes, Option, IsSome}
use Rattle.std.specs.String.{string_bytes}
use Rattle.std.specs.declared.alloc.Global.{Global}
use Rattle.std.specs.declared.string.String.{String}
use Rattle.edge_io.specs.Told.{told}
use Rattle.desk_keeper.specs.Keepers.{Tells, told_rows}
use Rattle.desk_history.specs.Opened.{IsDamaged, IsLegal, Opens}
use Rattle.desk_history.specs.Rows.{rows}
use Rattle.desk_laws.specs.Best.{EachBest}
use Rattle.desk_reopening.specs.Reading.{SameRows}
use Rattle.desk_routes.specs.declared.places.Routes.TheVariants.{ChairsAndWorker}
use Rattle.http_stream.specs.declared.ending.StreamEnd.{StreamEnd}
use Rattle.http_stream.specs.declared.ending.StreamEnd.TheVariants as ends
use Rattle.http_stream.specs.declared.intake.TheConstants.{MOST_STREAM_BYTES}
use Rattle.http_stream.specs.Exchanges.{Exchange, Trail}
use Rattle.http_stream.specs.Intakes.{Added}
use Rattle.http_stream.specs.Streams.{Wrote}
use Rattle.http_desk.specs.Hosts.{Passes}
use Rattle.http_desk.specs.Sessions.{Serves, SessionValue}
use Rattle.matcher_cli.specs.declared.status.Status.{Status}
use Rattle.matcher_cli.specs.declared.status.Status.TheVariants as status
use Rattle.matcher_cli.specs.Lines.{one_number}
use Rattle.matcher_cli.specs.Verdicts.{FrontWritten, Written}

-- the chairs are the words behind the first
abbrev pub chairs_in : List (String Global) → List (List ℕ)
chairs_in words = drop 1 (map string_bytes words)

-- what a keeper, a source and a sink tell at a time: the rows, how often the keeper has failed, what the source has given and has left,
-- and what the sink has taken
pub record Outside : Type 0 where
  pub rows : Option (List (List ℕ))
  pub faults : ℕ
  pub given : Option (List ℕ)
  pub left : Option (List ℕ)
  pub taken : Option (List ℕ)

-- a desk of these chairs was opened from the rows and served the bytes that the source gave; `end` is how its stream ended
pub record IsSession (chairs : List (List ℕ)) (old new : Outside) (end : StreamEnd) : Type 0 where
  pub before : SessionValue
  pub after : SessionValue
  pub trail : List Exchange
  pub bytes : List ℕ
  pub out : List ℕ
  pub over : Bool
  -- the desk is that of these chairs, which the rows open
  pub chairs_are : before.desk.chairs ≡ chairs
  pub opened : IsSome new.rows → Opens (told_rows old.rows) before.desk.history
  pub legal : IsLegal chairs before.desk.history
  pub first : old.faults ≤ before.faults
  -- each request does what it asks, in their order
  pub serves : Trail (Passes Serves ChairsAndWorker) before trail after
  pub last : after.faults ≡ new.faults
  -- the keeper has the rows of what was done
  pub kept : Tells new.rows (rows after.desk.history)
  pub legal_after : IsLegal chairs after.desk.history
  -- each publication belongs to one edition, and is best under its rules
  pub best : EachBest after.desk.history
  -- these bytes were given, and for them these were written
  pub given : Added old.given new.given bytes
  pub written : Added old.taken new.taken out
  pub ended : over ≡ true → told new.left ≡ []
  pub wrote : Wrote MOST_STREAM_BYTES over bytes trail end out

-- no byte was read, and no row has changed
pub record IsUnserved (old new : Outside) : Type 0 where
  pub given : new.given ≡ old.given
  pub left : new.left ≡ old.left
  pub rows : SameRows old.rows new.rows

-- nor was any byte written
abbrev pub IsUntouched : Outside → Outside → Type 0
IsUntouched old new = IsUnserved old new × (new.taken ≡ old.taken)

-- the line of a damaged row, by its place
unfoldable pub damage_line : ℕ → List ℕ
damage_line place = one_number (codes "damaged row ") place

-- the rows are damaged at this place, where they are told
abbrev pub IsDamagedAt : Outside → Outside → ℕ → Type 0
IsDamagedAt old new place = IsSome new.rows → IsDamaged (told_rows old.rows) place

-- the desk wasn't opened: a row is damaged, the keeper failed, or memory was wanting
abbrev pub IsUnopened : Status → Outside → Outside → Type 0
IsUnopened status.Damaged old new = IsUnserved old new × ((place : ℕ) × IsDamagedAt old new place × Written (told old.taken) new.taken (damage_line place))
IsUnopened status.WriteFault old new = IsUnserved old new × ((place : ℕ) × IsDamagedAt old new place × FrontWritten (told old.taken) new.taken (damage_line place))
IsUnopened status.KeeperFault old new = IsUntouched old new
IsUnopened status.Memory old new = IsUntouched old new
IsUnopened other old new = ⊥

-- the status of a stream that has ended; a session always answers, so that its stream isn't spent
abbrev pub status_at : StreamEnd → Status
status_at ends.Done = status.Done
status_at ends.Refused = status.Refused
status_at ends.ReadFault = status.ReadFault
status_at ends.WriteFault = status.WriteFault
status_at ends.Memory = status.Memory
status_at ends.Spent = status.Memory

-- the stream was served, and the status is that of its end
abbrev pub IsServed : Status → List (List ℕ) → Outside → Outside → Type 0
IsServed result chairs old new = (end : StreamEnd) × (result ≡ status_at end) × IsSession chairs old new end

-- what a session does, by the status
abbrev pub Sessions : Status → List (List ℕ) → Outside → Outside → Type 0
Sessions result chairs old new = IsServed result chairs old new ⊎ IsUnopened result old new
