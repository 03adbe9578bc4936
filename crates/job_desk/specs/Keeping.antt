-- What a command needs before it is kept, and what keeping it does.
use Rattle.std.specs.Prelude.{◌≡◌, ℕ, ◌+◌, ◌≤◌, ◌<◌, List, [], ◌∷◌, ◌++◌, length, None, Result, Ok, Err, Vec, is_ok, if◌then◌else◌, vec_capacity, vec_len, ⊤}
use Rattle.std.specs.declared.alloc.Global.{Global}
use Rattle.match_rules.specs.declared.rules.TheConstants.{RULES_TICKETS}
use Rattle.publication.specs.Draws.{ticket_of}
use Rattle.venue_rules.specs.VenueRules.{rules_of}
use Rattle.editions.specs.declared.venue.Edited.{Edited}
use Rattle.desk_keeper.specs.declared.words.Command.{Command}
use Rattle.desk_keeper.specs.declared.words.Command.TheVariants.{Draw, Edit}
use Rattle.desk_keeper.specs.declared.words.EditWords.{EditWords}
use Rattle.desk_keeper.specs.declared.words.Named.{Named}
use Rattle.desk_history.specs.declared.entries.Entry.{Entry}
use Rattle.desk_history.specs.declared.refusals.Refusal.{Refusal}
use Rattle.desk_history.specs.declared.refusals.Refusal.TheVariants.{KeeperFault, Memory}
use Rattle.desk_history.specs.declared.refusals.TheConstants.{MOST_COMMANDS, MOST_ROW_BYTES}
use Rattle.desk_history.specs.declared.tables.Tables.{Tables}
use Rattle.desk_history.specs.Histories.{History, present, put}
use Rattle.desk_history.specs.Refusals.{IsDue, full_refusal, refusal_of}
use Rattle.desk_history.specs.Rows.{row_behind}

-- the rows with one more, where it was kept
abbrev pub rows_after : {T E : Type 0} → Result T E → List (List ℕ) → List ℕ → List (List ℕ)
rows_after result kept row = if is_ok result then kept ++ row ∷ [] else kept

-- the text of the row, for which there is room; or the history is full
abbrev pub AnswersRow : ℕ → ℕ → List ℕ → Result (Vec ℕ Global) Refusal → Type 0
AnswersRow commands bytes text (Ok row) = (row.items ≡ text) × (full_refusal commands (bytes + length text) ≡ None)
AnswersRow commands bytes text (Err refusal) = IsDue (full_refusal commands (bytes + length text)) refusal

-- the row of a new command that is accepted, or why it is refused
abbrev pub AnswersCommand : History → Named → Result (Vec ℕ Global) Refusal → Type 0
AnswersCommand H its (Ok row) = (row.items ≡ row_behind H its None) × (refusal_of H its None ≡ None)
AnswersCommand H its (Err refusal) = IsDue (refusal_of H its None) refusal

-- there is room for a command more, with this row
abbrev pub HasRoom : ℕ → ℕ → Vec ℕ Global → Type 0
HasRoom commands bytes row = (commands < MOST_COMMANDS) × (bytes + length row.items ≤ MOST_ROW_BYTES)

-- there is room for an entry more, for the ends of all benches and for a job more
pub record HasPlace (entries : Vec Entry Global) (tables : Tables) : Type 0 where
  pub entry : vec_len entries + 17 ≤ vec_capacity entries
  pub jobs : vec_len tables.jobs < vec_capacity tables.jobs

-- a keeper fails, or memory is wanting
abbrev pub IsKeeping : Refusal → Type 0
IsKeeping Memory = ⊤
IsKeeping KeeperFault = ⊤
IsKeeping other = ⊥

-- the command draws this ticket of a publication
pub record IsDrawOf (command : Command) (publication ticket : ℕ) : Type 0 where
  pub text : List ℕ
  pub is : command ≡ Draw publication text
  pub drawn : ticket ≡ ticket_of text RULES_TICKETS

-- the command is an edit that makes this edition behind a history
pub record IsEditTo (H : History) (command : Command) (edited : Edited) : Type 0 where
  pub base : ℕ
  pub edit : EditWords
  pub is : command ≡ Edit base edit
  pub venue : put (present H) edit ≡ Ok edited.venue
  pub rules : rules_of edited.venue ≡ Ok edited.rules
