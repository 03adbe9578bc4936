-- Histories: what a desk has done, the newest entry first; and what follows from them.
use Rattle.std.specs.Prelude.{ℕ, ◌+◌, ◌-◌, ◌==◌, ◌&&◌, nat_lt, if◌then◌else◌, List, [], ◌∷◌, ◌++◌, map, length, bytes_eq, slice_get, slice_set, Option, Some, None, Ok, Err}
use Rattle.match_rules.specs.declared.answer.Mode.{Mode}
use Rattle.match_rules.specs.declared.rules.TheConstants.{RULES_TICKETS}
use Rattle.publication.specs.Draws.{ticket_of}
use Rattle.publication.specs.declared.certificate.Certificate.{Certificate}
use Rattle.table_edits.specs.Bodies.{Made}
use Rattle.table_edits.specs.declared.edit.How.{How}
use Rattle.table_edits.specs.declared.edit.How.TheVariants as how
use Rattle.table_edits.specs.declared.edit.TableName.{TableName}
use Rattle.table_edits.specs.declared.edit.TableName.TheVariants as table
use Rattle.venue_rules.specs.Venues.{VenueValue, empty_venue}
use Rattle.editions.specs.Edits.{venue_after}
use Rattle.desk_keeper.specs.declared.words.Command.{Command}
use Rattle.desk_keeper.specs.declared.words.Command.TheVariants.{Edit, Submit, Publish, Draw}
use Rattle.desk_keeper.specs.declared.words.EditWords.{EditWords}
use Rattle.desk_keeper.specs.declared.words.HowWords.{HowWords}
use Rattle.desk_keeper.specs.declared.words.HowWords.TheVariants as how_word
use Rattle.desk_keeper.specs.declared.words.TableWords.{TableWords}
use Rattle.desk_keeper.specs.declared.words.TableWords.TheVariants as word
use Rattle.desk_history.specs.declared.entries.Done.{Done}
use Rattle.desk_history.specs.declared.entries.Entry.{Entry}
use Rattle.desk_history.specs.declared.entries.Entry.TheVariants.{Accepted, Took, Ended, Released}
use Rattle.desk_history.specs.declared.jobs.Job.{Job}
use Rattle.desk_history.specs.declared.jobs.Publication.{Publication}
use Rattle.desk_history.specs.declared.jobs.Outcome.{Outcome}
use Rattle.desk_history.specs.declared.jobs.Outcome.TheVariants.{Waiting, Taken}
use Rattle.desk_history.specs.declared.requests.Work.{Work}
use Rattle.desk_history.specs.declared.requests.Work.TheVariants as work
use Rattle.desk_history.specs.Outcomes.{Event, Takes, Ends, Releases, Edits, Reads, after}

abbrev pub History : Type 0
History = List Entry

-- Lists whose items are numbered from 1

abbrev pub nth_of : {A : Type 0} → List A → ℕ → Option A
nth_of items number = if number == 0 then None else slice_get items (number - 1)

abbrev pub with_at : {A : Type 0} → List A → ℕ → (A → A) → Option A → List A
with_at items place change None = items
with_at items place change (Some item) = slice_set items place (change item)

-- the items with the n-th one changed; all of them as they are where there is none
abbrev pub with_nth : {A : Type 0} → List A → ℕ → (A → A) → List A
with_nth items number change = with_at items (number - 1) change (nth_of items number)

-- Editions

-- the number of accepted edits, which is that of the present edition
abbrev pub edits : History → ℕ
edits [] = 0
edits (Accepted caller number (Edit base edit) reply read ∷ H) = edits H + 1
edits (entry ∷ H) = edits H

abbrev pub table_of : TableWords → TableName
table_of word.Settings = table.Settings
table_of word.Papers = table.Papers
table_of word.Reviewers = table.Reviewers
table_of (word.Values source) = table.Values source
table_of word.Bids = table.Bids
table_of word.Marks = table.Marks
table_of word.Caps = table.Caps

abbrev pub how_of : HowWords → How
how_of how_word.Merge = how.Merge
how_of how_word.Replace = how.Replace

-- the venue after an edit, or the row at fault
abbrev pub put : VenueValue → EditWords → Made VenueValue
put venue edit = venue_after venue (table_of edit.table) (how_of edit.how) edit.body

-- the venue that was made, or else the one before
abbrev pub made_or : VenueValue → Made VenueValue → VenueValue
made_or before (Ok venue) = venue
made_or before (Err fault) = before

-- the venue of the present edition: that of the accepted edits, one after the other, from the empty one
abbrev pub present : History → VenueValue
present [] = empty_venue
present (Accepted caller number (Edit base edit) reply read ∷ H) = made_or (present H) (put (present H) edit)
present (entry ∷ H) = present H

-- the venue of an edition: that of the first so many accepted edits
abbrev pub edition : History → ℕ → VenueValue
edition [] n = empty_venue
edition (Accepted caller number (Edit base edit) reply read ∷ H) n =
    if nat_lt (edits H) n then made_or (present H) (put (present H) edit) else edition H n
edition (entry ∷ H) n = edition H n

-- Benches

-- the job that a bench has: that which it took last, where it has neither ended it nor let it go
abbrev pub held : History → ℕ → Option ℕ
held [] bench = None
held (Took at job ∷ H) bench = if at == bench then Some job else held H bench
held (Ended at done ∷ H) bench = if at == bench then None else held H bench
held (Released at ∷ H) bench = if at == bench then None else held H bench
held (Accepted caller number command reply read ∷ H) bench = held H bench

-- Publications

abbrev pub drawn : ℕ → Publication → Publication
drawn ticket publication = record publication { ticket = Some ticket }

abbrev pub publications : History → List Publication
publications [] = []
publications (Accepted caller number (Publish job) reply read ∷ H) = publications H ++ (record { job = job; ticket = None }) ∷ []
publications (Accepted caller number (Draw publication text) reply read ∷ H) = with_nth (publications H) publication (drawn (ticket_of text RULES_TICKETS))
publications (entry ∷ H) = publications H

-- Jobs

abbrev pub new_job : ℕ → Mode → Job
new_job edition mode = record { edition = edition; mode = mode; outcome = Waiting; decided = None; publication = None }

abbrev pub changed : Event → Job → Job
changed event job = record job { outcome = after event job.outcome }

-- the entry at this place decides a job that is taken
abbrev pub decides : Outcome → ℕ → Option ℕ → Option ℕ
decides Taken place before = Some place
decides outcome place before = before

abbrev pub ended : Work → ℕ → Job → Job
ended done place job = record job { outcome = after (Ends done) job.outcome; decided = decides job.outcome place job.decided }

-- it has this publication; where it was read back from a row, at this place, it is certified by what was read
abbrev pub published : Option Certificate → ℕ → ℕ → Job → Job
published None place number job = record job { publication = Some number }
published (Some read) place number job = record job { outcome = after (Reads read.answer) job.outcome; decided = Some place; publication = Some number }

-- the jobs with that of a bench changed
abbrev pub with_held : List Job → Option ℕ → (Job → Job) → List Job
with_held jobs None change = jobs
with_held jobs (Some job) change = with_nth jobs job change

abbrev pub jobs : History → List Job
jobs [] = []
jobs (Accepted caller number (Edit base edit) reply read ∷ H) = map (changed (Edits (edits H + 1))) (jobs H)
jobs (Accepted caller number (Submit base mode) reply read ∷ H) = jobs H ++ new_job (edits H) mode ∷ []
jobs (Accepted caller number (Publish job) reply read ∷ H) = with_nth (jobs H) job (published read (length H) (length (publications H) + 1))
jobs (Accepted caller number (Draw publication text) reply read ∷ H) = jobs H
jobs (Took bench job ∷ H) = with_nth (jobs H) job (changed Takes)
jobs (Ended bench done ∷ H) = with_held (jobs H) (held H bench) (ended done (length H))
jobs (Released bench ∷ H) = with_held (jobs H) (held H bench) (changed Releases)

abbrev pub job_of : History → ℕ → Option Job
job_of H number = nth_of (jobs H) number

abbrev pub outcome_of : Option Job → Option Outcome
outcome_of None = None
outcome_of (Some job) = Some job.outcome

-- what a job has come to
abbrev pub outcome : History → ℕ → Option Outcome
outcome H number = outcome_of (job_of H number)

-- Evidence

-- the rules and the answer that an entry brought
abbrev pub brought_by : Entry → Option Certificate
brought_by (Accepted caller number command reply read) = read
brought_by (Took bench job) = None
brought_by (Ended bench (work.Answered certificate)) = Some certificate
brought_by (Ended bench work.OutOfMemory) = None
brought_by (Released bench) = None

-- what the entry at a place, from 0, brought
abbrev pub brought_at : History → Option ℕ → Option Certificate
brought_at H None = None
brought_at [] (Some place) = None
brought_at (entry ∷ H) (Some place) = if place == length H then brought_by entry else brought_at H (Some place)

-- the rules of a job that was decided, and its answer
abbrev pub evidence : History → Job → Option Certificate
evidence H job = brought_at H job.decided

-- Commands

-- the number of accepted commands
abbrev pub commands : History → ℕ
commands [] = 0
commands (Accepted caller number command reply read ∷ H) = commands H + 1
commands (entry ∷ H) = commands H

-- an accepted command: its place among them, from 0, and the reply that it got
pub record Earlier : Type 0 where
  pub place : ℕ
  pub command : Command
  pub reply : Done

-- the accepted command of this caller and number
abbrev pub kept : History → List ℕ → ℕ → Option Earlier
kept [] caller number = None
kept (Accepted by its command reply read ∷ H) caller number =
    if bytes_eq by caller && its == number then Some (record { place = commands H; command = command; reply = reply }) else kept H caller number
kept (entry ∷ H) caller number = kept H caller number
