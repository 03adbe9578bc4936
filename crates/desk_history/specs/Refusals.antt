-- Why a command is refused: the first reason in the order of the table.
use Rattle.std.specs.Prelude.{◌≡◌, ℕ, ◌+◌, ◌==◌, ◌||◌, not, nat_le, nat_lt, Bool, true, false, length, Option, Some, None, Result, Ok, Err, ⊤}
use Rattle.match_rules.specs.First.{first_of_two}
use Rattle.match_rules.specs.Rules.{RulesValue}
use Rattle.publication.specs.declared.certificate.Certificate.{Certificate}
use Rattle.table_edits.specs.Bodies.{Made}
use Rattle.editions.specs.declared.venue.Edited.{Edited}
use Rattle.venue_rules.specs.Venues.{VenueValue}
use Rattle.venue_rules.specs.VenueRules.{rules_of}
use Rattle.venue_rules.specs.declared.fault.LimitFault.{LimitFault}
use Rattle.desk_keeper.specs.declared.words.Command.{Command}
use Rattle.desk_keeper.specs.declared.words.Command.TheVariants.{Edit, Submit, Publish, Draw}
use Rattle.desk_keeper.specs.declared.words.Named.{Named}
use Rattle.desk_history.specs.declared.jobs.Job.{Job}
use Rattle.desk_history.specs.declared.jobs.Publication.{Publication}
use Rattle.desk_history.specs.declared.jobs.Outcome.{Outcome}
use Rattle.desk_history.specs.declared.jobs.Outcome.TheVariants as outcome
use Rattle.desk_history.specs.declared.refusals.Refusal.{Refusal}
use Rattle.desk_history.specs.declared.refusals.Refusal.TheVariants.{KeeperFault, Memory, OtherBase, Import, Limit, UnknownJob, NotDone, Stale, NotCertified, AlreadyPublished, UnknownPublication, AlreadyDrawn, HistoryFull}
use Rattle.desk_history.specs.declared.refusals.TheConstants.{MOST_COMMANDS, MOST_ROW_BYTES}
use Rattle.desk_history.specs.Outcomes.{Reads, after}
use Rattle.desk_history.specs.Histories.{History, commands, edits, job_of, nth_of, present, publications, put}
use Rattle.desk_history.specs.Rows.{bytes, row_behind}

-- this refusal where the test holds
abbrev pub refuse_if : Bool → Refusal → Option Refusal
refuse_if true refusal = Some refusal
refuse_if false refusal = None

-- the base isn't the number of the present edition
abbrev pub base_refusal : ℕ → ℕ → Option Refusal
base_refusal now base = refuse_if (not (base == now)) (OtherBase now)

abbrev pub limit_refusal : Result RulesValue LimitFault → Option Refusal
limit_refusal (Ok rules) = None
limit_refusal (Err fault) = Some (Limit fault)

-- the edit makes no venue, or one without rules
abbrev pub venue_refusal : Made VenueValue → Option Refusal
venue_refusal (Ok venue) = limit_refusal (rules_of venue)
venue_refusal (Err fault) = Some (Import fault.0 fault.1)

abbrev pub edit_refusal : ℕ → ℕ → Made VenueValue → Option Refusal
edit_refusal now base made = first_of_two (base_refusal now base) (venue_refusal made)

-- an outcome that is none yet
abbrev pub is_open : Outcome → Bool
is_open outcome.Waiting = true
is_open outcome.Taken = true
is_open other = false

-- the job was decided without a lottery
abbrev pub is_without : Outcome → Bool
is_without (outcome.Infeasible need room) = true
is_without outcome.OutOfMemory = true
is_without other = false

abbrev pub published_refusal : Option ℕ → Option Refusal
published_refusal None = None
published_refusal (Some number) = Some (AlreadyPublished number)

-- the outcome that a publish goes by: that of the job, which counts as certified by what was read with it
abbrev pub counted : Option Certificate → Outcome → Outcome
counted None outcome = outcome
counted (Some read) outcome = after (Reads read.answer) outcome

abbrev pub publishing_refusal : ℕ → Job → Outcome → Option Refusal
publishing_refusal now job come_to =
    first_of_two (refuse_if (is_open come_to) NotDone)
    (first_of_two (refuse_if (nat_lt job.edition now) (Stale now))
    (first_of_two (refuse_if (is_without come_to) NotCertified)
    (published_refusal job.publication)))

abbrev pub publish_refusal : ℕ → Option Certificate → Option Job → Option Refusal
publish_refusal now read None = Some UnknownJob
publish_refusal now read (Some job) = publishing_refusal now job (counted read job.outcome)

abbrev pub ticket_refusal : Option ℕ → Option Refusal
ticket_refusal None = None
ticket_refusal (Some ticket) = Some (AlreadyDrawn ticket)

abbrev pub draw_refusal : Option Publication → Option Refusal
draw_refusal None = Some UnknownPublication
draw_refusal (Some publication) = ticket_refusal publication.ticket

-- what a command itself is refused for
abbrev pub own_refusal : History → Command → Option Certificate → Option Refusal
own_refusal H (Edit base edit) read = edit_refusal (edits H) base (put (present H) edit)
own_refusal H (Submit base mode) read = base_refusal (edits H) base
own_refusal H (Publish job) read = publish_refusal (edits H) read (job_of H job)
own_refusal H (Draw publication text) read = draw_refusal (nth_of (publications H) publication)

-- so many commands leave no room for a further one, or the bytes of the rows with the new one are too many
abbrev pub full_refusal : ℕ → ℕ → Option Refusal
full_refusal commands bytes = refuse_if (nat_le MOST_COMMANDS commands || nat_lt MOST_ROW_BYTES bytes) (HistoryFull commands bytes)

-- why a new command is refused behind a history; `read` is what was read with it from a row
abbrev pub refusal_of : History → Named → Option Certificate → Option Refusal
refusal_of H its read = first_of_two (own_refusal H its.command read) (full_refusal (commands H) (bytes H + length (row_behind H its read)))

-- the refusal is the one that is due; want of memory may come in place of any answer, and the keeper isn't asked here
abbrev pub IsDue : Option Refusal → Refusal → Type 0
IsDue due Memory = ⊤
IsDue due KeeperFault = ⊥
IsDue due refusal = due ≡ Some refusal

-- the edit is accepted: its venue, and the rules of it
pub record MakesEdition (now base : ℕ) (made : Made VenueValue) (edited : Edited) : Type 0 where
  pub accepted : edit_refusal now base made ≡ None
  pub venue : made ≡ Ok edited.venue
  pub rules : rules_of edited.venue ≡ Ok edited.rules

-- what an edit makes, or why it is refused
abbrev pub AnswersEdit : ℕ → ℕ → Made VenueValue → Result Edited Refusal → Type 0
AnswersEdit now base made (Ok edited) = MakesEdition now base made edited
AnswersEdit now base made (Err refusal) = IsDue (edit_refusal now base made) refusal
