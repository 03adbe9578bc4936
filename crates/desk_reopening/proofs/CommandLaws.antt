-- Commands that are taken up, and damage where none is.
use Rattle.std.proofs.Common.{◌≡◌, ◌∷◌, [], ◌∙◌, ℕ, List, Option, None, Some, Result, Err, MatchResult, ap, refl, subst, sym}
use Rattle.table_edits.specs.Bodies.{Made}
use Rattle.venue_rules.specs.Venues.{VenueValue}
use Rattle.editions.specs.declared.venue.Edited.{Edited}
use Rattle.publication.specs.declared.certificate.Certificate.{Certificate}
use Rattle.desk_keeper.specs.Rows.{IsRow, MayHave, MayKeep, row_of}
use Rattle.desk_keeper.specs.declared.words.Command.{Command}
use Rattle.desk_keeper.specs.declared.words.Command.TheVariants.{Edit, Submit, Publish, Draw}
use Rattle.desk_keeper.specs.declared.words.EditWords.{EditWords}
use Rattle.desk_keeper.specs.declared.words.Named.{Named}
use Rattle.desk_history.specs.declared.refusals.Refusal.{Refusal}
use Rattle.desk_history.specs.declared.tables.Tables.{Tables}
use Rattle.desk_history.specs.Histories.{History, edits, present, put}
use Rattle.desk_history.specs.Opened.{IsReadWith}
use Rattle.desk_history.specs.Refusals.{MakesEdition, edit_refusal, own_refusal}
use Rattle.desk_history.specs.Rows.{lottery_of, named, publishes, row_behind, text_of}
use Rattle.desk_history.specs.Steps.{accepted}
use Rattle.desk_history.specs.Tables.{AreTables}
use Rattle.desk_reopening.specs.declared.faults.ReplayFault.{ReplayFault}
use Rattle.desk_reopening.specs.declared.faults.ReplayFault.TheVariants.{Damaged, Memory}
use Rattle.desk_reopening.specs.Replaying.{Finds, IsAcceptedWith, IsFault, IsTheOne, Leads, TakesUp}

-- a fault of what is due is damage where each acceptance means that nothing is due
pub due_damage : (H : History) (its : Named) (text : List ℕ) (due : Option Refusal) (fault : ReplayFault) (next : History) → ((read : Option Certificate) → IsAcceptedWith H its.command text read → due ≡ None)
    → IsFault due fault → Leads (TakesUp H its text) (Err fault) next
due_damage H its text due Damaged next never fault = λ other takes. fault (never takes.read takes.is_accepted)
due_damage H its text due Memory next never fault = tt

-- where nothing is accepted the row is damaged
pub none_damage : (H : History) (its : Named) (text : List ℕ) (fault : ReplayFault) (next : History) → Finds (IsAcceptedWith H its.command text) (Err fault) → Leads (TakesUp H its text) (Err fault) next
none_damage H its text Damaged next none = λ other takes. none takes.read takes.is_accepted
none_damage H its text Memory next none = tt

-- what alone is accepted makes the next history
pub takes_one : (H : History) (its : Named) (text : List ℕ) (read : Option Certificate) (next : History) → IsTheOne (IsAcceptedWith H its.command text) read → next ≡ accepted H its read ∷ H
    → IsTheOne (TakesUp H its text) next
takes_one H its text read next one becomes = record {
  is = record { read = read; is_accepted = one.is; becomes = becomes };
  only = λ other takes. takes.becomes ∙ ap (λ (r : Option Certificate). accepted H its r ∷ H) (one.only takes.read takes.is_accepted) ∙ sym becomes;
}

-- with other commands than a publish nothing is read
pub nothing_read : (H : History) (command : Command) (text : List ℕ) → IsReadWith H command text None → ((read : Option Certificate) → IsReadWith H command text read → read ≡ None) → own_refusal H command None ≡ None
    → IsTheOne (IsAcceptedWith H command text) None
nothing_read H command text nothing never right = record { is = record { is_read = nothing; is_right = right }; only = λ other is. never other is.is_read }

-- an edit by the tables is that of the history
pub edit_due : (H : History) (tables : Tables) (base : ℕ) (edit : EditWords) → AreTables H tables → edit_refusal tables.edits base (put tables.venue edit) ≡ edit_refusal (edits H) base (put (present H) edit)
edit_due H tables base edit are = ap (λ n. edit_refusal n base (put tables.venue edit)) are.edits ∙ ap (λ (v : VenueValue). edit_refusal (edits H) base (put v edit)) are.venue

-- the text of what is read

published_text : (H : History) (job : ℕ) (text : List ℕ) (read : Option Certificate) → IsReadWith H (Publish job) text read → lottery_of H (Publish job) read ≡ text
published_text H job text read is = ap (λ (r : Option Certificate). text_of (publishes H job r)) is.read ∙ sym is.text

lottery_text : (H : History) (command : Command) (text : List ℕ) (read : Option Certificate) → MayHave command text → IsReadWith H command text read → lottery_of H command read ≡ text
lottery_text H (Edit base edit) text read may is = sym may.1
lottery_text H (Submit base mode) text read may is = sym may
lottery_text H (Publish job) text read may is = published_text H job text read is
lottery_text H (Draw publication drawn) text read may is = sym may

-- the row of an accepted command is that which it was read from
pub row_kept : (H : History) (its : Named) (text : List ℕ) (read : Option Certificate) → MayKeep its text → IsReadWith H its.command text read → row_behind H its read ≡ row_of its text
row_kept H its text read may is = ap (row_of its) (lottery_text H its.command text read may.command is)

-- the same of a publish
pub published_row : (H : History) (caller : List ℕ) (number job : ℕ) (text : List ℕ) (read : Option Certificate) → IsReadWith H (Publish job) text read → row_behind H (named caller number (Publish job)) read ≡ row_of (named caller number (Publish job)) text
published_row H caller number job text read is = ap (row_of (named caller number (Publish job))) (published_text H job text read is)
