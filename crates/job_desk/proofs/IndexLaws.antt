-- The index of a desk follows its history.
use Rattle.std.proofs.Common.{◌≡◌, ◌∷◌, ◌∙◌, ◌==◌, ◌&&◌, ℕ, Bool, true, false, List, Option, None, Some, Result, Ok, Err, cond, ap, sym, subst, length, bytes_eq}
use Rattle.std.proofs.lemmas.Bool.{false≢true}
use Rattle.desk_keeper.specs.declared.words.Named.{Named}
use Rattle.desk_history.specs.declared.entries.Entry.{Entry}
use Rattle.desk_history.specs.declared.entries.Entry.TheVariants.{Accepted, Ended, Released, Took}
use Rattle.desk_history.specs.declared.refusals.Refusal.{Refusal}
use Rattle.desk_history.specs.declared.replies.Answered.{Answered}
use Rattle.desk_history.specs.Courses.{Does}
use Rattle.desk_history.specs.Histories.{History, commands}
use Rattle.desk_history.specs.Looks.{Step, refused}
use Rattle.desk_history.specs.Refusals.{refusal_of}
use Rattle.desk_history.specs.Steps.{AcceptsCommand, accepted, answered_by, done_of, made, new_step, refused_or, with_entry}
use Rattle.command_index.specs.declared.index.CommandPlace.{CommandPlace}
use Rattle.command_index.specs.Places.{IsIndexOf, place_in}
use Rattle.job_desk.proofs.DeskLaws.{IsQuiet}

quiet_entry : (entry : Option Entry) (H : History) (index : List ℕ → ℕ → Option CommandPlace) → (AcceptsCommand entry → ⊥) → IsIndexOf H index → IsIndexOf (with_entry entry H) index
quiet_entry None H index quiet is = is
quiet_entry (Some (Accepted caller number command reply read)) H index quiet is = absurd (quiet tt)
quiet_entry (Some (Took bench job)) H index quiet is = is
quiet_entry (Some (Ended bench done)) H index quiet is = is
quiet_entry (Some (Released bench)) H index quiet is = is

-- a step that accepts no command leaves the index right
pub quiet_index : (asked : Step) (H : History) (answer : Result Answered Refusal) (next : History) (index : List ℕ → ℕ → Option CommandPlace) → IsQuiet asked → Does asked H answer next → IsIndexOf H index → IsIndexOf next index
quiet_index asked H (Ok reply) next index quiet does is = subst (λ (h : History). IsIndexOf h index) (sym does.1) (quiet_entry asked.entry H index quiet is)
quiet_index asked H (Err refusal) next index quiet does is = subst (λ (h : History). IsIndexOf h index) (sym does.1) is

abbrev is_ok : Result Answered Refusal → Bool
is_ok (Ok reply) = true
is_ok (Err refusal) = false

refused_ok : {P : Type 0} (refusal : Refusal) (reply : Answered) (e : (let answer : Result Answered Refusal = Err refusal in answer ≡ Ok reply)) → P
refused_ok refusal reply e = absurd (false≢true (ap is_ok e))

accepted_on : (due : Option Refusal) (H : History) (its : Named) (reply : Answered) (next : History)
    → Does (refused_or due (made (answered_by (done_of H its.command)) (accepted H its None))) H (Ok reply) next → next ≡ accepted H its None ∷ H
accepted_on None H its reply next does = does.1
accepted_on (Some refusal) H its reply next does = refused_ok refusal reply does.0

-- a new command that is answered is the newest entry
pub accepted_next : (H : History) (its : Named) (reply : Answered) (next : History) → Does (new_step H its) H (Ok reply) next → next ≡ accepted H its None ∷ H
accepted_next H its reply next does = accepted_on (refusal_of H its None) H its reply next does

-- a refusal leaves the history
pub refused_next : (asked : Step) (H : History) (refusal : Refusal) (next : History) → Does asked H (Err refusal) next → next ≡ H
refused_next asked H refusal next does = does.1

-- with its place, the index is that of the history behind a command that is answered
pub accepted_index : (H : History) (its : Named) (reply : Answered) (next : History) (old new : List ℕ → ℕ → Option CommandPlace) (caller : List ℕ) (entry command : ℕ)
    → caller ≡ its.caller → entry ≡ length H → command ≡ commands H → Does (new_step H its) H (Ok reply) next → IsIndexOf H old
    → ((by : List ℕ) (number : ℕ) → new by number ≡ cond (bytes_eq caller by && its.number == number) (Some (record { entry = entry; command = command })) (old by number))
    → IsIndexOf next new
accepted_index H its reply next old new caller entry command named at behind does is put =
    subst (λ (h : History). IsIndexOf h new) (sym (accepted_next H its reply next does))
    (λ by number.
    put by number
    ∙ ap (λ name. cond (bytes_eq name by && its.number == number) (Some (record { entry = entry; command = command })) (old by number)) named
    ∙ ap (λ e. cond (bytes_eq its.caller by && its.number == number) (Some (record { entry = e; command = command })) (old by number)) at
    ∙ ap (λ k. cond (bytes_eq its.caller by && its.number == number) (Some (record { entry = length H; command = k })) (old by number)) behind
    ∙ ap (λ found. cond (bytes_eq its.caller by && its.number == number) (Some (record { entry = length H; command = commands H })) found) (is by number))
