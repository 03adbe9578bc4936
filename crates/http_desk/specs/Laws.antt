-- What a session leaves behind, in the words of those who sent it requests.
use Rattle.std.specs.Prelude.{◌≡◌, ℕ, ◌+◌, ◌-◌, ◌^◌, ◌≤◌, min, ◌==◌, Bool, false, if◌then◌else◌, List, [], ◌∷◌, ◌++◌, slice_get, Option, Some, Result, Ok, Err, ◌⊎◌}
use Rattle.http_messages.specs.Replies.{ReplyValue}
use Rattle.http_stream.specs.Exchanges.{Exchange}
use Rattle.http_stream.specs.declared.handler.HandleFault.{HandleFault}
use Rattle.desk_keeper.specs.Rows.{row_of}
use Rattle.desk_keeper.specs.declared.words.Named.{Named}
use Rattle.desk_history.specs.declared.entries.Entry.{Entry}
use Rattle.desk_history.specs.declared.refusals.Refusal.{Refusal}
use Rattle.desk_history.specs.declared.refusals.Refusal.TheVariants.{Memory}
use Rattle.desk_history.specs.declared.replies.Answered.{Answered}
use Rattle.desk_history.specs.Histories.{Earlier, History, kept}
use Rattle.desk_history.specs.Rows.{named, rows}
use Rattle.desk_history.specs.Steps.{answered_by, step}
use Rattle.desk_replies.specs.Accepted.{reply_of_answer}
use Rattle.desk_routes.specs.Asking.{asked_of}
use Rattle.desk_routes.specs.declared.places.Asked.{Asked}
use Rattle.desk_routes.specs.declared.places.Asked.TheVariants.{Do}
use Rattle.desk_routes.specs.declared.places.Routes.{Routes}
use Rattle.http_desk.specs.Sessions.{Serves, SessionValue}

-- a history that goes on from another one
abbrev pub GoesOn : History → History → Type 0
GoesOn H later = (more : List Entry) × (later ≡ more ++ H)

-- the history has accepted the command, and this is the reply to it
pub record IsAcknowledged (H : History) (its : Named) (reply : ReplyValue) : Type 0 where
  pub earlier : Earlier
  pub there : kept H its.caller its.number ≡ Some earlier
  pub same : earlier.command ≡ its.command
  pub body : reply ≡ reply_of_answer (answered_by earlier.reply)

-- where the request was a command and its reply has the status 200, the history has accepted it
abbrev pub Acknowledges : History → Routes → Exchange → Type 0
Acknowledges H routes exchange =
    (its : Named) (reply : ReplyValue) → asked_of routes exchange.request ≡ Ok (Do its) → exchange.answer ≡ Ok reply → reply.status ≡ 200 → IsAcknowledged H its reply

-- the row of an accepted command, at its place among the rows
abbrev pub HasRow : History → List ℕ → ℕ → Earlier → Type 0
HasRow H caller number earlier = (lottery : List ℕ) × (slice_get (rows H) earlier.place ≡ Some (row_of (named caller number earlier.command) lottery))

abbrev pub has_status : ℕ → Result ReplyValue HandleFault → Bool
has_status status (Ok reply) = reply.status == status
has_status status (Err fault) = false

-- how many of the replies have a status
abbrev pub replies_with : ℕ → List Exchange → ℕ
replies_with status [] = 0
replies_with status (exchange ∷ more) = (if has_status status exchange.answer then 1 else 0) + replies_with status more

-- the count rose so often, or stands where a 64-bit counter stays
abbrev pub RoseBy : ℕ → ℕ → ℕ → Type 0
RoseBy before times now = min (before + times) (2 ^ 64 - 1) ≤ now

-- what the desk answered is what its step says, or memory was wanting
abbrev pub IsDefined : {old : SessionValue} {asked : Asked} {answer : Result ReplyValue HandleFault} {new : SessionValue} → Serves old asked answer new → Type 0
IsDefined {old = old} serves =
    (serves.result ≡ (step old.desk.chairs old.desk.history serves.request).reply) ⊎ (serves.result ≡ Err Memory)
