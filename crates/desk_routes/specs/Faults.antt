-- What a request that isn't served is refused with.
use Rattle.std.specs.Prelude.{◌≡◌, ℕ, List, codes, Some, Result, Ok, Err, ⊤}
use Rattle.http_messages.specs.Replies.{ReplyValue, refusal}
use Rattle.desk_routes.specs.declared.faults.AskFault.{AskFault}
use Rattle.desk_routes.specs.declared.faults.AskFault.TheVariants.{Refused, Memory}
use Rattle.desk_routes.specs.declared.faults.RouteFault.{RouteFault}
use Rattle.desk_routes.specs.declared.faults.RouteFault.TheVariants.{NoRoute, BadMethod, BadChair, BadNumber, BadBase}

abbrev pub status_of : RouteFault → ℕ
status_of NoRoute = 404
status_of (BadMethod allow) = 405
status_of BadChair = 400
status_of BadNumber = 400
status_of BadBase = 400

abbrev pub word_of : RouteFault → List ℕ
word_of NoRoute = codes "no-route"
word_of (BadMethod allow) = codes "bad-method"
word_of BadChair = codes "bad-chair"
word_of BadNumber = codes "bad-number"
word_of BadBase = codes "bad-base"

-- the refusal; where the target has another method, it names that
abbrev pub reply_of : RouteFault → ReplyValue
reply_of NoRoute = refusal 404 (codes "no-route")
reply_of (BadMethod allow) = record (refusal 405 (codes "bad-method")) { allow = Some allow }
reply_of BadChair = refusal 400 (codes "bad-chair")
reply_of BadNumber = refusal 400 (codes "bad-number")
reply_of BadBase = refusal 400 (codes "bad-base")

-- what is due came, or its fault; or memory was wanting
abbrev pub Asks : {A : Type 0} → Result A AskFault → Result A RouteFault → Type 0
Asks (Ok asked) due = due ≡ Ok asked
Asks (Err (Refused fault)) due = due ≡ Err fault
Asks (Err Memory) due = ⊤
