-- What a request does to a host.
use Rattle.std.specs.Prelude.{◌≡◌, Result, Ok, Err, ◌⊎◌, ⊤}
use Rattle.http_messages.specs.Replies.{ReplyValue}
use Rattle.http_messages.specs.Requests.{RequestValue}
use Rattle.http_stream.specs.declared.handler.HandleFault.{HandleFault}
use Rattle.http_stream.specs.declared.handler.HandleFault.TheVariants.{Memory, Spent}
use Rattle.desk_routes.specs.Asking.{asked_of}
use Rattle.desk_routes.specs.Faults.{reply_of}
use Rattle.desk_routes.specs.declared.faults.RouteFault.{RouteFault}
use Rattle.desk_routes.specs.declared.places.Asked.{Asked}
use Rattle.desk_routes.specs.declared.places.Routes.{Routes}

-- the reply is this one, or memory was wanting for it
abbrev pub Replies : ReplyValue → Result ReplyValue HandleFault → Type 0
Replies reply (Ok given) = given ≡ reply
Replies reply (Err Memory) = ⊤
Replies reply (Err Spent) = ⊥

-- nothing was asked, since memory was wanting for the request
abbrev pub IsUnasked : {State : Type 0} → State → Result ReplyValue HandleFault → State → Type 0
IsUnasked old answer new = (answer ≡ Err Memory) × (new ≡ old)

abbrev pub PassesOn : {State : Type 0} → (State → Asked → Result ReplyValue HandleFault → State → Type 0) → State → Result Asked RouteFault → Result ReplyValue HandleFault → State → Type 0
PassesOn does old (Ok asked) answer new = does old asked answer new ⊎ IsUnasked old answer new
PassesOn does old (Err fault) answer new = Replies (reply_of fault) answer × (new ≡ old)

-- what a request asks is asked of the host once; where it is refused the host isn't asked
abbrev pub Passes : {State : Type 0} → (State → Asked → Result ReplyValue HandleFault → State → Type 0) → Routes → State → RequestValue → Result ReplyValue HandleFault → State → Type 0
Passes does routes old request answer new = PassesOn does old (asked_of routes request) answer new
