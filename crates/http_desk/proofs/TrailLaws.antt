-- Trails of one kind as trails of another.
use Rattle.std.proofs.Common.{◌≡◌, List, [], ◌∷◌, Result, Ok, Err, inl, inr, refl, subst, sym, ap}
use Rattle.http_messages.specs.Replies.{ReplyValue}
use Rattle.http_messages.specs.Requests.{RequestValue}
use Rattle.http_stream.specs.Exchanges.{Exchange, Trail}
use Rattle.http_stream.specs.declared.handler.HandleFault.{HandleFault}
use Rattle.desk_routes.specs.Asking.{asked_of}
use Rattle.desk_routes.specs.declared.faults.RouteFault.{RouteFault}
use Rattle.desk_routes.specs.declared.places.Asked.{Asked}
use Rattle.desk_routes.specs.declared.places.Routes.{Routes}
use Rattle.http_desk.specs.Hosts.{Passes, PassesOn}

-- what a request does to a state
abbrev pub Deed : Type 0 → Type 1
Deed State = State → RequestValue → Result ReplyValue HandleFault → State → Type 0

-- what is asked does to a state
abbrev pub Act : Type 0 → Type 1
Act State = State → Asked → Result ReplyValue HandleFault → State → Type 0

-- where each step of one kind is a step of another, and keeps a fact, a trail is one of the other kind, and the fact holds at its end
pub trail_map : {A B : Type 0} (does : Deed A) (other : Deed B) (fixed : A → Type 0) (view : A → B)
    → ((old : A) (request : RequestValue) (answer : Result ReplyValue HandleFault) (new : A) → fixed old → does old request answer new → fixed new × other (view old) request answer (view new))
    → (start : A) (trail : List Exchange) (end : A) → fixed start → Trail does start trail end → fixed end × Trail other (view start) trail (view end)
trail_map does other fixed view step start [] end holds is = (subst fixed (sym is) holds, ap view is)
trail_map does other fixed view step start (exchange ∷ more) end holds (next, now, later) =
    let here = step start exchange.request exchange.answer next holds now in
    let rest = trail_map does other fixed view step next more end here.0 later in
    (rest.0, (view next, here.1, rest.1))

-- a fact that each step keeps
pub trail_keeps : {A : Type 0} (does : Deed A) (fixed : A → Type 0)
    → ((old : A) (request : RequestValue) (answer : Result ReplyValue HandleFault) (new : A) → fixed old → does old request answer new → fixed new)
    → (start : A) (trail : List Exchange) (end : A) → fixed start → Trail does start trail end → fixed end
trail_keeps does fixed step start [] end holds is = subst fixed (sym is) holds
trail_keeps does fixed step start (exchange ∷ more) end holds (next, now, later) =
    trail_keeps does fixed step next more end (step start exchange.request exchange.answer next holds now) later

passes_on : {A B : Type 0} (does : Act A) (other : Act B) (fixed : A → Type 0) (view : A → B)
    → ((old : A) (asked : Asked) (answer : Result ReplyValue HandleFault) (new : A) → fixed old → does old asked answer new → fixed new × other (view old) asked answer (view new))
    → (old : A) (due : Result Asked RouteFault) (answer : Result ReplyValue HandleFault) (new : A) → fixed old → PassesOn does old due answer new
    → fixed new × PassesOn other (view old) due answer (view new)
passes_on does other fixed view step old (Ok asked) answer new holds (inl now) = let here = step old asked answer new holds now in (here.0, inl here.1)
passes_on does other fixed view step old (Ok asked) answer new holds (inr unasked) = (subst fixed (sym unasked.1) holds, inr (unasked.0, ap view unasked.1))
passes_on does other fixed view step old (Err fault) answer new holds refused = (subst fixed (sym refused.1) holds, (refused.0, ap view refused.1))

-- the same of the requests that a host is asked
pub passes_map : {A B : Type 0} (does : Act A) (other : Act B) (fixed : A → Type 0) (view : A → B)
    → ((old : A) (asked : Asked) (answer : Result ReplyValue HandleFault) (new : A) → fixed old → does old asked answer new → fixed new × other (view old) asked answer (view new))
    → (routes : Routes) (start : A) (trail : List Exchange) (end : A) → fixed start → Trail (Passes does routes) start trail end
    → fixed end × Trail (Passes other routes) (view start) trail (view end)
passes_map does other fixed view step routes start trail end holds is =
    trail_map (Passes does routes) (Passes other routes) fixed view
    (λ old request answer new holds now. passes_on does other fixed view step old (asked_of routes request) answer new holds now) start trail end holds is

unmoved : {A : Type 0} (does : Act A) (fixed : A → Type 0) → ((old : A) (asked : Asked) (answer : Result ReplyValue HandleFault) (new : A) → fixed old → does old asked answer new → fixed new)
    → (old : A) (due : Result Asked RouteFault) (answer : Result ReplyValue HandleFault) (new : A) → fixed old → PassesOn does old due answer new → fixed new
unmoved does fixed step old (Ok asked) answer new holds (inl now) = step old asked answer new holds now
unmoved does fixed step old (Ok asked) answer new holds (inr unasked) = subst fixed (sym unasked.1) holds
unmoved does fixed step old (Err fault) answer new holds refused = subst fixed (sym refused.1) holds

-- a fact that each step of a host keeps
pub passes_keep : {A : Type 0} (does : Act A) (fixed : A → Type 0) → ((old : A) (asked : Asked) (answer : Result ReplyValue HandleFault) (new : A) → fixed old → does old asked answer new → fixed new)
    → (routes : Routes) (start : A) (trail : List Exchange) (end : A) → fixed start → Trail (Passes does routes) start trail end → fixed end
passes_keep does fixed step routes start trail end holds is =
    trail_keeps (Passes does routes) fixed (λ old request answer new holds now. unmoved does fixed step old (asked_of routes request) answer new holds now) start trail end holds is
