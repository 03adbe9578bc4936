-- What holds of each session.
use Rattle.std.proofs.Common.{◌≡◌, ◌∙◌, ℕ, ◌-◌, Bool, true, false, List, [], ◌∷◌, length, Result, Ok, Err, inl, inr, refl, subst}
use Rattle.http_messages.specs.Replies.{ReplyValue, reply_text}
use Rattle.http_stream.specs.Exchanges.{Exchange, Trail, memory_text}
use Rattle.http_stream.specs.Streams.{Answered, Follows, Replied, Wrote}
use Rattle.http_stream.specs.declared.ending.StreamEnd.{StreamEnd}
use Rattle.http_stream.specs.declared.ending.StreamEnd.TheVariants as ends
use Rattle.http_stream.specs.declared.handler.HandleFault.{HandleFault}
use Rattle.http_stream.specs.declared.handler.HandleFault.TheVariants as faults
use Rattle.desk_routes.specs.Asking.{asked_of}
use Rattle.desk_routes.specs.declared.faults.RouteFault.{RouteFault}
use Rattle.desk_routes.specs.declared.places.Asked.{Asked}
use Rattle.desk_routes.specs.declared.places.Routes.{Routes}
use Rattle.http_desk.specs.Hosts.{Passes, PassesOn}
use Rattle.http_desk.specs.Sessions.{Serves, SessionValue}
use Rattle.http_desk.proofs.TrailLaws.{passes_keep}

-- the chairs stay
pub chairs_stay : (routes : Routes) (start : SessionValue) (trail : List Exchange) (end : SessionValue) → Trail (Passes Serves routes) start trail end → end.desk.chairs ≡ start.desk.chairs
chairs_stay routes start trail end is =
    passes_keep Serves (λ (s : SessionValue). s.desk.chairs ≡ start.desk.chairs) (λ old asked answer new same does. does.chairs ∙ same) routes start trail end refl is

-- ---- each request is answered

not_spent : (old : SessionValue) (due : Result Asked RouteFault) (new : SessionValue) → PassesOn Serves old due (Err faults.Spent) new → ⊥
not_spent old (Ok asked) new (inl does) = does.reply
not_spent old (Ok asked) new (inr unasked) = let wrong = unasked.0 in absurd cc
not_spent old (Err fault) new refused = refused.0

replied_on : (closes : Bool) (text : List ℕ) (more : List Exchange) (out : List ℕ) (Later : List ℕ → Type 0) → ((behind : List ℕ) → Later behind → ⊥) → Replied closes text more ends.Spent out Later → ⊥
replied_on true text more out Later none (inl (behind, is, follows)) = let wrong = follows.1 in absurd cc
replied_on false text more out Later none (inl (behind, is, follows)) = none behind follows
replied_on closes text more out Later none (inr failed) = let wrong = failed.1 in absurd cc

answered_on : (closes : Bool) (answer : Result ReplyValue HandleFault) (more : List Exchange) (out : List ℕ) (Later : List ℕ → Type 0) → (answer ≡ Err faults.Spent → ⊥)
    → ((behind : List ℕ) → Later behind → ⊥) → Answered closes answer more ends.Spent out Later → ⊥
answered_on closes (Ok reply) more out Later other none is = replied_on closes (reply_text reply closes) more out Later none is
answered_on closes (Err faults.Memory) more out Later other none is = replied_on closes (memory_text closes) more out Later none is
answered_on closes (Err faults.Spent) more out Later other none is = other refl

-- no session ends without a reply to a request that was asked
pub unspent : (routes : Routes) (room : ℕ) (over : Bool) (bytes : List ℕ) (start : SessionValue) (trail : List Exchange) (end : SessionValue) (out : List ℕ)
    → Trail (Passes Serves routes) start trail end → Wrote room over bytes trail ends.Spent out → ⊥
unspent routes room over bytes start [] end out is wrote = wrote
unspent routes room over bytes start (exchange ∷ more) end out (next, now, later) (due, closes, rest, text, front, written, answered) =
    answered_on closes exchange.answer more text (λ behind. Wrote (room - (length bytes - length rest)) over rest more ends.Spent behind)
    (λ spent. not_spent start (asked_of routes exchange.request) next (subst (λ (a : Result ReplyValue HandleFault). Passes Serves routes start exchange.request a next) spent now))
    (λ behind wrote. unspent routes (room - (length bytes - length rest)) over rest next more end behind later wrote) answered
