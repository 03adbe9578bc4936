-- What was acknowledged in a session was accepted, and stays so.
use Rattle.std.proofs.Common.{◌≡◌, ◌∙◌, ℕ, List, [], ◌∷◌, All, Option, Some, Result, Ok, Err, inl, inr, refl, subst, sym, ap, arith}
use Rattle.std.proofs.lemmas.List.Elements.{All-cons}
use Rattle.http_messages.specs.Replies.{ReplyValue}
use Rattle.http_messages.specs.Requests.{RequestValue}
use Rattle.http_stream.specs.Exchanges.{Exchange, Trail}
use Rattle.http_stream.specs.declared.handler.HandleFault.{HandleFault}
use Rattle.http_stream.specs.declared.handler.HandleFault.TheVariants as faults
use Rattle.desk_keeper.specs.declared.words.Named.{Named}
use Rattle.desk_history.specs.declared.refusals.Refusal.{Refusal}
use Rattle.desk_history.specs.declared.replies.Answered.{Answered}
use Rattle.desk_history.specs.declared.requests.Request.{Request}
use Rattle.desk_history.specs.declared.requests.Request.TheVariants as request
use Rattle.desk_history.specs.Courses.{Does}
use Rattle.desk_history.specs.Histories.{Earlier, History, kept}
use Rattle.desk_history.specs.Steps.{answered_by, step}
use Rattle.desk_replies.specs.Accepted.{reply_of_answer}
use Rattle.desk_replies.specs.Replies.{reply_of}
use Rattle.desk_routes.specs.Asking.{asked_of}
use Rattle.desk_routes.specs.declared.faults.RouteFault.{RouteFault}
use Rattle.desk_routes.specs.declared.places.Asked.{Asked}
use Rattle.desk_routes.specs.declared.places.Asked.TheVariants as asked
use Rattle.desk_routes.specs.declared.places.Routes.{Routes}
use Rattle.http_desk.specs.Hosts.{Passes, PassesOn}
use Rattle.http_desk.specs.Laws.{Acknowledges, GoesOn, IsAcknowledged}
use Rattle.http_desk.specs.Sessions.{IsAskedAs, Serves, SessionValue}
use Rattle.http_desk.proofs.FaultLaws.{refused_not}
use Rattle.http_desk.proofs.KeptLaws.{IsAnswered, command_answered, goes_not, goes_step, goes_then, kept_stays}
use Rattle.http_desk.proofs.TrailLaws.{passes_keep}

-- ---- the history goes on

goes_served : (H : History) (old : SessionValue) (asked : Asked) (answer : Result ReplyValue HandleFault) (new : SessionValue) → GoesOn H old.desk.history → Serves old asked answer new → GoesOn H new.desk.history
goes_served H old asked answer new before serves =
    goes_then H old.desk.history new.desk.history before (goes_step (step old.desk.chairs old.desk.history serves.request) old.desk.history serves.result new.desk.history serves.does)

pub goes_on : (routes : Routes) (start : SessionValue) (trail : List Exchange) (end : SessionValue) → Trail (Passes Serves routes) start trail end → GoesOn start.desk.history end.desk.history
goes_on routes start trail end is =
    passes_keep Serves (λ (s : SessionValue). GoesOn start.desk.history s.desk.history) (λ old asked answer new before serves. goes_served start.desk.history old asked answer new before serves)
    routes start trail end (goes_not start.desk.history) is

-- ---- what was acknowledged

still : (its : Named) (reply : ReplyValue) (old : SessionValue) (asked : Asked) (answer : Result ReplyValue HandleFault) (new : SessionValue) → IsAcknowledged old.desk.history its reply → Serves old asked answer new
    → IsAcknowledged new.desk.history its reply
still its reply old asked answer new before serves = record {
  earlier = before.earlier;
  there = kept_stays old.desk.chairs old.desk.history serves.request serves.result new.desk.history its.caller its.number before.earlier serves.does before.there;
  same = before.same;
  body = before.body;
}

by_answer : (H : History) (its : Named) (answered : Answered) (reply : ReplyValue) → IsAnswered H its answered → reply ≡ reply_of_answer answered → IsAcknowledged H its reply
by_answer H its answered reply is same = record {
  earlier = is.earlier;
  there = is.there;
  same = is.same;
  body = same ∙ ap reply_of_answer is.body;
}

by_result : (chairs : List (List ℕ)) (H : History) (its : Named) (result : Result Answered Refusal) (next : History) (reply : ReplyValue) → Does (step chairs H (request.Do its)) H result next
    → reply ≡ reply_of result → reply.status ≡ 200 → IsAcknowledged next its reply
by_result chairs H its (Ok answered) next reply does is status = by_answer next its answered reply (command_answered chairs H its answered next does) is
by_result chairs H its (Err why) next reply does is status = refused_not why (ap (λ (r : ReplyValue). r.status) (sym is) ∙ status)

served : (old : SessionValue) (its : Named) (reply : ReplyValue) (new : SessionValue) → Serves old (asked.Do its) (Ok reply) new → reply.status ≡ 200 → IsAcknowledged new.desk.history its reply
served old its reply new serves status =
    by_result old.desk.chairs old.desk.history its serves.result new.desk.history reply
    (subst (λ (q : Request). Does (step old.desk.chairs old.desk.history q) old.desk.history serves.result new.desk.history) serves.is serves.does) serves.reply status

passed : (old : SessionValue) (its : Named) (reply : ReplyValue) (new : SessionValue) → PassesOn Serves old (Ok (asked.Do its)) (Ok reply) new → reply.status ≡ 200 → IsAcknowledged new.desk.history its reply
passed old its reply new (inl serves) status = served old its reply new serves status
passed old its reply new (inr unasked) status = let wrong = unasked.0 in absurd cc

acknowledges : (routes : Routes) (start : SessionValue) (exchange : Exchange) (next : SessionValue) → Passes Serves routes start exchange.request exchange.answer next → Acknowledges next.desk.history routes exchange
acknowledges routes start exchange next now its reply asks answers status =
    passed start its reply next
    (subst (λ (a : Result ReplyValue HandleFault). PassesOn Serves start (Ok (asked.Do its)) a next) answers
    (subst (λ (due : Result Asked RouteFault). PassesOn Serves start due exchange.answer next) asks now)) status

-- each acknowledged command is accepted at the end
pub acknowledged : (routes : Routes) (start : SessionValue) (trail : List Exchange) (end : SessionValue) → Trail (Passes Serves routes) start trail end → All (Acknowledges end.desk.history routes) trail
acknowledged routes start [] end is = λ k d lt. absurd (omega arith)
acknowledged routes start (exchange ∷ more) end (next, now, later) =
    All-cons (Acknowledges end.desk.history routes) exchange more
    (λ its reply asks answers status.
    passes_keep Serves (λ (s : SessionValue). IsAcknowledged s.desk.history its reply) (λ old asked answer new before serves. still its reply old asked answer new before serves)
    routes next more end (acknowledges routes start exchange next now its reply asks answers status) later)
    (acknowledged routes next more end later)
