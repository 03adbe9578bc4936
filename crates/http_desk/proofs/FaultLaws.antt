-- Statuses of replies: 503 is for a keeper's fault alone, and 200 for what is accepted.
use Rattle.std.proofs.Common.{◌≡◌, ◌∙◌, ◌==◌, ℕ, ◌+◌, ◌<◌, ◌≤◌, Bool, true, false, cond, List, [], ◌∷◌, Result, Ok, Err, IsErrOf, inl, inr, refl, sym, ap, arith, ◌⊎◌}
use Rattle.std.proofs.lemmas.Bool.{false≢true}
use Rattle.std.specs.Prelude.{if◌then◌else◌, ⊤}
use Rattle.edge_io.specs.Counts.{Rose}
use Rattle.http_messages.specs.Replies.{ReplyValue}
use Rattle.http_stream.specs.Exchanges.{Exchange, Trail}
use Rattle.http_stream.specs.declared.handler.HandleFault.{HandleFault}
use Rattle.http_stream.specs.declared.handler.HandleFault.TheVariants as faults
use Rattle.desk_history.specs.declared.refusals.Refusal.{Refusal}
use Rattle.desk_history.specs.declared.refusals.Refusal.TheVariants as refusal
use Rattle.desk_history.specs.declared.replies.Answered.{Answered}
use Rattle.desk_history.specs.declared.replies.Answered.TheVariants as answered
use Rattle.desk_history.specs.Courses.{Does}
use Rattle.desk_history.specs.Histories.{History}
use Rattle.desk_history.specs.Looks.{Step}
use Rattle.desk_history.specs.Steps.{Explains, step}
use Rattle.desk_replies.specs.Accepted.{reply_of_answer}
use Rattle.desk_replies.specs.Refusals.{reply_of_refusal, status_of}
use Rattle.desk_replies.specs.Replies.{reply_of}
use Rattle.desk_routes.specs.Asking.{asked_of}
use Rattle.desk_routes.specs.Faults.{reply_of as reply_of_route}
use Rattle.desk_routes.specs.declared.faults.RouteFault.{RouteFault}
use Rattle.desk_routes.specs.declared.faults.RouteFault.TheVariants as route
use Rattle.desk_routes.specs.declared.places.Asked.{Asked}
use Rattle.desk_routes.specs.declared.places.Routes.{Routes}
use Rattle.http_desk.specs.Hosts.{Passes, PassesOn}
use Rattle.http_desk.specs.Laws.{IsDefined, RoseBy, has_status, replies_with}
use Rattle.http_desk.specs.Sessions.{Serves, SessionValue}

-- ---- 200

answer_status : (reply : Answered) → (reply_of_answer reply).status ≡ 200
answer_status (answered.Edited edition) = refl
answer_status (answered.Submitted job) = refl
answer_status (answered.Published publication) = refl
answer_status (answered.Drawn publication ticket) = refl
answer_status (answered.Edition edition) = refl
answer_status (answered.Rules value) = refl
answer_status (answered.Job job edition mode outcome) = refl
answer_status (answered.Certificate certificate) = refl
answer_status (answered.Pairs pairs) = refl
answer_status (answered.Taken given) = refl
answer_status (answered.Finished job outcome) = refl
answer_status (answered.Released job) = refl

-- whether a refusal is a keeper's fault
abbrev is_failure : Refusal → Bool
is_failure refusal.KeeperFault = true
is_failure other = false

refusal_503 : (why : Refusal) → (status_of why == 503) ≡ is_failure why
unfolding status_of
refusal_503 refusal.UnknownChair = refl
refusal_503 (refusal.IdReused entry) = refl
refusal_503 (refusal.OtherBase now) = refl
refusal_503 (refusal.Import row code) = refl
refusal_503 (refusal.Limit fault) = refl
refusal_503 refusal.UnknownJob = refl
refusal_503 refusal.NotDone = refl
refusal_503 (refusal.Stale now) = refl
refusal_503 refusal.NotCertified = refl
refusal_503 (refusal.AlreadyPublished number) = refl
refusal_503 refusal.UnknownPublication = refl
refusal_503 (refusal.AlreadyDrawn ticket) = refl
refusal_503 refusal.NoJob = refl
refusal_503 (refusal.BenchFull job) = refl
refusal_503 refusal.BenchEmpty = refl
refusal_503 refusal.BadTicket = refl
refusal_503 (refusal.HistoryFull commands bytes) = refl
refusal_503 refusal.KeeperFault = refl
refusal_503 refusal.Memory = refl

refusal_200 : (why : Refusal) → (status_of why == 200) ≡ false
unfolding status_of
refusal_200 refusal.UnknownChair = refl
refusal_200 (refusal.IdReused entry) = refl
refusal_200 (refusal.OtherBase now) = refl
refusal_200 (refusal.Import row code) = refl
refusal_200 (refusal.Limit fault) = refl
refusal_200 refusal.UnknownJob = refl
refusal_200 refusal.NotDone = refl
refusal_200 (refusal.Stale now) = refl
refusal_200 refusal.NotCertified = refl
refusal_200 (refusal.AlreadyPublished number) = refl
refusal_200 refusal.UnknownPublication = refl
refusal_200 (refusal.AlreadyDrawn ticket) = refl
refusal_200 refusal.NoJob = refl
refusal_200 (refusal.BenchFull job) = refl
refusal_200 refusal.BenchEmpty = refl
refusal_200 refusal.BadTicket = refl
refusal_200 (refusal.HistoryFull commands bytes) = refl
refusal_200 refusal.KeeperFault = refl
refusal_200 refusal.Memory = refl

-- no refusal has the status 200
pub refused_not : {P : Type 0} (why : Refusal) → (reply_of_refusal why).status ≡ 200 → P
refused_not why is = absurd (false≢true (sym (refusal_200 why) ∙ ap (λ n. n == 200) is))

-- ---- 503

failed : (why : Refusal) → is_failure why ≡ true → IsErrOf {T = Answered} (Err why) refusal.KeeperFault
failed refusal.KeeperFault is = refl
failed refusal.UnknownChair is = absurd (false≢true is)
failed (refusal.IdReused entry) is = absurd (false≢true is)
failed (refusal.OtherBase now) is = absurd (false≢true is)
failed (refusal.Import row code) is = absurd (false≢true is)
failed (refusal.Limit fault) is = absurd (false≢true is)
failed refusal.UnknownJob is = absurd (false≢true is)
failed refusal.NotDone is = absurd (false≢true is)
failed (refusal.Stale now) is = absurd (false≢true is)
failed refusal.NotCertified is = absurd (false≢true is)
failed (refusal.AlreadyPublished number) is = absurd (false≢true is)
failed refusal.UnknownPublication is = absurd (false≢true is)
failed (refusal.AlreadyDrawn ticket) is = absurd (false≢true is)
failed refusal.NoJob is = absurd (false≢true is)
failed (refusal.BenchFull job) is = absurd (false≢true is)
failed refusal.BenchEmpty is = absurd (false≢true is)
failed refusal.BadTicket is = absurd (false≢true is)
failed (refusal.HistoryFull commands bytes) is = absurd (false≢true is)
failed refusal.Memory is = absurd (false≢true is)

-- a reply with the status 503 is that to a keeper's fault
reply_failed : (result : Result Answered Refusal) → ((reply_of result).status == 503) ≡ true → IsErrOf result refusal.KeeperFault
reply_failed (Ok reply) is = absurd (false≢true (ap (λ n. n == 503) (sym (answer_status reply)) ∙ is))
reply_failed (Err why) is = failed why (sym (refusal_503 why) ∙ is)

counted : (test : Bool) (before now : ℕ) → before ≤ now → (test ≡ true → Rose before now) → RoseBy before (if test then 1 else 0) now
counted true before now later rose = rose refl
counted false before now later rose = omega (arith, later)

never_counted : (test : Bool) (before now : ℕ) → test ≡ false → now ≡ before → RoseBy before (if test then 1 else 0) now
never_counted test before now is same = rw is (omega (arith, same))

then_counted : (before middle now first second : ℕ) → before ≤ middle → RoseBy before first middle → RoseBy middle second now → RoseBy before (first + second) now
then_counted before middle now first second later one two = omega (arith, later, one, two)

served_counted : (old : SessionValue) (asked : Asked) (reply : Result ReplyValue HandleFault) (new : SessionValue) → Serves old asked reply new
    → RoseBy old.faults (if has_status 503 reply then 1 else 0) new.faults
served_counted old asked (Ok reply) new serves =
    counted (reply.status == 503) old.faults new.faults serves.later
    (λ is. serves.fault (reply_failed serves.result (ap (λ (r : ReplyValue). r.status == 503) (sym serves.reply) ∙ is)))
served_counted old asked (Err fault) new serves = omega (arith, serves.later)

route_counted : (fault : RouteFault) → ((reply_of_route fault).status == 503) ≡ false
route_counted route.NoRoute = refl
route_counted (route.BadMethod allow) = refl
route_counted route.BadChair = refl
route_counted route.BadNumber = refl
route_counted route.BadBase = refl

same_faults : (old new : SessionValue) → new ≡ old → new.faults ≡ old.faults
same_faults old new is = ap (λ (s : SessionValue). s.faults) is

passed_counted : (old : SessionValue) (due : Result Asked RouteFault) (reply : Result ReplyValue HandleFault) (new : SessionValue) → PassesOn Serves old due reply new
    → RoseBy old.faults (if has_status 503 reply then 1 else 0) new.faults
passed_counted old (Ok asked) reply new (inl serves) = served_counted old asked reply new serves
passed_counted old (Ok asked) (Ok reply) new (inr unasked) = let wrong = unasked.0 in absurd cc
passed_counted old (Ok asked) (Err fault) new (inr unasked) = never_counted false old.faults new.faults refl (same_faults old new unasked.1)
passed_counted old (Err fault) (Ok reply) new refused =
    never_counted (reply.status == 503) old.faults new.faults (ap (λ (r : ReplyValue). r.status == 503) refused.0 ∙ route_counted fault) (same_faults old new refused.1)
passed_counted old (Err fault) (Err other) new refused = never_counted false old.faults new.faults refl (same_faults old new refused.1)

passed_later : (old : SessionValue) (due : Result Asked RouteFault) (reply : Result ReplyValue HandleFault) (new : SessionValue) → PassesOn Serves old due reply new → old.faults ≤ new.faults
passed_later old (Ok asked) reply new (inl serves) = serves.later
passed_later old (Ok asked) reply new (inr unasked) = omega (arith, same_faults old new unasked.1)
passed_later old (Err fault) reply new refused = omega (arith, same_faults old new refused.1)

-- there are no more replies with the status 503 than the keeper has failed
pub unavailable : (routes : Routes) (start : SessionValue) (trail : List Exchange) (end : SessionValue) → Trail (Passes Serves routes) start trail end → RoseBy start.faults (replies_with 503 trail) end.faults
unavailable routes start [] end is = omega (arith, same_faults start end is)
unavailable routes start (exchange ∷ more) end (next, now, later) =
    then_counted start.faults next.faults end.faults (if has_status 503 exchange.answer then 1 else 0) (replies_with 503 more)
    (passed_later start (asked_of routes exchange.request) exchange.answer next now) (passed_counted start (asked_of routes exchange.request) exchange.answer next now) (unavailable routes next more end later)

-- ---- what is answered where the keeper doesn't fail

explained : (asked : Step) (why : Refusal) → (IsErrOf {T = Answered} (Err why) refusal.KeeperFault → ⊥) → Explains asked why → (let result : Result Answered Refusal = Err why in (result ≡ asked.reply) ⊎ (result ≡ Err refusal.Memory))
explained asked refusal.Memory sure is = inr refl
explained asked refusal.KeeperFault sure is = absurd (sure refl)
explained asked why sure is = inl (sym is)

answered_so : (asked : Step) (H next : History) (result : Result Answered Refusal) → (IsErrOf result refusal.KeeperFault → ⊥) → Does asked H result next
    → (result ≡ asked.reply) ⊎ (result ≡ Err refusal.Memory)
answered_so asked H next (Ok reply) sure does = inl (sym does.0)
answered_so asked H next (Err why) sure does = explained asked why sure does.0

pub defined : (old : SessionValue) (asked : Asked) (reply : Result ReplyValue HandleFault) (new : SessionValue) (serves : Serves old asked reply new) → (Rose old.faults new.faults → ⊥) → IsDefined serves
defined old asked reply new serves still =
    answered_so (step old.desk.chairs old.desk.history serves.request) old.desk.history new.desk.history serves.result (λ is. still (serves.fault is)) serves.does
