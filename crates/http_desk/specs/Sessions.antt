-- What a request does in a session.
use Rattle.std.specs.Prelude.{◌≡◌, ℕ, ◌≤◌, Option, None, Some, Result, IsErrOf}
use Rattle.edge_io.specs.Counts.{Rose}
use Rattle.http_messages.specs.Replies.{ReplyValue}
use Rattle.http_stream.specs.declared.handler.HandleFault.{HandleFault}
use Rattle.desk_history.specs.declared.refusals.Refusal.{Refusal}
use Rattle.desk_history.specs.declared.refusals.Refusal.TheVariants.{KeeperFault}
use Rattle.desk_history.specs.declared.replies.Answered.{Answered}
use Rattle.desk_history.specs.declared.requests.Look.{Look}
use Rattle.desk_history.specs.declared.requests.Look.TheVariants as look
use Rattle.desk_history.specs.declared.requests.Request.{Request}
use Rattle.desk_history.specs.declared.requests.Request.TheVariants as request
use Rattle.desk_history.specs.declared.requests.Work.{Work}
use Rattle.desk_history.specs.Courses.{Does}
use Rattle.desk_history.specs.Histories.{History, held}
use Rattle.desk_history.specs.Steps.{IsWorkFor, step}
use Rattle.desk_routes.specs.declared.places.Asked.{Asked}
use Rattle.desk_routes.specs.declared.places.Asked.TheVariants as asked
use Rattle.desk_routes.specs.declared.places.Look.{Look as RouteLook}
use Rattle.desk_routes.specs.declared.places.Look.TheVariants as route
use Rattle.desk_replies.specs.Replies.{reply_of}
use Rattle.job_desk.specs.Desks.{DeskValue}
use Rattle.http_desk.specs.Hosts.{Replies}

-- a desk, and how often its keeper has failed
pub record SessionValue : Type 0 where
  pub desk : DeskValue
  pub faults : ℕ

abbrev pub look_of : RouteLook → Look
look_of route.Edition = look.Edition
look_of route.Rules = look.Rules
look_of (route.Job job) = look.Job job
look_of (route.Answer job) = look.Answer job
look_of (route.Publication number) = look.Publication number
look_of (route.Ticket publication ticket) = look.Ticket publication ticket

-- the job or else 0, which no job is
abbrev pub job_or_none : Option ℕ → ℕ
job_or_none None = 0
job_or_none (Some job) = job

-- the job that the bench of a session has
abbrev pub job_held : History → ℕ
job_held H = job_or_none (held H 0)

-- what is asked of the desk: worker steps are those of bench 0, and a finish hands in work on the job that the bench has
abbrev pub IsAskedAs : History → Asked → Request → Type 0
IsAskedAs H (asked.Do its) asks = asks ≡ request.Do its
IsAskedAs H (asked.Look caller what) asks = asks ≡ request.Look caller (look_of what)
IsAskedAs H asked.Take asks = asks ≡ request.Take 0
IsAskedAs H asked.Finish asks = (done : Work) × IsWorkFor H (job_held H) done × (asks ≡ request.Finish 0 (job_held H) done)
IsAskedAs H asked.Release asks = asks ≡ request.Release 0

-- what is asked is asked of the desk once, whose step and reply it has; a keeper's fault comes only where its count rose
pub record Serves (old : SessionValue) (asked : Asked) (answer : Result ReplyValue HandleFault) (new : SessionValue) : Type 0 where
  pub request : Request
  pub result : Result Answered Refusal
  pub is : IsAskedAs old.desk.history asked request
  pub does : Does (step old.desk.chairs old.desk.history request) old.desk.history result new.desk.history
  pub chairs : new.desk.chairs ≡ old.desk.chairs
  pub reply : Replies (reply_of result) answer
  pub later : old.faults ≤ new.faults
  pub fault : IsErrOf result KeeperFault → Rose old.faults new.faults
