-- What the benches were given stays at work, and may be handed in.
use Rattle.std.proofs.Common.{◌≡◌, ℕ, List, Option, None, Some, Result, Ok, Err, All, refl, subst, sym, ap, take, drop, suc}
use Rattle.std.proofs.lemmas.List.Elements.{All-weaker, All-append, All-take, All-drop}
use Rattle.std.specs.List.{remove}
use Rattle.match_rules.specs.declared.answer.Answer.{Answer}
use Rattle.publication.specs.declared.certificate.Certificate.{Certificate}
use Rattle.desk_history.specs.declared.entries.Entry.{Entry}
use Rattle.desk_history.specs.declared.refusals.Refusal.{Refusal}
use Rattle.desk_history.specs.declared.replies.Answered.{Answered}
use Rattle.desk_history.specs.declared.replies.Answered.TheVariants.{Taken}
use Rattle.desk_history.specs.declared.replies.Answered.TheVariants as answered
use Rattle.desk_history.specs.declared.replies.Snapshot.{Snapshot}
use Rattle.desk_history.specs.declared.requests.Work.{Work}
use Rattle.desk_history.specs.declared.requests.Work.TheVariants as work
use Rattle.desk_history.specs.Courses.{Does}
use Rattle.desk_history.specs.Histories.{History}
use Rattle.desk_history.specs.Laws.{IsAtWork}
use Rattle.desk_history.specs.Looks.{Step}
use Rattle.desk_history.specs.Steps.{IsRightFor, IsWorkFor, take_step, with_entry}
use Rattle.desk_history.proofs.WorkLaws.{work_right, work_stays, work_taken}
use Rattle.desk_cases.specs.declared.rooms.Given.{Given}
use Rattle.desk_cases.specs.Rooms.{IfTaken, IsMadeOf}

entry_stays : (entry : Option Entry) (H : History) (given : Snapshot) → IsAtWork H given → IsAtWork (with_entry entry H) given
entry_stays None H given at = at
entry_stays (Some entry) H given at = work_stays entry H given at

step_stays : (asked : Step) (H : History) (reply : Result Answered Refusal) (next : History) → Does asked H reply next → (given : Snapshot) → IsAtWork H given → IsAtWork next given
step_stays asked H (Ok reply) next does given at = subst (λ (h : History). IsAtWork h given) (sym does.1) (entry_stays asked.entry H given at)
step_stays asked H (Err refusal) next does given at = subst (λ (h : History). IsAtWork h given) (sym does.1) at

-- whatever is asked
pub all_stay : (asked : Step) (H : History) (reply : Result Answered Refusal) (next : History) → Does asked H reply next
    → (items : List Given) → All (λ its. IsAtWork H its.snapshot) items → All (λ its. IsAtWork next its.snapshot) items
all_stay asked H reply next does items at =
    All-weaker (λ (its : Given). IsAtWork H its.snapshot) (λ (its : Given). IsAtWork next its.snapshot) (λ its is. step_stays asked H reply next does its.snapshot is) items at

-- what a bench has just been given
pub taken_work : (H : History) (bench : ℕ) (given : Snapshot) (next : History) → Does (take_step H bench) H (Ok (Taken given)) next → IsAtWork next given
taken_work H bench given next does = step_stays (take_step H bench) H (Ok (Taken given)) next does given (work_taken H bench given does.0)

-- what was made of it may be handed in
pub made_work : (H : History) (given : Snapshot) (done : Work) → IsAtWork H given → IsMadeOf given done → IsWorkFor H given.job done
made_work H given (work.Answered certificate) at made =
    subst (λ (c : Certificate). IsRightFor H given.job c) (ap (λ rules. record { rules = rules; answer = certificate.answer }) (sym made.0)) (work_right H given certificate.answer at made.1)
made_work H given work.OutOfMemory at made = tt

-- with a job, if it was given one
pub if_taken : (H : History) (bench : ℕ) (reply : Result Answered Refusal) (next : History) → Does (take_step H bench) H reply next → IfTaken (IsAtWork next) reply
if_taken H bench (Ok (Taken given)) next does = taken_work H bench given next does
if_taken H bench (Ok (answered.Edited edition)) next does = tt
if_taken H bench (Ok (answered.Submitted job)) next does = tt
if_taken H bench (Ok (answered.Published publication)) next does = tt
if_taken H bench (Ok (answered.Drawn publication ticket)) next does = tt
if_taken H bench (Ok (answered.Edition edition)) next does = tt
if_taken H bench (Ok (answered.Rules value)) next does = tt
if_taken H bench (Ok (answered.Job job edition mode outcome)) next does = tt
if_taken H bench (Ok (answered.Certificate certificate)) next does = tt
if_taken H bench (Ok (answered.Pairs pairs)) next does = tt
if_taken H bench (Ok (answered.Finished job outcome)) next does = tt
if_taken H bench (Ok (answered.Released job)) next does = tt
if_taken H bench (Err refusal) next does = tt

-- and the others keep theirs where one gives its own away
pub all_but : (H : History) (items : List Given) (at : ℕ) (left : List Given) → left ≡ remove items at → All (λ its. IsAtWork H its.snapshot) items → All (λ its. IsAtWork H its.snapshot) left
all_but H items at left is work =
    let P : Given → Type 0 = λ its. IsAtWork H its.snapshot in
    subst (All P) (sym is) (All-append P (take at items) (drop (suc at) items) (All-take P at items work) (All-drop P (suc at) items work))
