-- What a history has accepted, and how it goes on.
use Rattle.std.proofs.Common.{◌≡◌, ◌∙◌, ◌==◌, ◌&&◌, ◌≤◌, ℕ, ◌+◌, Bool, true, false, cond, List, [], ◌∷◌, ◌++◌, length, Option, None, Some, IfSome, Result, Ok, Err, refl, subst, sym, ap, zero, suc, arith, bytes_eq}
use Rattle.std.proofs.lemmas.List.{append_assoc}
use Rattle.std.proofs.lemmas.Bool.{false≢true}
use Rattle.std.proofs.lemmas.Bool.Decides.{Decides-and, Decides-eqb}
use Rattle.std.proofs.lemmas.Slice.Eq.{bytes_eq-Decides}
use Rattle.std.specs.Bool.{Decides}
use Rattle.std.specs.List.{slice_get}
use Rattle.std.specs.Prelude.{⊤}
use Rattle.http_messages.specs.Replies.{ReplyValue}
use Rattle.publication.specs.declared.certificate.Certificate.{Certificate}
use Rattle.desk_keeper.specs.Rows.{row_of}
use Rattle.desk_keeper.specs.declared.words.Command.{Command}
use Rattle.desk_keeper.specs.declared.words.Command.TheVariants.{Edit, Submit, Publish, Draw}
use Rattle.desk_keeper.specs.declared.words.Named.{Named}
use Rattle.desk_history.specs.declared.entries.Done.{Done}
use Rattle.desk_history.specs.declared.entries.Entry.{Entry}
use Rattle.desk_history.specs.declared.entries.Entry.TheVariants.{Accepted, Took, Ended, Released}
use Rattle.desk_history.specs.declared.jobs.Job.{Job}
use Rattle.desk_history.specs.declared.refusals.Refusal.{Refusal}
use Rattle.desk_history.specs.declared.refusals.Refusal.TheVariants.{BenchEmpty, IdReused, UnknownChair}
use Rattle.desk_history.specs.declared.replies.Answered.{Answered}
use Rattle.desk_history.specs.declared.requests.Look.{Look}
use Rattle.desk_history.specs.declared.requests.Request.{Request}
use Rattle.desk_history.specs.declared.requests.Request.TheVariants as request
use Rattle.desk_history.specs.declared.requests.Work.{Work}
use Rattle.desk_history.specs.Courses.{Does}
use Rattle.desk_history.specs.Histories.{Earlier, History, commands, edition, edits, held, job_of, jobs, kept}
use Rattle.desk_history.specs.Looks.{Step, look_step, refused, told}
use Rattle.desk_history.specs.Refusals.{refusal_of}
use Rattle.desk_history.specs.Rows.{lottery_of, named, row_behind, rows}
use Rattle.desk_history.specs.SameCommands.{is_same_command}
use Rattle.desk_history.specs.Steps.{accepted, answered_by, command_step, done_of, finish_job, finish_step, first_waiting, holds, is_chair, made, numbered_step, refused_or, release_at, release_step, repeat_step, step, take_at, take_first, take_step, with_entry}
use Rattle.command_index.proofs.CommandLaws.{same_command}
use Rattle.desk_laws.proofs.EvidenceLaws.{none_some}
use Rattle.desk_laws.proofs.EntryLaws.{Brings, either, look_brings, repeat_brings}
use Rattle.http_desk.specs.Laws.{GoesOn, HasRow}

-- ---- how it goes on

pub goes_not : (H : History) → GoesOn H H
goes_not H = ([], refl)

goes_entry : (entry : Option Entry) (H : History) → GoesOn H (with_entry entry H)
goes_entry None H = ([], refl)
goes_entry (Some entry) H = (entry ∷ [], refl)

pub goes_step : (asked : Step) (H : History) (reply : Result Answered Refusal) (next : History) → Does asked H reply next → GoesOn H next
goes_step asked H (Ok reply) next does = subst (GoesOn H) (sym does.1) (goes_entry asked.entry H)
goes_step asked H (Err refusal) next does = subst (GoesOn H) (sym does.1) (goes_not H)

pub goes_then : (H middle last : History) → GoesOn H middle → GoesOn middle last → GoesOn H last
goes_then H middle last (first, is) (second, behind) = (second ++ first, behind ∙ (ap (λ (h : History). second ++ h) is ∙ sym (append_assoc second first H)))

edits_later : (entry : Entry) (H : History) → edits H ≤ edits (entry ∷ H)
edits_later (Accepted caller number (Edit base edit) reply read) H = omega arith
edits_later (Accepted caller number (Submit base mode) reply read) H = omega arith
edits_later (Accepted caller number (Publish job) reply read) H = omega arith
edits_later (Accepted caller number (Draw publication text) reply read) H = omega arith
edits_later (Took bench job) H = omega arith
edits_later (Ended bench done) H = omega arith
edits_later (Released bench) H = omega arith

edits_on : (more : List Entry) (H : History) → edits H ≤ edits (more ++ H)
edits_on [] H = omega arith
edits_on (entry ∷ more) H = omega (arith, edits_on more H, edits_later entry (more ++ H))

edition_on : ((entry : Entry) (H : History) (n : ℕ) → n ≤ edits H → edition (entry ∷ H) n ≡ edition H n)
    → (more : List Entry) (H : History) (n : ℕ) → n ≤ edits H → edition (more ++ H) n ≡ edition H n
edition_on law [] H n few = refl
edition_on law (entry ∷ more) H n few = law entry (more ++ H) n (omega (arith, few, edits_on more H)) ∙ edition_on law more H n few

-- an edition that was made stays, where it stays behind one entry
pub edition_stays : ((entry : Entry) (H : History) (n : ℕ) → n ≤ edits H → edition (entry ∷ H) n ≡ edition H n)
    → (H later : History) (n : ℕ) → GoesOn H later → n ≤ edits H → edition later n ≡ edition H n
edition_stays law H later n (more, is) few = ap (λ (h : History). edition h n) is ∙ edition_on law more H n few

-- ---- accepted commands are kept

is_this : (by caller : List ℕ) (its number : ℕ) → Decides (bytes_eq by caller && its == number) ((by ≡ caller) × (its ≡ number))
is_this by caller its number = Decides-and (bytes_eq by caller) (its == number) (bytes_eq-Decides by caller) (Decides-eqb its number)

-- a command that an entry accepts wasn't accepted before
abbrev pub IsNewIn : History → Entry → Type 0
IsNewIn H (Accepted by its command reply read) = kept H by its ≡ None
IsNewIn H (Took bench job) = ⊤
IsNewIn H (Ended bench done) = ⊤
IsNewIn H (Released bench) = ⊤

new_new : (H : History) (its : Named) (due : Option Refusal) → kept H its.caller its.number ≡ None → Brings (IsNewIn H) (refused_or due (made (answered_by (done_of H its.command)) (accepted H its None)))
new_new H its None none = none
new_new H its (Some why) none = tt

numbered_new : (H : History) (its : Named) (earlier : Option Earlier) → kept H its.caller its.number ≡ earlier → Brings (IsNewIn H) (numbered_step H its earlier)
numbered_new H its None none = new_new H its (refusal_of H its None) none
numbered_new H its (Some earlier) is = repeat_brings (IsNewIn H) earlier its.command

first_new : (H : History) (bench : ℕ) (found : Option (ℕ × Job)) → Brings (IsNewIn H) (take_first H bench found)
first_new H bench None = tt
first_new H bench (Some found) = tt

take_new : (H : History) (bench : ℕ) (has : Option ℕ) → Brings (IsNewIn H) (take_at H bench has)
take_new H bench None = first_new H bench (first_waiting 1 (jobs H))
take_new H bench (Some job) = tt

finish_new : (H : History) (bench number : ℕ) (done : Work) (job : Option Job) → Brings (IsNewIn H) (finish_job bench number done job)
finish_new H bench number done None = tt
finish_new H bench number done (Some job) = tt

release_new : (H : History) (bench : ℕ) (has : Option ℕ) → Brings (IsNewIn H) (release_at bench has)
release_new H bench None = tt
release_new H bench (Some job) = tt

step_new : (chairs : List (List ℕ)) (H : History) (request : Request) → Brings (IsNewIn H) (step chairs H request)
step_new chairs H (request.Do its) = either (IsNewIn H) (is_chair chairs its.caller) (command_step H its) (refused UnknownChair) (numbered_new H its (kept H its.caller its.number) refl) tt
step_new chairs H (request.Look caller what) = either (IsNewIn H) (is_chair chairs caller) (look_step H what) (refused UnknownChair) (look_brings (IsNewIn H) H what) tt
step_new chairs H (request.Take bench) = take_new H bench (held H bench)
step_new chairs H (request.Finish bench job done) = either (IsNewIn H) (holds (held H bench) job) (finish_job bench job done (job_of H job)) (refused BenchEmpty) (finish_new H bench job done (job_of H job)) tt
step_new chairs H (request.Release bench) = release_new H bench (held H bench)

kept_other : (same : Bool) (H : History) (by : List ℕ) (its : ℕ) (new : Earlier) (caller : List ℕ) (number : ℕ) (earlier : Earlier) → (bytes_eq by caller && its == number) ≡ same
    → kept H by its ≡ None → kept H caller number ≡ Some earlier → cond same (Some new) (kept H caller number) ≡ Some earlier
kept_other false H by its new caller number earlier is none there = there
kept_other true H by its new caller number earlier is none there =
    let both = (is_this by caller its number).0 is in
    none_some earlier (sym (subst (λ (n : ℕ). kept H caller n ≡ None) both.1 (subst (λ (c : List ℕ). kept H c its ≡ None) both.0 none)) ∙ there)

kept_entry : (H : History) (entry : Option Entry) (caller : List ℕ) (number : ℕ) (earlier : Earlier) → IfSome entry (IsNewIn H) → kept H caller number ≡ Some earlier
    → kept (with_entry entry H) caller number ≡ Some earlier
kept_entry H None caller number earlier new there = there
kept_entry H (Some (Accepted by its command reply read)) caller number earlier new there =
    kept_other (bytes_eq by caller && its == number) H by its (record { place = commands H; command = command; reply = reply }) caller number earlier refl new there
kept_entry H (Some (Took bench job)) caller number earlier new there = there
kept_entry H (Some (Ended bench done)) caller number earlier new there = there
kept_entry H (Some (Released bench)) caller number earlier new there = there

-- an accepted command stays accepted
pub kept_stays : (chairs : List (List ℕ)) (H : History) (request : Request) (reply : Result Answered Refusal) (next : History) (caller : List ℕ) (number : ℕ) (earlier : Earlier)
    → Does (step chairs H request) H reply next → kept H caller number ≡ Some earlier → kept next caller number ≡ Some earlier
kept_stays chairs H request (Ok reply) next caller number earlier does there =
    subst (λ (h : History). kept h caller number ≡ Some earlier) (sym does.1) (kept_entry H (step chairs H request).entry caller number earlier (step_new chairs H request) there)
kept_stays chairs H request (Err why) next caller number earlier does there = subst (λ (h : History). kept h caller number ≡ Some earlier) (sym does.1) there

-- ---- a command that is answered is accepted

-- the history has accepted the command, and has answered this
pub record IsAnswered (H : History) (its : Named) (answered : Answered) : Type 0 where
  pub earlier : Earlier
  pub there : kept H its.caller its.number ≡ Some earlier
  pub same : earlier.command ≡ its.command
  pub body : answered ≡ answered_by earlier.reply

kept_this : (H : History) (its : Named) → kept (accepted H its None ∷ H) its.caller its.number ≡ Some (record { place = commands H; command = its.command; reply = done_of H its.command })
kept_this H its = let this : (bytes_eq its.caller its.caller && its.number == its.number) ≡ true = (is_this its.caller its.caller its.number its.number).1 (refl, refl) in rw this refl

new_answered : (H : History) (its : Named) (due : Option Refusal) (answered : Answered) (next : History)
    → Does (refused_or due (made (answered_by (done_of H its.command)) (accepted H its None))) H (Ok answered) next → IsAnswered next its answered
new_answered H its (Some why) answered next does = let wrong = does.0 in absurd cc
new_answered H its None answered next does = record {
  earlier = record { place = commands H; command = its.command; reply = done_of H its.command };
  there = subst (λ (h : History). kept h its.caller its.number ≡ Some (record { place = commands H; command = its.command; reply = done_of H its.command })) (sym does.1) (kept_this H its);
  same = refl;
  body = let is = does.0 in cc;
}

repeat_answered : (same : Bool) (H : History) (its : Named) (earlier : Earlier) (answered : Answered) (next : History) → is_same_command earlier.command its.command ≡ same
    → kept H its.caller its.number ≡ Some earlier → Does (cond same (told (answered_by earlier.reply)) (refused (IdReused earlier.place))) H (Ok answered) next → IsAnswered next its answered
repeat_answered false H its earlier answered next is there does = let wrong = does.0 in absurd cc
repeat_answered true H its earlier answered next is there does = record {
  earlier = earlier;
  there = subst (λ (h : History). kept h its.caller its.number ≡ Some earlier) (sym does.1) there;
  same = (same_command earlier.command its.command).0 is;
  body = let is = does.0 in cc;
}

numbered_answered : (H : History) (its : Named) (found : Option Earlier) (answered : Answered) (next : History) → kept H its.caller its.number ≡ found
    → Does (numbered_step H its found) H (Ok answered) next → IsAnswered next its answered
numbered_answered H its None answered next is does = new_answered H its (refusal_of H its None) answered next does
numbered_answered H its (Some earlier) answered next is does = repeat_answered (is_same_command earlier.command its.command) H its earlier answered next refl is does

chair_answered : (test : Bool) (H : History) (its : Named) (answered : Answered) (next : History) → Does (cond test (command_step H its) (refused UnknownChair)) H (Ok answered) next → IsAnswered next its answered
chair_answered true H its answered next does = numbered_answered H its (kept H its.caller its.number) answered next refl does
chair_answered false H its answered next does = let wrong = does.0 in absurd cc

pub command_answered : (chairs : List (List ℕ)) (H : History) (its : Named) (answered : Answered) (next : History) → Does (step chairs H (request.Do its)) H (Ok answered) next → IsAnswered next its answered
command_answered chairs H its answered next does = chair_answered (is_chair chairs its.caller) H its answered next does

-- ---- a repeat

repeat_told : (H : History) (its : Named) (earlier : Earlier) → kept H its.caller its.number ≡ Some earlier → earlier.command ≡ its.command → command_step H its ≡ told (answered_by earlier.reply)
repeat_told H its earlier there same =
    let is : is_same_command earlier.command its.command ≡ true = (same_command earlier.command its.command).1 same in
    rw (there, is) refl

-- an accepted command is answered again as it was
pub repeated : (chairs : List (List ℕ)) (H : History) (its : Named) (earlier : Earlier) → is_chair chairs its.caller ≡ true → kept H its.caller its.number ≡ Some earlier → earlier.command ≡ its.command
    → step chairs H (request.Do its) ≡ told (answered_by earlier.reply)
repeated chairs H its earlier chair there same = rw chair (repeat_told H its earlier there same)

-- ---- rows

some_equal : {A : Type 0} (a b : A) → Some a ≡ Some b → a ≡ b
some_equal a b is = cc

get_end : (xs : List (List ℕ)) (x : List ℕ) (n : ℕ) → n ≡ length xs → slice_get (xs ++ x ∷ []) n ≡ Some x
get_end [] x n is = rw is refl
get_end (y ∷ xs) x n is = rw is (get_end xs x (length xs) refl)

get_more : (xs : List (List ℕ)) (x y : List ℕ) (i : ℕ) → slice_get xs i ≡ Some y → slice_get (xs ++ x ∷ []) i ≡ Some y
get_more [] x y i is = none_some y is
get_more (z ∷ xs) x y zero is = is
get_more (z ∷ xs) x y (suc i) is = get_more xs x y i is

length_end : (xs : List (List ℕ)) (x : List ℕ) → length (xs ++ x ∷ []) ≡ length xs + 1
length_end [] x = refl
length_end (y ∷ xs) x = omega (arith, length_end xs x)

rows_counted : (H : History) → commands H ≡ length (rows H)
rows_counted [] = refl
rows_counted (Accepted caller number command reply read ∷ H) = omega (arith, rows_counted H, length_end (rows H) (row_behind H (named caller number command) read))
rows_counted (Took bench job ∷ H) = rows_counted H
rows_counted (Ended bench done ∷ H) = rows_counted H
rows_counted (Released bench ∷ H) = rows_counted H

row_on : (H : History) (row : List ℕ) (caller : List ℕ) (number : ℕ) (earlier : Earlier)
    → (lottery : List ℕ) × (slice_get (rows H) earlier.place ≡ Some (row_of (named caller number earlier.command) lottery))
    → (lottery : List ℕ) × (slice_get (rows H ++ row ∷ []) earlier.place ≡ Some (row_of (named caller number earlier.command) lottery))
row_on H row caller number earlier (lottery, is) = (lottery, get_more (rows H) row (row_of (named caller number earlier.command) lottery) earlier.place is)

row_at : (same : Bool) (H : History) (by : List ℕ) (its : ℕ) (command : Command) (reply : Done) (read : Option Certificate) (caller : List ℕ) (number : ℕ) (earlier : Earlier)
    → (bytes_eq by caller && its == number) ≡ same → cond same (Some (record { place = commands H; command = command; reply = reply })) (kept H caller number) ≡ Some earlier
    → (kept H caller number ≡ Some earlier → HasRow H caller number earlier) → HasRow (Accepted by its command reply read ∷ H) caller number earlier
row_at false H by its command reply read caller number earlier is there before = row_on H (row_behind H (named by its command) read) caller number earlier (before there)
row_at true H by its command reply read caller number earlier is there before =
    let both = (is_this by caller its number).0 is in
    let new : Earlier = record { place = commands H; command = command; reply = reply } in
    subst (λ (e : Earlier). HasRow (Accepted by its command reply read ∷ H) caller number e) (some_equal new earlier there) (
      lottery_of H command read,
      get_end (rows H) (row_behind H (named by its command) read) (commands H) (rows_counted H)
          ∙ ap Some (ap (λ (c : List ℕ). row_of (named c its command) (lottery_of H command read)) both.0 ∙ ap (λ (n : ℕ). row_of (named caller n command) (lottery_of H command read)) both.1),
    )

-- an accepted command has its row
pub has_row : (H : History) (caller : List ℕ) (number : ℕ) (earlier : Earlier) → kept H caller number ≡ Some earlier → HasRow H caller number earlier
has_row [] caller number earlier there = none_some earlier there
has_row (Accepted by its command reply read ∷ H) caller number earlier there =
    row_at (bytes_eq by caller && its == number) H by its command reply read caller number earlier refl there (has_row H caller number earlier)
has_row (Took bench job ∷ H) caller number earlier there = has_row H caller number earlier there
has_row (Ended bench done ∷ H) caller number earlier there = has_row H caller number earlier there
has_row (Released bench ∷ H) caller number earlier there = has_row H caller number earlier there
