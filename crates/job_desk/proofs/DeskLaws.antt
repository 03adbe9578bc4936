-- What a step leaves of a desk: a legal history, and rows that aren't too many bytes.
use Rattle.std.proofs.Common.{◌≡◌, ◌+◌, ◌≤◌, ◌<◌, ◌∷◌, ◌||◌, [], ℕ, Bool, true, false, cond, List, Option, None, Some, IfSome, Result, Ok, Err, IsErrOf, Vec, vec_len, get_or, length, reverse, refl, subst, arith, ap, sym, inr, bytes_eq, suc}
use Rattle.std.proofs.lemmas.Bool.{false≢true}
use Rattle.std.proofs.lemmas.Slice.Eq.{bytes_eq-Decides}
use Rattle.std.specs.Prelude.{nat_le, nat_lt}
use Rattle.std.specs.declared.alloc.Global.{Global}
use Rattle.desk_keeper.specs.Names.{is_chair_name}
use Rattle.desk_keeper.specs.declared.words.Named.{Named}
use Rattle.desk_history.specs.declared.entries.Entry.{Entry}
use Rattle.desk_history.specs.declared.entries.Entry.TheVariants.{Accepted, Took, Ended, Released}
use Rattle.desk_history.specs.declared.jobs.Job.{Job}
use Rattle.desk_history.specs.declared.refusals.Refusal.{Refusal}
use Rattle.desk_history.specs.declared.refusals.Refusal.TheVariants.{BenchEmpty, HistoryFull, IdReused, KeeperFault, Memory, UnknownChair}
use Rattle.desk_history.specs.declared.refusals.TheConstants.{MOST_COMMANDS, MOST_ROW_BYTES}
use Rattle.desk_history.specs.declared.replies.Answered.{Answered}
use Rattle.desk_history.specs.declared.requests.Request.{Request}
use Rattle.desk_history.specs.declared.requests.Request.TheVariants.{Do}
use Rattle.desk_history.specs.declared.requests.Work.{Work}
use Rattle.desk_history.specs.declared.tables.Tables.{Tables}
use Rattle.desk_history.specs.Courses.{AreKept, Does, full, history_of}
use Rattle.desk_history.specs.Histories.{Earlier, History, commands, held, job_of, jobs, kept, present}
use Rattle.desk_history.specs.Looks.{Step, refused, told}
use Rattle.desk_history.specs.Opened.{IsLegal}
use Rattle.desk_history.specs.Refusals.{full_refusal, own_refusal, refusal_of, refuse_if}
use Rattle.desk_history.specs.Rows.{bytes, row_behind, rows}
use Rattle.desk_history.specs.SameCommands.{is_same_command}
use Rattle.desk_history.specs.Steps.{AcceptsCommand, Explains, IsTyped, MayAsk, accepted, answered_by, command_step, done_of, finish_job, finish_step, first_waiting, holds, is_chair, made, numbered_step, refused_or, release_at, release_step, step, take_at, take_first, take_step, with_entry}
use Rattle.desk_history.specs.Tables.{AreTables}
use Rattle.desk_reopening.specs.Editions.{EditionsMakeRules, MakesRules}
use Rattle.desk_reopening.proofs.EditionLaws.{entry_makes}
use Rattle.desk_laws.specs.Reopened.{AreNames}
use Rattle.job_desk.specs.Desks.{IsDesk}
use Rattle.job_desk.specs.Looking.{IsTold}
use Rattle.desk_laws.proofs.EvidenceLaws.{none_some}
use Rattle.desk_laws.proofs.LegalLaws.{first_none}

-- Steps without an entry

pub told_does : (asked : Step) (H : History) (answer : Result Answered Refusal) → IsTold asked answer → Does asked H answer H
told_does asked H (Ok reply) is = (ap (λ (s : Step). s.reply) is, sym (ap (λ (s : Step). with_entry s.entry H) is))
told_does asked H (Err Memory) is = (tt, refl)
told_does asked H (Err KeeperFault) is = absurd is
told_does asked H (Err refusal) is = (ap (λ (s : Step). s.reply) is, refl)

pub told_unfailing : (asked : Step) (answer : Result Answered Refusal) → IsTold asked answer → IsErrOf answer KeeperFault → ⊥
told_unfailing asked answer is failed = subst (IsTold asked) failed is

explained : (asked : Step) (refusal : Refusal) → asked.reply ≡ Err refusal → (IsErrOf {T = Answered} (Err refusal) KeeperFault → ⊥) → Explains asked refusal
explained asked Memory is sure = tt
explained asked KeeperFault is sure = absurd (sure refl)
explained asked refusal is sure = is

pub replied_does : (asked : Step) (H : History) (answer : Result Answered Refusal) → asked.reply ≡ answer → asked.entry ≡ None → (IsErrOf answer KeeperFault → ⊥) → Does asked H answer H
replied_does asked H (Ok reply) is none sure = (is, sym (ap (λ (o : Option Entry). with_entry o H) none))
replied_does asked H (Err refusal) is none sure = (explained asked refusal is sure, refl)

-- Benches

abbrev pub IsQuiet : Step → Type 0
IsQuiet asked = AcceptsCommand asked.entry → ⊥

quiet_first : (H : History) (bench : ℕ) (found : Option (ℕ × Job)) → IsQuiet (take_first H bench found)
quiet_first H bench None is = is
quiet_first H bench (Some found) is = is

quiet_take_at : (H : History) (bench : ℕ) (job : Option ℕ) → IsQuiet (take_at H bench job)
quiet_take_at H bench None = quiet_first H bench (first_waiting 1 (jobs H))
quiet_take_at H bench (Some job) = λ is. is

pub quiet_take : (H : History) (bench : ℕ) → IsQuiet (take_step H bench)
quiet_take H bench = quiet_take_at H bench (held H bench)

quiet_job : (bench number : ℕ) (done : Work) (job : Option Job) → IsQuiet (finish_job bench number done job)
quiet_job bench number done None is = is
quiet_job bench number done (Some job) is = is

quiet_either : (test : Bool) (a b : Step) → IsQuiet a → IsQuiet b → IsQuiet (cond test a b)
quiet_either true a b left right = left
quiet_either false a b left right = right

pub quiet_finish : (H : History) (bench number : ℕ) (done : Work) → IsQuiet (finish_step H bench number done)
quiet_finish H bench number done = quiet_either (holds (held H bench) number) (finish_job bench number done (job_of H number)) (refused BenchEmpty) (quiet_job bench number done (job_of H number)) (λ is. is)

quiet_release_at : (bench : ℕ) (job : Option ℕ) → IsQuiet (release_at bench job)
quiet_release_at bench None is = is
quiet_release_at bench (Some job) is = is

pub quiet_release : (H : History) (bench : ℕ) → IsQuiet (release_step H bench)
quiet_release H bench = quiet_release_at bench (held H bench)

quiet_rows : (entry : Option Entry) (H : History) → (AcceptsCommand entry → ⊥) → (rows (with_entry entry H) ≡ rows H) × (bytes (with_entry entry H) ≡ bytes H)
quiet_rows None H quiet = (refl, refl)
quiet_rows (Some (Accepted caller number command reply read)) H quiet = absurd (quiet tt)
quiet_rows (Some (Took bench job)) H quiet = (refl, refl)
quiet_rows (Some (Ended bench done)) H quiet = (refl, refl)
quiet_rows (Some (Released bench)) H quiet = (refl, refl)

-- a step that accepts no command leaves the rows
pub rows_stay : (asked : Step) (H : History) (answer : Result Answered Refusal) (next : History) → IsQuiet asked → Does asked H answer next → (rows next ≡ rows H) × (bytes next ≡ bytes H)
rows_stay asked H (Ok reply) next quiet does = subst (λ (h : History). (rows h ≡ rows H) × (bytes h ≡ bytes H)) (sym does.1) (quiet_rows asked.entry H quiet)
rows_stay asked H (Err refusal) next quiet does = subst (λ (h : History). (rows h ≡ rows H) × (bytes h ≡ bytes H)) (sym does.1) (refl, refl)

pub quiet_unfailing : (asked : Step) (H : History) (answer : Result Answered Refusal) (next : History) → IsQuiet asked → Does asked H answer next → IsErrOf answer KeeperFault → ⊥
quiet_unfailing asked H answer next quiet does failed = quiet ((subst (λ (a : Result Answered Refusal). Does asked H a next) failed does).0)

-- Rows that aren't too many bytes

within : (full big : Bool) (most bytes : ℕ) (why : Refusal) → nat_lt most bytes ≡ big → refuse_if (full || big) why ≡ None → bytes ≤ most
within true big most bytes why e none = none_some why (sym none)
within false true most bytes why e none = none_some why (sym none)
within false false most bytes why e none = search (arith, e)

abbrev IsRoomy : History → Step → Type 0
IsRoomy H asked = IfSome asked.entry (λ entry. bytes (entry ∷ H) ≤ MOST_ROW_BYTES)

roomy_new : (H : History) (its : Named) (due : Option Refusal) → refusal_of H its None ≡ due → IsRoomy H (refused_or due (made (answered_by (done_of H its.command)) (accepted H its None)))
roomy_new H its None e =
    within (nat_le MOST_COMMANDS (commands H)) (nat_lt MOST_ROW_BYTES (bytes H + length (row_behind H its None))) MOST_ROW_BYTES (bytes H + length (row_behind H its None)) (HistoryFull (commands H) (bytes H + length (row_behind H its None))) refl
    (first_none (own_refusal H its.command None) (full_refusal (commands H) (bytes H + length (row_behind H its None))) e).1
roomy_new H its (Some why) e = tt

roomy_either : (H : History) (test : Bool) (a b : Step) → IsRoomy H a → IsRoomy H b → IsRoomy H (cond test a b)
roomy_either H true a b left right = left
roomy_either H false a b left right = right

roomy_numbered : (H : History) (its : Named) (earlier : Option Earlier) → IsRoomy H (numbered_step H its earlier)
roomy_numbered H its None = roomy_new H its (refusal_of H its None) refl
roomy_numbered H its (Some earlier) = roomy_either H (is_same_command earlier.command its.command) (told (answered_by earlier.reply)) (refused (IdReused earlier.place)) tt tt

roomy_do : (chairs : List (List ℕ)) (H : History) (its : Named) → IsRoomy H (step chairs H (Do its))
roomy_do chairs H its = roomy_either H (is_chair chairs its.caller) (command_step H its) (refused UnknownChair) (roomy_numbered H its (kept H its.caller its.number)) tt

roomy_entry : (entry : Option Entry) (H : History) → bytes H ≤ MOST_ROW_BYTES → IfSome entry (λ it. bytes (it ∷ H) ≤ MOST_ROW_BYTES) → bytes (with_entry entry H) ≤ MOST_ROW_BYTES
roomy_entry None H few roomy = few
roomy_entry (Some entry) H few roomy = roomy

pub few_bytes : (chairs : List (List ℕ)) (H : History) (its : Named) (answer : Result Answered Refusal) (next : History) → bytes H ≤ MOST_ROW_BYTES → Does (step chairs H (Do its)) H answer next → bytes next ≤ MOST_ROW_BYTES
few_bytes chairs H its (Ok reply) next few does = subst (λ (h : History). bytes h ≤ MOST_ROW_BYTES) (sym does.1) (roomy_entry (step chairs H (Do its)).entry H few (roomy_do chairs H its))
few_bytes chairs H its (Err refusal) next few does = subst (λ (h : History). bytes h ≤ MOST_ROW_BYTES) (sym does.1) few

-- Legal histories

entered : (chairs : List (List ℕ)) (H : History) (request : Request) (entry : Option Entry) → (step chairs H request).entry ≡ entry → IsLegal chairs H → IsTyped request → MayAsk H request → IsLegal chairs (with_entry entry H)
entered chairs H request None e legal typed may = legal
entered chairs H request (Some entry) e legal typed may = inr (legal, record { request = request; typed = typed; may = may; entry = e })

-- a step leads from a legal history to a legal one
pub legal_next : (chairs : List (List ℕ)) (H : History) (request : Request) (answer : Result Answered Refusal) (next : History) → IsLegal chairs H → IsTyped request → MayAsk H request → Does (step chairs H request) H answer next → IsLegal chairs next
legal_next chairs H request (Ok reply) next legal typed may does = subst (IsLegal chairs) (sym does.1) (entered chairs H request (step chairs H request).entry refl legal typed may)
legal_next chairs H request (Err refusal) next legal typed may does = subst (IsLegal chairs) (sym does.1) legal

-- Chairs

named_either : (test : Bool) (chair name : List ℕ) (others : List (List ℕ)) → bytes_eq chair name ≡ test → (test || is_chair others name) ≡ true → is_chair_name chair ≡ true → (is_chair others name ≡ true → is_chair_name name ≡ true) → is_chair_name name ≡ true
named_either true chair name others e is here later = subst (λ (n : List ℕ). is_chair_name n ≡ true) ((bytes_eq-Decides chair name).0 e) here
named_either false chair name others e is here later = later is

pub chair_named : (chairs : List (List ℕ)) (name : List ℕ) → AreNames chairs → is_chair chairs name ≡ true → is_chair_name name ≡ true
chair_named [] name names is = absurd (false≢true is)
chair_named (chair ∷ others) name names is =
    named_either (bytes_eq chair name) chair name others refl is (names 0 [] (omega arith)) (chair_named others name (λ k d lt. names (suc k) d (omega (arith, lt))))

-- The parts of a desk

pub few_before : (chairs : List (List ℕ)) (entries : Vec Entry Global) (tables : Tables) → IsDesk chairs entries tables → bytes (history_of entries) ≤ MOST_ROW_BYTES
few_before chairs entries tables desk = subst (λ n. n ≤ MOST_ROW_BYTES) desk.kept.are.bytes desk.bytes

-- a step leads from the parts of a desk to parts of one
pub desk_next : (chairs : List (List ℕ)) (entries : Vec Entry Global) (tables : Tables) (request : Request) (answer : Result Answered Refusal) (more : Vec Entry Global) (new : Tables)
    → IsDesk chairs entries tables → IsTyped request → MayAsk (history_of entries) request → Does (step chairs (history_of entries) request) (history_of entries) answer (history_of more)
    → AreKept more new → bytes (history_of more) ≤ MOST_ROW_BYTES → IsDesk chairs more new
desk_next chairs entries tables request answer more new desk typed may does kept few = record {
  names = desk.names;
  legal = legal_next chairs (history_of entries) request answer (history_of more) desk.legal typed may does;
  kept = kept;
  bytes = subst (λ n. n ≤ MOST_ROW_BYTES) (sym kept.are.bytes) few;
}

-- a step that accepts no command leaves the rows, too
pub bench_next : (chairs : List (List ℕ)) (entries : Vec Entry Global) (tables : Tables) (request : Request) (answer : Result Answered Refusal) (more : Vec Entry Global) (new : Tables)
    → IsDesk chairs entries tables → IsTyped request → MayAsk (history_of entries) request → IsQuiet (step chairs (history_of entries) request)
    → Does (step chairs (history_of entries) request) (history_of entries) answer (history_of more) → AreKept more new → IsDesk chairs more new
bench_next chairs entries tables request answer more new desk typed may quiet does kept =
    desk_next chairs entries tables request answer more new desk typed may does kept
    (subst (λ n. n ≤ MOST_ROW_BYTES) (sym (rows_stay (step chairs (history_of entries) request) (history_of entries) answer (history_of more) quiet does).1) (few_before chairs entries tables desk))

pub command_next : (chairs : List (List ℕ)) (entries : Vec Entry Global) (tables : Tables) (its : Named) (answer : Result Answered Refusal) (more : Vec Entry Global) (new : Tables)
    → IsDesk chairs entries tables → IsTyped (Do its) → MayAsk (history_of entries) (Do its) → Does (step chairs (history_of entries) (Do its)) (history_of entries) answer (history_of more)
    → AreKept more new → IsDesk chairs more new
command_next chairs entries tables its answer more new desk typed may does kept =
    desk_next chairs entries tables (Do its) answer more new desk typed may does kept (few_bytes chairs (history_of entries) its answer (history_of more) (few_before chairs entries tables desk) does)

-- without entries no bench has a job
no_bench : (benches : List (Option ℕ)) → ((bench : ℕ) → bench < length benches → get_or benches bench None ≡ None) → full benches ≡ 0
no_bench [] none = refl
no_bench (None ∷ benches) none = no_bench benches (λ bench lt. none (suc bench) (omega (arith, lt)))
no_bench (Some job ∷ benches) none = none_some job (sym (none 0 (omega arith)))

-- a desk at which nothing was done
pub new_desk : (chairs : List (List ℕ)) (entries : Vec Entry Global) (tables : Tables) → AreNames chairs → entries.items ≡ [] → vec_len entries ≡ 0 → AreTables [] tables → IsDesk chairs entries tables
new_desk chairs entries tables names none size are =
    let free : full tables.benches ≡ 0 = no_bench tables.benches (λ bench lt. are.benches bench (subst (λ n. bench < n) are.bench_count lt)) in
    record {
      names = names;
      legal = subst (λ (items : List Entry). IsLegal chairs (reverse items)) (sym none) tt;
      kept = record { are = subst (λ (items : List Entry). AreTables (reverse items) tables) (sym none) are; room = omega (arith, free, size) };
      bytes = subst (λ n. n ≤ MOST_ROW_BYTES) (sym are.bytes) (omega arith);
    }

-- The rules of editions

some_makes : (entry : Option Entry) (H : History) → EditionsMakeRules H → MakesRules (present (with_entry entry H)) → EditionsMakeRules (with_entry entry H)
some_makes None H all now = all
some_makes (Some entry) H all now = entry_makes entry H all now

-- each edition makes rules after a step, where the present one does
pub step_makes : (asked : Step) (H : History) (answer : Result Answered Refusal) (next : History) → Does asked H answer next → EditionsMakeRules H → MakesRules (present next) → EditionsMakeRules next
step_makes asked H (Ok reply) next does all now = subst EditionsMakeRules (sym does.1) (some_makes asked.entry H all (subst (λ (h : History). MakesRules (present h)) does.1 now))
step_makes asked H (Err refusal) next does all now = subst EditionsMakeRules (sym does.1) all
