-- Rows that are replayed.
use Rattle.std.proofs.Common.{◌≡◌, ◌∷◌, ◌++◌, [], ◌∙◌, ◌+◌, ◌<◌, ◌≤◌, ◌==◌, ◌&&◌, ◌||◌, ℕ, Bool, true, false, List, Option, None, Some, Result, Ok, Err, ap, append_assoc, arith, cond, inl, length, refl, subst, sym}
use Rattle.std.specs.Prelude.{bytes_eq, is_some, nat_le, nat_lt}
use Rattle.std.proofs.lemmas.Bool.{false≢true}
use Rattle.std.proofs.lemmas.Bool.Decides.{nat_tests}
use Rattle.match_rules.specs.First.{first_of_two}
use Rattle.publication.specs.declared.certificate.Certificate.{Certificate}
use Rattle.desk_keeper.specs.Rows.{IsRow, MayKeep, row_of}
use Rattle.desk_keeper.specs.declared.words.Kept.{Kept}
use Rattle.desk_keeper.specs.declared.words.Named.{Named}
use Rattle.desk_history.specs.declared.entries.Entry.TheVariants.{Accepted}
use Rattle.desk_history.specs.declared.refusals.Refusal.{Refusal}
use Rattle.desk_history.specs.declared.refusals.Refusal.TheVariants.{HistoryFull}
use Rattle.desk_history.specs.declared.refusals.TheConstants.{MOST_COMMANDS, MOST_ROW_BYTES}
use Rattle.desk_history.specs.declared.tables.Tables.{Tables}
use Rattle.desk_history.specs.Histories.{History, Earlier, commands, kept}
use Rattle.desk_history.specs.Opened.{IsLegal, Opens, Replay, Replays}
use Rattle.desk_history.specs.Refusals.{full_refusal, own_refusal, refusal_of}
use Rattle.desk_history.specs.Rows.{bytes, row_behind, rows}
use Rattle.desk_history.specs.Steps.{accepted}
use Rattle.desk_history.specs.Tables.{AreTables}
use Rattle.desk_reopening.specs.declared.faults.ReplayFault.{ReplayFault}
use Rattle.desk_reopening.specs.declared.faults.ReplayFault.TheVariants.{Damaged, Memory}
use Rattle.desk_reopening.specs.declared.numbers.Numbers.{Numbers}
use Rattle.desk_reopening.specs.Numbers.{AreNumbersOf, is_used}
use Rattle.desk_reopening.specs.Replaying.{Finds, IsAcceptedWith, IsNewRow, IsRowOf, IsTheOne, Leads, TakesUp}
use Rattle.desk_reopening.proofs.CommandLaws.{row_kept}
use Rattle.desk_reopening.proofs.RefusalLaws.{first_none, refused_not}

-- A replay is a new row whose command is taken up

pub replayed_row : (H : History) (row : List ℕ) (next : History) (r : Replays H row next) → row_behind H r.its r.read ≡ row
replayed_row H row next r = row_kept H r.its r.text r.read r.is_row.kept r.is_read ∙ sym r.is_row.text

pub replays_from : (H : History) (row : List ℕ) (its : Named) (text : List ℕ) (next : History) → IsNewRow H row its text → TakesUp H its text next → Replays H row next
replays_from H row its text next new takes =
    let same : row_behind H its takes.read ≡ row = row_kept H its text takes.read new.is_row.kept takes.is_accepted.is_read ∙ sym new.is_row.text in
    record {
      its = its;
      text = text;
      read = takes.read;
      is_row = new.is_row;
      is_new = new.is_new;
      is_read = takes.is_accepted.is_read;
      is_right = ap (λ (o : Option Refusal). first_of_two o (full_refusal (commands H) (bytes H + length (row_behind H its takes.read)))) takes.is_accepted.is_right
          ∙ ap (λ (r : List ℕ). full_refusal (commands H) (bytes H + length r)) same ∙ new.has_room;
      becomes = takes.becomes;
    }

pub has_room : (H : History) (row : List ℕ) (next : History) → Replays H row next → full_refusal (commands H) (bytes H + length row) ≡ None
has_room H row next r =
    sym (ap (λ (row : List ℕ). full_refusal (commands H) (bytes H + length row)) (replayed_row H row next r))
    ∙ (first_none (own_refusal H r.its.command r.read) (full_refusal (commands H) (bytes H + length (row_behind H r.its r.read))) r.is_right).1

pub new_row : (H : History) (row : List ℕ) (next : History) (r : Replays H row next) → IsNewRow H row r.its r.text
new_row H row next r = record { is_row = r.is_row; is_new = r.is_new; has_room = has_room H row next r }

pub taken_up : (H : History) (row : List ℕ) (next : History) (r : Replays H row next) → TakesUp H r.its r.text next
taken_up H row next r = record {
  read = r.read;
  is_accepted = record {
    is_read = r.is_read;
    is_right = (first_none (own_refusal H r.its.command r.read) (full_refusal (commands H) (bytes H + length (row_behind H r.its r.read))) r.is_right).0;
  };
  becomes = r.becomes;
}

-- damage of the row
pub row_damage : (H : History) (row : List ℕ) (fault : ReplayFault) (next : History) → Finds (λ (kept : Kept). IsNewRow H row kept.named kept.lottery) (Err fault) → Leads (Replays H row) (Err fault) next
row_damage H row Damaged next none = λ other r. none (record { named = r.its; lottery = r.text }) (new_row H row other r)
row_damage H row Memory next none = tt

taken_as : (H : History) (row : List ℕ) (kept : Kept) (next : History) → IsTheOne (λ (other : Kept). IsNewRow H row other.named other.lottery) kept → Replays H row next → TakesUp H kept.named kept.lottery next
taken_as H row kept next new r =
    subst (λ (k : Kept). TakesUp H k.named k.lottery next) (new.only (record { named = r.its; lottery = r.text }) (new_row H row next r)) (taken_up H row next r)

-- the command of the row leads on, or it is damaged
pub row_leads : (H : History) (row : List ℕ) (kept : Kept) (result : Result (Unit {0}) ReplayFault) (next : History) → IsTheOne (λ (other : Kept). IsNewRow H row other.named other.lottery) kept
    → Leads (TakesUp H kept.named kept.lottery) result next → Leads (Replays H row) result next
row_leads H row kept (Ok done) next new leads = record {
  is = replays_from H row kept.named kept.lottery next new.is leads.is;
  only = λ other r. leads.only other (taken_as H row kept other new r);
}
row_leads H row kept (Err Damaged) next new leads = λ other r. leads other (taken_as H row kept other new r)
row_leads H row kept (Err Memory) next new leads = tt

-- Numbers

-- the accepted command of a caller and number, under a name that no variable hides
abbrev kept_of : History → List ℕ → ℕ → Option Earlier
kept_of H caller number = kept H caller number

some_if : (test : Bool) (earlier : Earlier) (rest : Option Earlier) → is_some (cond test (Some earlier) rest) ≡ (test || is_some rest)
some_if true earlier rest = refl
some_if false earlier rest = refl

-- the numbers with that of the command which is taken up are those of the next history
pub next_numbers : (H : History) (its : Named) (text : List ℕ) (next : History) (old new : Numbers) → TakesUp H its text next → AreNumbersOf H old
    → ((by : List ℕ) (number : ℕ) → is_used new by number ≡ (bytes_eq its.caller by && its.number == number || is_used old by number)) → AreNumbersOf next new
next_numbers H its text next old new takes are more =
    subst (λ (h : History). AreNumbersOf h new) (sym takes.becomes)
    (λ by number. more by number ∙ ap (λ t. bytes_eq its.caller by && its.number == number || t) (are by number) ∙ sym (some_if (bytes_eq its.caller by && its.number == number) _ (kept H by number)))

-- a number that is there isn't new
pub used_number : (H : History) (numbers : Numbers) (caller : List ℕ) (number : ℕ) → AreNumbersOf H numbers → is_used numbers caller number ≡ true → kept H caller number ≡ None → ⊥
used_number H numbers caller number are used none = false≢true (sym (are caller number ∙ ap is_some none) ∙ used)

none_due : (due : Option Refusal) → is_some due ≡ false → due ≡ None
none_due None e = refl
none_due (Some why) e = absurd (false≢true (sym e))

kept_none : (earlier : Option Earlier) → is_some earlier ≡ false → earlier ≡ None
kept_none None e = refl
kept_none (Some earlier) e = absurd (false≢true (sym e))

pub new_number : (H : History) (numbers : Numbers) (caller : List ℕ) (number : ℕ) → AreNumbersOf H numbers → is_used numbers caller number ≡ false → kept H caller number ≡ None
new_number H numbers caller number are new = kept_none (kept H caller number) (sym (are caller number) ∙ new)

-- Rows and histories

pub next_rows : (H : History) (row : List ℕ) (next : History) → Replays H row next → rows next ≡ rows H ++ row ∷ []
next_rows H row next r = ap rows r.becomes ∙ ap (λ (row : List ℕ). rows H ++ row ∷ []) (replayed_row H row next r)

pub replay_rows : (H : History) (given : List (List ℕ)) (end : History) → Replay H given end → rows end ≡ rows H ++ given
replay_rows H [] end same = ap rows same ∙ sym (none_behind (rows H))
  where
    none_behind : (xs : List (List ℕ)) → xs ++ [] ≡ xs
    none_behind [] = refl
    none_behind (x ∷ xs) = ap (λ (ys : List (List ℕ)). x ∷ ys) (none_behind xs)
replay_rows H (row ∷ given) end (next, first, rest) =
    replay_rows next given end rest ∙ ap (λ (xs : List (List ℕ)). xs ++ given) (next_rows H row next first) ∙ append_assoc (rows H) (row ∷ []) given

pub opened_legal : (chairs given : List (List ℕ)) (H : History) → Opens given H → IsLegal chairs H
opened_legal chairs given [] opens = tt
opened_legal chairs given (entry ∷ H) opens = inl (given, opens)

-- one row more
pub replay_more : (H : History) (front : List (List ℕ)) (mid : History) (row : List ℕ) (next : History) → Replay H front mid → Replays mid row next → Replay H (front ++ row ∷ []) next
replay_more H [] mid row next same r = (next, subst (λ (h : History). Replays h row next) same r, refl)
replay_more H (before ∷ front) mid row next (after, first, rest) r = (after, first, replay_more after front mid row next rest r)

-- The limits

within : (most commands limit bytes : ℕ) → (nat_le most commands || nat_lt limit bytes) ≡ false → (commands < most) × (bytes ≤ limit)
within most commands limit bytes none = (grind (arith, nat_tests), grind (arith, nat_tests))

pub within_limits : (commands bytes : ℕ) → full_refusal commands bytes ≡ None → (commands < MOST_COMMANDS) × (bytes ≤ MOST_ROW_BYTES)
within_limits commands bytes none = within MOST_COMMANDS commands MOST_ROW_BYTES bytes (refused_not (nat_le MOST_COMMANDS commands || nat_lt MOST_ROW_BYTES bytes) (HistoryFull commands bytes) none)

pub next_commands : (H : History) (row : List ℕ) (next : History) → Replays H row next → commands next ≡ commands H + 1
next_commands H row next r = ap commands r.becomes

pub next_bytes : (H : History) (row : List ℕ) (next : History) → Replays H row next → bytes next ≡ bytes H + length row
next_bytes H row next r = ap bytes r.becomes ∙ ap (λ (row : List ℕ). bytes H + length row) (replayed_row H row next r)

-- a history that rows lead to has as many commands more, and keeps the limits
pub replay_limits : (H : History) (given : List (List ℕ)) (end : History) → Replay H given end → (commands H ≤ MOST_COMMANDS) × (bytes H ≤ MOST_ROW_BYTES)
    → (commands end ≡ commands H + length given) × (commands end ≤ MOST_COMMANDS) × (bytes end ≤ MOST_ROW_BYTES)
replay_limits H [] end same limits = subst (λ (h : History). (commands h ≡ commands H + 0) × (commands h ≤ MOST_COMMANDS) × (bytes h ≤ MOST_ROW_BYTES)) (sym same) (omega arith, limits.0, limits.1)
replay_limits H (row ∷ given) end (next, first, rest) limits =
    let room = within_limits (commands H) (bytes H + length row) (has_room H row next first) in
    let one : commands next ≡ commands H + 1 = next_commands H row next first in
    let more : bytes next ≡ bytes H + length row = next_bytes H row next first in
    let after = replay_limits next given end rest (omega (arith, one, room.0), omega (arith, more, room.1)) in
    (omega (arith, one, after.0), after.1, after.2)

-- The command of a row

table_room : (H : History) (tables : Tables) (n : ℕ) → AreTables H tables → full_refusal tables.commands (tables.bytes + n) ≡ full_refusal (commands H) (bytes H + n)
table_room H tables n are = ap (λ m. full_refusal m (tables.bytes + n)) are.commands ∙ ap (λ m. full_refusal (commands H) (m + n)) are.bytes

pub not_row : (H : History) (row : List ℕ) (fault : ReplayFault) → Finds (IsRowOf row) (Err fault) → Finds (λ (kept : Kept). IsNewRow H row kept.named kept.lottery) (Err fault)
not_row H row Damaged none = λ kept new. none kept new.is_row
not_row H row Memory none = tt

pub full_row : (H : History) (row : List ℕ) (tables : Tables) → AreTables H tables → is_some (full_refusal tables.commands (tables.bytes + length row)) ≡ true → (kept : Kept) → IsNewRow H row kept.named kept.lottery → ⊥
full_row H row tables are full kept new = false≢true (sym (ap is_some (table_room H tables (length row) are ∙ new.has_room)) ∙ full)

pub used_row : (H : History) (row : List ℕ) (found : Kept) (numbers : Numbers) → AreNumbersOf H numbers → IsTheOne (IsRowOf row) found → is_used numbers found.named.caller found.named.number ≡ true
    → (kept : Kept) → IsNewRow H row kept.named kept.lottery → ⊥
used_row H row found numbers are one used other new =
    used_number H numbers found.named.caller found.named.number are used
    (subst (λ (k : Kept). kept_of H k.named.caller k.named.number ≡ None) (one.only other new.is_row) new.is_new)

pub one_row : (H : History) (row : List ℕ) (found : Kept) (numbers : Numbers) (tables : Tables) → AreTables H tables → AreNumbersOf H numbers → IsTheOne (IsRowOf row) found → is_used numbers found.named.caller found.named.number ≡ false
    → is_some (full_refusal tables.commands (tables.bytes + length row)) ≡ false → IsTheOne (λ (kept : Kept). IsNewRow H row kept.named kept.lottery) found
one_row H row found numbers tables are used one fresh room = record {
  is = record {
    is_row = one.is;
    is_new = new_number H numbers found.named.caller found.named.number used fresh;
    has_room = sym (table_room H tables (length row) are) ∙ none_due (full_refusal tables.commands (tables.bytes + length row)) room;
  };
  only = λ other new. one.only other new.is_row;
}

abbrev kept_with : Named → List ℕ → Kept
kept_with its text = record { named = its; lottery = text }

pub one_kept : (a b : Kept) → (a.named ≡ b.named) × (a.lottery ≡ b.lottery) → a ≡ b
one_kept a b same = ap (λ (its : Named). kept_with its a.lottery) same.0 ∙ ap (kept_with b.named) same.1
