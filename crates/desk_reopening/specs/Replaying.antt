-- What the replay of a row finds.
use Rattle.std.specs.Prelude.{◌≡◌, ℕ, ◌+◌, Bool, false, List, ◌∷◌, length, Option, Some, None, Result, Ok, Err, ⊤}
use Rattle.match_rules.specs.Answers.{Certified}
use Rattle.match_rules.specs.Pieces.{ArePieces}
use Rattle.match_rules.specs.Rules.{RulesValue}
use Rattle.match_rules.specs.declared.answer.Answer.{Answer}
use Rattle.match_rules.specs.declared.answer.Answer.TheVariants.{Lottery, Infeasible}
use Rattle.match_rules.specs.declared.answer.Mode.{Mode}
use Rattle.match_rules.specs.declared.answer.Winning.{Winning}
use Rattle.publication.specs.Certificates.{IsCertificate, answer_text}
use Rattle.publication.specs.declared.certificate.Certificate.{Certificate}
use Rattle.publication.specs.declared.refusal.ReadRefusal.{ReadRefusal}
use Rattle.publication.specs.declared.refusal.ReadRefusal.TheVariants as refusals
use Rattle.desk_keeper.specs.Rows.{IsRow}
use Rattle.desk_keeper.specs.declared.words.Command.{Command}
use Rattle.desk_keeper.specs.declared.words.Kept.{Kept}
use Rattle.desk_keeper.specs.declared.words.Named.{Named}
use Rattle.desk_history.specs.declared.refusals.Refusal.{Refusal}
use Rattle.desk_history.specs.Histories.{History, commands, kept}
use Rattle.desk_history.specs.Opened.{IsReadWith}
use Rattle.desk_history.specs.Refusals.{full_refusal, own_refusal}
use Rattle.desk_history.specs.Rows.{bytes}
use Rattle.desk_history.specs.SameCommands.{is_same_mode}
use Rattle.desk_history.specs.Steps.{accepted}
use Rattle.desk_reopening.specs.declared.faults.ReplayFault.{ReplayFault}
use Rattle.desk_reopening.specs.declared.faults.ReplayFault.TheVariants.{Damaged, Memory}

-- it is so, and nothing else is
pub record IsTheOne {A : Type 0} (P : A → Type 0) (x : A) : Type 0 where
  pub is : P x
  pub only : (other : A) → P other → other ≡ x

-- what is found alone is so, and damage says that nothing is; want of memory says nothing
abbrev pub Finds : {A : Type 0} → (A → Type 0) → Result A ReplayFault → Type 0
Finds P (Ok x) = IsTheOne P x
Finds P (Err Damaged) = (x : _) → ¬ (P x)
Finds P (Err Memory) = ⊤

-- the next history alone is so, and damage says that none is; want of memory says nothing
abbrev pub Leads : (History → Type 0) → Result (Unit {0}) ReplayFault → History → Type 0
Leads P (Ok done) next = IsTheOne P next
Leads P (Err Damaged) next = (other : History) → ¬ (P other)
Leads P (Err Memory) next = ⊤

-- damage is found where a refusal is due
abbrev pub IsFault : Option Refusal → ReplayFault → Type 0
IsFault due Damaged = ¬ (due ≡ None)
IsFault due Memory = ⊤

-- a text that is no answer's is damage
abbrev pub fault_of_reading : ReadRefusal → ReplayFault
fault_of_reading refusals.Memory = Memory
fault_of_reading other = Damaged

-- the answer is a lottery of this mode
abbrev pub is_lottery_in : Mode → Answer → Bool
is_lottery_in mode (Lottery winning) = is_same_mode winning.mode mode
is_lottery_in mode (Infeasible blocked) = false

-- the text is that of an answer which it may be read as for these rules
pub record IsReadAs (rules : RulesValue) (text : List ℕ) (answer : Answer) : Type 0 where
  pub certificate : IsCertificate rules answer
  pub written : text ≡ answer_text answer

-- a lottery that is certified for these rules in this mode, with pieces as a text may have
pub record IsSure (rules : RulesValue) (mode : Mode) (winning : Winning) : Type 0 where
  pub certified : Certified rules mode winning
  pub spelled : ArePieces winning.lottery

abbrev pub IsSureAnswer : RulesValue → Mode → Answer → Type 0
IsSureAnswer rules mode (Lottery winning) = IsSure rules mode winning
IsSureAnswer rules mode (Infeasible blocked) = ⊥

-- the text is that of a lottery of this mode that is certified for these rules
pub record IsKeptLottery (rules : RulesValue) (mode : Mode) (text : List ℕ) (answer : Answer) : Type 0 where
  pub sure : IsSureAnswer rules mode answer
  pub written : text ≡ answer_text answer

-- these rules, with the lottery that is kept for them as this text
pub record IsKeptWith (rules : RulesValue) (mode : Mode) (text : List ℕ) (read : Option Certificate) : Type 0 where
  pub answer : Answer
  pub kept : IsKeptLottery rules mode text answer
  pub is : read ≡ Some (record { rules = rules; answer = answer })

-- a command is accepted behind a history with what is read with it from the text of its row
pub record IsAcceptedWith (H : History) (command : Command) (text : List ℕ) (read : Option Certificate) : Type 0 where
  pub is_read : IsReadWith H command text read
  pub is_right : own_refusal H command read ≡ None

-- the next history has this command, accepted with what is read from the text of its row
pub record TakesUp (H : History) (its : Named) (text : List ℕ) (next : History) : Type 0 where
  pub read : Option Certificate
  pub is_accepted : IsAcceptedWith H its.command text read
  pub becomes : next ≡ accepted H its read ∷ H

-- the row is that of a command whose number is new and for which there is room
pub record IsNewRow (H : History) (row : List ℕ) (its : Named) (text : List ℕ) : Type 0 where
  pub is_row : IsRow row its text
  pub is_new : kept H its.caller its.number ≡ None
  pub has_room : full_refusal (commands H) (bytes H + length row) ≡ None

-- the row is that of the command
abbrev pub IsRowOf : List ℕ → Kept → Type 0
IsRowOf row kept = IsRow row kept.named kept.lottery
