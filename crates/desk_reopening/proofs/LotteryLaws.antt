-- Answers that are read from their text, and lotteries among them.
use Rattle.std.proofs.Common.{◌≡◌, ◌∙◌, ◌↔◌, IsTrue, ℕ, Bool, true, false, List, Result, Ok, Err, ap, refl, subst, sym}
use Rattle.std.proofs.lemmas.Bool.{false≢true}
use Rattle.match_rules.specs.Answers.{Certified}
use Rattle.match_rules.specs.Rules.{AreRules, RulesValue}
use Rattle.match_rules.specs.declared.answer.Answer.{Answer}
use Rattle.match_rules.specs.declared.answer.Answer.TheVariants.{Lottery, Infeasible}
use Rattle.match_rules.specs.declared.answer.Mode.{Mode}
use Rattle.match_rules.specs.declared.answer.Mode.TheVariants.{Whole, Fair}
use Rattle.match_rules.specs.declared.answer.Winning.{Winning}
use Rattle.publication.specs.Certificates.{IsCertificate, answer_text}
use Rattle.publication.specs.Checks.{Holds}
use Rattle.publication.specs.Refusals.{ReadAs}
use Rattle.publication.specs.declared.refusal.ReadRefusal.{ReadRefusal}
use Rattle.publication.specs.declared.refusal.ReadRefusal.TheVariants.{Memory, ReadFault, Truncated, BadLine, Trailing}
use Rattle.desk_history.specs.SameCommands.{is_same_mode}
use Rattle.desk_reopening.specs.declared.faults.ReplayFault.{ReplayFault}
use Rattle.desk_reopening.specs.declared.faults.ReplayFault.TheVariants as faults
use Rattle.desk_reopening.specs.Replaying.{Finds, IsKeptLottery, IsReadAs, IsSureAnswer, IsTheOne, fault_of_reading, is_lottery_in}

mode_equal : (a b : Mode) → is_same_mode a b ≡ true → a ≡ b
mode_equal Whole Whole e = refl
mode_equal Whole Fair e = absurd (false≢true e)
mode_equal Fair Whole e = absurd (false≢true e)
mode_equal Fair Fair e = refl

mode_same : (a : Mode) → is_same_mode a a ≡ true
mode_same Whole = refl
mode_same Fair = refl

-- A text that is refused is no answer's

abbrev no_fault : ReadRefusal → Type 0
no_fault refusal = (let failed : Result Answer ReadRefusal = Err refusal in failed ≡ Err ReadFault) → ⊥

pub refused_whole : (value : RulesValue) (text : List ℕ) (refusal : ReadRefusal) → no_fault refusal
    → ((answer : Answer) → IsCertificate value answer → text ≡ answer_text answer → ReadAs (λ (a : Answer). a) answer (Err refusal))
    → Finds (IsReadAs value text) (Err (fault_of_reading refusal))
refused_whole value text Memory fault only = tt
refused_whole value text ReadFault fault only = absurd (fault refl)
refused_whole value text Truncated fault only = λ answer is. only answer is.certificate is.written
refused_whole value text (BadLine number code) fault only = λ answer is. only answer is.certificate is.written
refused_whole value text Trailing fault only = λ answer is. only answer is.certificate is.written

-- A sure lottery may be read from its text, and is valid

pub sure_certificate : (value : RulesValue) (mode : Mode) (answer : Answer) → AreRules value → IsSureAnswer value mode answer → IsCertificate value answer
sure_certificate value mode (Lottery winning) are sure = record { rules_kept = are; suits = rw sure.certified.of_mode sure.certified.suits; matching = sure.certified.fitting; spelled = sure.spelled }
sure_certificate value mode (Infeasible blocked) are sure = absurd sure

pub sure_mode : (value : RulesValue) (mode : Mode) (answer : Answer) → IsSureAnswer value mode answer → is_lottery_in mode answer ≡ true
sure_mode value mode (Lottery winning) sure = ap (λ m. is_same_mode m mode) sure.certified.of_mode ∙ mode_same mode
sure_mode value mode (Infeasible blocked) sure = absurd sure

pub sure_holds : (value : RulesValue) (mode : Mode) (answer : Answer) → IsSureAnswer value mode answer → Holds value answer
sure_holds value mode (Lottery winning) sure = subst (λ (m : Mode). Certified value m winning) (sym sure.certified.of_mode) sure.certified
sure_holds value mode (Infeasible blocked) sure = absurd sure

pub holds_sure : (value : RulesValue) (mode : Mode) (answer : Answer) → IsCertificate value answer → is_lottery_in mode answer ≡ true → Holds value answer → IsSureAnswer value mode answer
holds_sure value mode (Lottery winning) is same holds = record {
  certified = subst (λ (m : Mode). Certified value m winning) (mode_equal winning.mode mode same) holds;
  spelled = is.spelled;
}
holds_sure value mode (Infeasible blocked) is same holds = absurd (false≢true same)

pub kept_read : (value : RulesValue) (mode : Mode) (text : List ℕ) (answer : Answer) → AreRules value → IsKeptLottery value mode text answer → IsReadAs value text answer
kept_read value mode text answer are kept = record { certificate = sure_certificate value mode answer are kept.sure; written = kept.written }

-- a text that isn't read is that of no lottery
pub unread : (value : RulesValue) (mode : Mode) (text : List ℕ) (fault : ReplayFault) → AreRules value → Finds (IsReadAs value text) (Err fault) → Finds (IsKeptLottery value mode text) (Err fault)
unread value mode text faults.Damaged are none = λ answer kept. none answer (kept_read value mode text answer are kept)
unread value mode text faults.Memory are none = tt

-- nor is one that is read as an answer of another mode, or as one that doesn't hold
pub other_mode : (value : RulesValue) (mode : Mode) (text : List ℕ) (answer : Answer) → AreRules value → IsTheOne (IsReadAs value text) answer → is_lottery_in mode answer ≡ false
    → (other : Answer) → IsKeptLottery value mode text other → ⊥
other_mode value mode text answer are one not other kept =
    let same : other ≡ answer = one.only other (kept_read value mode text other are kept) in
    false≢true (sym not ∙ subst (λ (a : Answer). is_lottery_in mode a ≡ true) same (sure_mode value mode other kept.sure))

pub not_valid : (value : RulesValue) (mode : Mode) (text : List ℕ) (answer : Answer) → AreRules value → IsTheOne (IsReadAs value text) answer → (Holds value answer → ⊥)
    → (other : Answer) → IsKeptLottery value mode text other → ⊥
not_valid value mode text answer are one not other kept =
    let same : other ≡ answer = one.only other (kept_read value mode text other are kept) in
    not (subst (λ (a : Answer). Holds value a) same (sure_holds value mode other kept.sure))

pub one_lottery : (value : RulesValue) (mode : Mode) (text : List ℕ) (answer : Answer) → AreRules value → IsTheOne (IsReadAs value text) answer → is_lottery_in mode answer ≡ true → Holds value answer
    → IsTheOne (IsKeptLottery value mode text) answer
one_lottery value mode text answer are one same holds = record {
  is = record { sure = holds_sure value mode answer one.is.certificate same holds; written = one.is.written };
  only = λ other kept. one.only other (kept_read value mode text other are kept);
}
