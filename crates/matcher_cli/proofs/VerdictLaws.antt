-- What is judged is what is checked, and each text has one answer.
use Rattle.std.proofs.Common.{◌≡◌, ℕ, List, Option, inl, inr, refl, sym, ap, subst}
use Rattle.match_rules.specs.declared.answer.Answer.{Answer}
use Rattle.match_rules.specs.Rules.{RulesValue}
use Rattle.publication.specs.Checks.{Holds}
use Rattle.matcher_cli.specs.declared.status.Status.{Status}
use Rattle.matcher_cli.specs.declared.status.Status.TheVariants.{Done, Broken, Infeasible, Usage, KeeperFault, Damaged, ReadFault, WriteFault, Refused, Memory}
use Rattle.matcher_cli.specs.Verdicts.{IsTextOf, Judges, Checks, IsFault, IsExact, IsFaultOf}
use Rattle.text_lines.specs.declared.fault.TextFault.{TextFault}

-- what is judged for a text is what is checked
pub judges_checks : (status : Status) (bytes : List ℕ) (rules : RulesValue) (answer : Answer) (old : List ℕ) (new : Option (List ℕ))
    → IsTextOf bytes rules answer → Judges status rules answer old new → Checks status bytes old new
judges_checks Done bytes rules answer old new text judged = (rules, answer, text, judged)
judges_checks Broken bytes rules answer old new text judged = (rules, answer, text, judged)
judges_checks Infeasible bytes rules answer old new text judged = judged
judges_checks Usage bytes rules answer old new text judged = judged
judges_checks KeeperFault bytes rules answer old new text judged = judged
judges_checks Damaged bytes rules answer old new text judged = judged
judges_checks ReadFault bytes rules answer old new text judged = tt
judges_checks WriteFault bytes rules answer old new text judged = inl (rules, answer, text, judged)
judges_checks Refused bytes rules answer old new text judged = absurd judged
judges_checks Memory bytes rules answer old new text judged = tt

-- a status that says nothing of the bytes
pub fault_exact : (bytes : List ℕ) (status : Status) → IsFault status → IsExact bytes status
fault_exact bytes status fault = record {
  valid = λ r a text holds. inr fault;
  invalid = λ r a text broken. inr fault;
  no_text = λ none. inr fault;
  fault = λ wrong is. inr fault;
}

abbrev pair_of : RulesValue → Answer → RulesValue × Answer
pair_of rules answer = (rules, answer)

-- validity is a matter of the bytes, where no other certificate has them
pub same_holds : (rules others : RulesValue) (answer other : Answer) → (rules ≡ others) × (answer ≡ other) → Holds others other → Holds rules answer
same_holds rules others answer other same holds =
    let first : Holds rules other = subst (λ (r : RulesValue). Holds r other) (sym same.0) holds in
    subst (λ (a : Answer). Holds rules a) (sym same.1) first

pub holds_too : (rules others : RulesValue) (answer other : Answer) → (rules ≡ others) × (answer ≡ other) → Holds rules answer → Holds others other
holds_too rules others answer other same holds =
    let first : Holds others answer = subst (λ (r : RulesValue). Holds r answer) same.0 holds in
    subst (λ (a : Answer). Holds others a) same.1 first

pub parts_same : (rules others : RulesValue) (answer other : Answer) → pair_of rules answer ≡ pair_of others other → (rules ≡ others) × (answer ≡ other)
parts_same rules others answer other e = (ap (λ (p : RulesValue × Answer). p.0) e, ap (λ (p : RulesValue × Answer). p.1) e)

-- what is judged for the only certificate of this text is exact
pub judges_exact : (status : Status) (bytes : List ℕ) (rules : RulesValue) (answer : Answer) (old : List ℕ) (new : Option (List ℕ))
    → IsTextOf bytes rules answer → ((wrong : TextFault) → ¬ (IsFaultOf wrong bytes)) → ((others : RulesValue) (other : Answer) → IsTextOf bytes others other → (rules ≡ others) × (answer ≡ other))
    → Judges status rules answer old new → IsExact bytes status
judges_exact Done bytes rules answer old new text right only judged = record {
  valid = λ r a t holds. inl refl;
  invalid = λ r a t broken. absurd (broken (holds_too rules r answer a (only r a t) judged.0));
  no_text = λ none. absurd (none rules answer text);
  fault = λ wrong is. absurd (right wrong is);
}
judges_exact Broken bytes rules answer old new text right only judged = record {
  valid = λ r a t holds. absurd (judged.1.invalid (same_holds rules r answer a (only r a t) holds));
  invalid = λ r a t broken. inl refl;
  no_text = λ none. absurd (none rules answer text);
  fault = λ wrong is. absurd (right wrong is);
}
judges_exact Infeasible bytes rules answer old new text right only judged = absurd judged
judges_exact Usage bytes rules answer old new text right only judged = absurd judged
judges_exact KeeperFault bytes rules answer old new text right only judged = absurd judged
judges_exact Damaged bytes rules answer old new text right only judged = absurd judged
judges_exact ReadFault bytes rules answer old new text right only judged = absurd judged
judges_exact WriteFault bytes rules answer old new text right only judged = fault_exact bytes WriteFault tt
judges_exact Refused bytes rules answer old new text right only judged = absurd judged
judges_exact Memory bytes rules answer old new text right only judged = fault_exact bytes Memory tt
