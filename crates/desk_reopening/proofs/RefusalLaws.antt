-- Refusals that are due, and damage.
use Rattle.std.proofs.Common.{◌≡◌, ◌∙◌, Bool, true, false, Option, None, Some, refl, sym}
use Rattle.std.proofs.lemmas.Bool.{false≢true}
use Rattle.match_rules.specs.First.{first_of_two}
use Rattle.desk_history.specs.declared.refusals.Refusal.{Refusal}
use Rattle.desk_history.specs.declared.refusals.Refusal.TheVariants.{KeeperFault, Memory}
use Rattle.desk_history.specs.Refusals.{IsDue, refuse_if}
use Rattle.desk_reopening.proofs.ListLaws.{none_some}

pub first_none : {A : Type 0} (a b : Option A) → first_of_two a b ≡ None → (a ≡ None) × (b ≡ None)
first_none None b e = (refl, e)
first_none (Some x) b e = none_some x (sym e)

pub due_is_some : (due : Option Refusal) (refusal : Refusal) → IsDue due refusal → ((refusal ≡ Memory) → ⊥) → due ≡ None → ⊥
due_is_some due Memory is other none = other refl
due_is_some due KeeperFault is other none = is
due_is_some due refusal is other none = none_some refusal (sym none ∙ is)

-- a test that holds has a refusal
pub refused_if : (test : Bool) (why : Refusal) → test ≡ true → refuse_if test why ≡ None → ⊥
refused_if true why holds none = none_some why (sym none)
refused_if false why holds none = false≢true holds

-- without a refusal the test doesn't hold
pub refused_not : (test : Bool) (why : Refusal) → refuse_if test why ≡ None → test ≡ false
refused_not true why none = none_some why (sym none)
refused_not false why none = refl
