-- In a legal history each lottery has pieces such as a text may have.
use Rattle.std.proofs.Common.{◌≡◌, ℕ, Bool, true, false, cond, eqb, List, [], ◌∷◌, length, Option, None, Some, IfSome, subst, sym, inl, inr}
use Rattle.std.specs.Prelude.{⊤}
use Rattle.publication.specs.declared.certificate.Certificate.{Certificate}
use Rattle.desk_keeper.specs.declared.words.Command.{Command}
use Rattle.desk_keeper.specs.declared.words.Command.TheVariants.{Edit, Submit, Publish, Draw}
use Rattle.desk_history.specs.declared.entries.Entry.{Entry}
use Rattle.desk_history.specs.declared.entries.Entry.TheVariants.{Accepted, Took, Ended, Released}
use Rattle.desk_history.specs.declared.requests.Work.TheVariants as work
use Rattle.desk_history.specs.Histories.{History, brought_at, brought_by}
use Rattle.desk_history.specs.Opened.{IsLegal, IsReadWith, Replay}
use Rattle.desk_history.specs.Steps.{IsTypedAnswer}
use Rattle.desk_laws.proofs.EvidenceLaws.{none_some}
use Rattle.desk_laws.proofs.MadeLaws.{IsMade, made_entry}

-- what was brought, if anything, is an answer that a text may have
abbrev pub IsSpelt : Option Certificate → Type 0
IsSpelt brought = IfSome brought (λ certificate. IsTypedAnswer certificate.answer)

abbrev pub AreSpelt : History → Type 0
AreSpelt [] = ⊤
AreSpelt (entry ∷ H) = IsSpelt (brought_by entry) × AreSpelt H

spelt_at : (test : Bool) (here later : Option Certificate) (shown : Certificate) → cond test here later ≡ Some shown → IsSpelt here → (later ≡ Some shown → IsTypedAnswer shown.answer) → IsTypedAnswer shown.answer
spelt_at true here later shown e is rest = subst IsSpelt e is
spelt_at false here later shown e is rest = rest e

brought_spelt : (H : History) (place : ℕ) (shown : Certificate) → AreSpelt H → brought_at H (Some place) ≡ Some shown → IsTypedAnswer shown.answer
brought_spelt [] place shown all e = none_some shown e
brought_spelt (entry ∷ H) place shown all e = spelt_at (eqb place (length H)) (brought_by entry) (brought_at H (Some place)) shown e all.0 (brought_spelt H place shown all.1)

-- an answer that decides a job is such
pub evidence_spelt : (H : History) (decided : Option ℕ) (shown : Certificate) → AreSpelt H → brought_at H decided ≡ Some shown → IsTypedAnswer shown.answer
evidence_spelt H None shown all e = none_some shown e
evidence_spelt H (Some place) shown all e = brought_spelt H place shown all e

made_spelt : (chairs : List (List ℕ)) (H : History) (entry : Entry) → IsMade chairs H entry → IsSpelt (brought_by entry)
made_spelt chairs H (Accepted caller number command reply read) is = subst IsSpelt (sym is.unread) tt
made_spelt chairs H (Took bench job) is = tt
made_spelt chairs H (Ended bench (work.Answered certificate)) is = is
made_spelt chairs H (Ended bench work.OutOfMemory) is = tt
made_spelt chairs H (Released bench) is = tt

read_spelt : (H : History) (command : Command) (text : List ℕ) (read : Option Certificate) → IsReadWith H command text read → IsSpelt read
read_spelt H (Edit base edit) text read is = subst IsSpelt (sym is) tt
read_spelt H (Submit base mode) text read is = subst IsSpelt (sym is) tt
read_spelt H (Publish job) text read is = subst IsSpelt (sym is.read) is.spelled
read_spelt H (Draw publication drawn) text read is = subst IsSpelt (sym is) tt

replay_spelt : (H : History) (rows : List (List ℕ)) (end : History) → Replay H rows end → AreSpelt H → AreSpelt end
replay_spelt H [] end same all = subst AreSpelt (sym same) all
replay_spelt H (row ∷ rows) end (next, first, rest) all =
    replay_spelt next rows end rest (subst AreSpelt (sym first.becomes) (read_spelt H first.its.command first.text first.read first.is_read, all))

pub legal_spelt : (chairs : List (List ℕ)) (H : History) → IsLegal chairs H → AreSpelt H
legal_spelt chairs [] legal = tt
legal_spelt chairs (entry ∷ H) (inl opened) = replay_spelt [] opened.0 (entry ∷ H) opened.1 tt
legal_spelt chairs (entry ∷ H) (inr legal) = (made_spelt chairs H entry (made_entry chairs H entry legal.1), legal_spelt chairs H legal.0)
