-- Each edition of a history makes rules, where each present one does.
use Rattle.std.proofs.Common.{◌≡◌, ◌∷◌, [], ◌≤◌, ℕ, List, Bool, true, false, arith, cond, refl, subst, sym}
use Rattle.std.specs.Prelude.{nat_lt}
use Rattle.venue_rules.specs.Venues.{VenueValue}
use Rattle.desk_keeper.specs.declared.words.Command.TheVariants.{Edit, Submit, Publish, Draw}
use Rattle.desk_history.specs.declared.entries.Entry.{Entry}
use Rattle.desk_history.specs.declared.entries.Entry.TheVariants.{Accepted, Took, Ended, Released}
use Rattle.desk_history.specs.Histories.{History, edition, edits, present}
use Rattle.desk_history.specs.Opened.{Replays}
use Rattle.desk_history.specs.Steps.{accepted}
use Rattle.desk_reopening.specs.Editions.{EditionsMakeRules, MakesRules}

pub none_makes : (H : History) → H ≡ [] → MakesRules (present H) → EditionsMakeRules H
none_makes H empty now = subst EditionsMakeRules (sym empty) (λ n le. subst (λ (h : History). MakesRules (present h)) empty now)

either_makes : (test : Bool) (a b : VenueValue) → MakesRules a → (test ≡ false → MakesRules b) → MakesRules (cond test a b)
either_makes true a b now before = now
either_makes false a b now before = before refl

not_less : (a b : ℕ) → nat_lt a b ≡ false → b ≤ a
not_less a b e = search (arith, e)

-- an entry leaves the editions, or adds the present one
pub entry_makes : (entry : Entry) (H : History) → EditionsMakeRules H → MakesRules (present (entry ∷ H)) → EditionsMakeRules (entry ∷ H)
entry_makes (Accepted caller number (Edit base edit) reply read) H all now n le =
    either_makes (nat_lt (edits H) n) (present (Accepted caller number (Edit base edit) reply read ∷ H)) (edition H n) now (λ e. all n (not_less (edits H) n e))
entry_makes (Accepted caller number (Submit base mode) reply read) H all now n le = all n le
entry_makes (Accepted caller number (Publish job) reply read) H all now n le = all n le
entry_makes (Accepted caller number (Draw publication text) reply read) H all now n le = all n le
entry_makes (Took bench job) H all now n le = all n le
entry_makes (Ended bench done) H all now n le = all n le
entry_makes (Released bench) H all now n le = all n le

pub row_makes : (H : History) (row : List ℕ) (next : History) → Replays H row next → EditionsMakeRules H → MakesRules (present next) → EditionsMakeRules next
row_makes H row next r all now =
    subst EditionsMakeRules (sym r.becomes) (entry_makes (accepted H r.its r.read) H all (subst (λ (h : History). MakesRules (present h)) r.becomes now))
