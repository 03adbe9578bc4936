-- How reads add up.
use Rattle.std.proofs.Common.{◌≡◌, ℕ, ◌+◌, ◌<◌, ◌≤◌, Bool, true, false, List, [], ◌∷◌, ◌++◌, length, Option, None, Some, append_assoc, refl, sym, ap, subst, ◌∙◌, arith}
use Rattle.std.specs.Prelude.{IsSome}
use Rattle.std.proofs.lemmas.List.{append-nil}
use Rattle.edge_io.specs.Counts.{Rose}
use Rattle.edge_io.specs.Told.{told}
use Rattle.http_framing.specs.Fronts.{Front, HasFront, continues, wants}
use Rattle.http_framing.specs.Heads.{blank_length}
use Rattle.http_stream.specs.Intakes.{Added, IsCaused, IsShort, IsUnread, Shed, Stops, StopsHere}
use Rattle.http_stream.specs.declared.stop.Stop.{Stop}
use Rattle.http_stream.specs.declared.stop.Stop.TheVariants.{Finished, Memory, ReadFault, Refused}
use Rattle.http_stream.proofs.ShedLaws.{shed_more, shed_none, shed_then}
use Rattle.http_stream.proofs.ShortLaws.{wants_front}

pub added_none : {o : Option (List ℕ)} → Added o o []
added_none {o = o} = record { untold = λ t. t; added = λ t. sym (append-nil (told o)) }

pub added_then : (old mid new : Option (List ℕ)) (first second : List ℕ) → Added old mid first → Added mid new second → Added old new (first ++ second)
added_then old mid new first second a b = record {
  untold = λ t. a.untold (b.untold t);
  added = λ t. b.added t ∙ ap (λ (xs : List ℕ). xs ++ second) (a.added (b.untold t)) ∙ append_assoc (told old) first second;
}

pub no_bytes : (bytes : List ℕ) → length bytes ≡ 0 → bytes ≡ []
no_bytes [] h = refl
no_bytes (x ∷ xs) h = absurd (omega arith)

-- where nothing was read, more was wanted
pub unread_stops : (room : ℕ) (bytes : List ℕ) (stop : Stop) (due : Bool) → IsUnread stop → HasFront room false bytes (wants due) → Stops room false bytes stop due
unread_stops room bytes Finished due h front = absurd h
unread_stops room bytes (Refused fault) due h front = absurd h
unread_stops room bytes ReadFault due h front = front
unread_stops room bytes Memory due h front = λ is. (wants due, front, is)

pub head_unread : (left : Option (List ℕ)) (room now : ℕ) (old new came : List ℕ) (stop : Stop) → now ≡ room → new ≡ old ++ came → came ≡ [] → IsUnread stop
    → blank_length old ≡ 0 → IsShort room old → StopsHere now new left stop false
head_unread left room now old new came stop same grown none unread blank short =
    let bytes : new ≡ old = grown ∙ ap (λ (xs : List ℕ). old ++ xs) none ∙ append-nil old in (
      false,
      λ e. absurd (cc),
      subst (λ (r : ℕ). Stops r false new stop false) (sym same)
          (subst (λ (xs : List ℕ). Stops room false xs stop false) (sym bytes) (unread_stops room old stop false unread (wants_front room old blank short))),
    )

pub shed_nil : (room : ℕ) (bytes : List ℕ) (left : ℕ) (rest : List ℕ) → Shed room bytes left rest → Shed room (bytes ++ []) left rest
shed_nil room bytes left rest s = subst (λ (xs : List ℕ). Shed room xs left rest) (sym (append-nil bytes)) s

pub shed_came : (room : ℕ) (bytes : List ℕ) (left : ℕ) (rest came : List ℕ) (last : ℕ) (end : List ℕ) → Shed room bytes left rest → last ≡ left → end ≡ rest ++ came
    → Shed room (bytes ++ came) last end
shed_came room bytes left rest came last end s same grown =
    subst (λ (r : ℕ). Shed room (bytes ++ came) r end) (sym same)
    (subst (λ (xs : List ℕ). Shed room (bytes ++ came) left xs) (sym grown) (shed_more room bytes left rest came s))

-- one read after another
pub shed_on : (room : ℕ) (bytes first : List ℕ) (left : ℕ) (rest second : List ℕ) (last : ℕ) (end : List ℕ) → Shed room (bytes ++ first) left rest
    → Shed left (rest ++ second) last end → Shed room (bytes ++ (first ++ second)) last end
shed_on room bytes first left rest second last end s t =
    subst (λ (xs : List ℕ). Shed room xs last end) (append_assoc bytes first second)
    (shed_then room ((bytes ++ first) ++ second) left (rest ++ second) last end (shed_more room (bytes ++ first) left rest second s) t)

pub rose_before : (old mid now : ℕ) → old ≤ mid → Rose mid now → Rose old now
rose_before old mid now later rose = omega arith

pub caused_before : (old mid now : ℕ) (stop : Stop) → old ≤ mid → IsCaused mid now stop → IsCaused old now stop
caused_before old mid now stop later cause = λ e. rose_before old mid now later (cause e)
