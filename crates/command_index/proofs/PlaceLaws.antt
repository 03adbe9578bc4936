-- Where a command stands in a history, its entry is, and it is the one that is kept.
use Rattle.std.proofs.Common.{◌≡◌, ◌∷◌, ◌++◌, [], ◌∙◌, ◌==◌, ◌&&◌, ℕ, Bool, true, false, List, Option, Some, None, cond, ap, length, reverse, refl, sym, subst, zero, suc, bytes_eq}
use Rattle.std.proofs.lemmas.List.{length-reverse, reverse-append}
use Rattle.std.proofs.lemmas.Bool.{false≢true}
use Rattle.std.proofs.lemmas.Bool.Decides.{Decides-and, Decides-eqb}
use Rattle.std.proofs.lemmas.Slice.Eq.{bytes_eq-Decides}
use Rattle.std.specs.List.{slice_get}
use Rattle.publication.specs.declared.certificate.Certificate.{Certificate}
use Rattle.desk_keeper.specs.declared.words.Command.{Command}
use Rattle.desk_history.specs.declared.entries.Done.{Done}
use Rattle.desk_history.specs.declared.entries.Entry.{Entry}
use Rattle.desk_history.specs.declared.entries.Entry.TheVariants.{Accepted, Ended, Released, Took}
use Rattle.desk_history.specs.Histories.{Earlier, History, commands, kept}
use Rattle.command_index.specs.declared.index.CommandPlace.{CommandPlace}
use Rattle.command_index.specs.Places.{place_in}
use Rattle.command_index.specs.Repeats.{accepted_by}

abbrev from_some : {A : Type 0} → A → Option A → A
from_some other None = other
from_some other (Some x) = x

some_equal : {A : Type 0} (a b : A) → Some a ≡ Some b → a ≡ b
some_equal a b e = ap (from_some a) e

abbrev is_there : {A : Type 0} → Option A → Bool
is_there None = false
is_there (Some x) = true

none_some : {A : Type 0} {P : Type 0} (x : A) (e : (let none : Option A = None in none ≡ Some x)) → P
none_some x e = absurd (false≢true (ap is_there e))

-- behind a list there is one item more
get_end : {A : Type 0} (xs : List A) (x : A) → slice_get (xs ++ x ∷ []) (length xs) ≡ Some x
get_end [] x = refl
get_end (y ∷ xs) x = get_end xs x

-- and the others stand where they did
get_more : {A : Type 0} (xs : List A) (x y : A) (i : ℕ) → slice_get xs i ≡ Some y → slice_get (xs ++ x ∷ []) i ≡ Some y
get_more [] x y i is = none_some y is
get_more (z ∷ xs) x y zero is = is
get_more (z ∷ xs) x y (suc i) is = get_more xs x y i is

reversed_once : (entry : Entry) (H : History) → reverse (entry ∷ H) ≡ reverse H ++ entry ∷ []
reversed_once entry H = reverse-append (entry ∷ []) H

newest : (entry : Entry) (H : History) → slice_get (reverse (entry ∷ H)) (length H) ≡ Some entry
newest entry H =
    ap (λ (xs : List Entry). slice_get xs (length H)) (reversed_once entry H)
    ∙ ap (slice_get (reverse H ++ entry ∷ [])) (sym (length-reverse H))
    ∙ get_end (reverse H) entry

older : (entry : Entry) (H : History) (other : Entry) (i : ℕ) → slice_get (reverse H) i ≡ Some other → slice_get (reverse (entry ∷ H)) i ≡ Some other
older entry H other i is = ap (λ (xs : List Entry). slice_get xs i) (reversed_once entry H) ∙ get_more (reverse H) entry other i is

-- an accepted command stands at a place, and it is what is kept
pub record Stands (H : History) (earlier : Option Earlier) (place : CommandPlace) : Type 0 where
  pub by : List ℕ
  pub its : ℕ
  pub command : Command
  pub reply : Done
  pub read : Option Certificate
  pub there : slice_get (reverse H) place.entry ≡ Some (Accepted by its command reply read)
  pub same : earlier ≡ Some (record { place = place.command; command = command; reply = reply })

later : (entry : Entry) (H : History) (earlier : Option Earlier) (place : CommandPlace) → Stands H earlier place → Stands (entry ∷ H) earlier place
later entry H earlier place stands = record {
  by = stands.by;
  its = stands.its;
  command = stands.command;
  reply = stands.reply;
  read = stands.read;
  there = older entry H (Accepted stands.by stands.its stands.command stands.reply stands.read) place.entry stands.there;
  same = stands.same;
}

here : (H : History) (by : List ℕ) (its : ℕ) (command : Command) (reply : Done) (read : Option Certificate)
    → Stands (Accepted by its command reply read ∷ H) (Some (record { place = commands H; command = command; reply = reply })) (record { entry = length H; command = commands H })
here H by its command reply read = record {
  by = by;
  its = its;
  command = command;
  reply = reply;
  read = read;
  there = newest (Accepted by its command reply read) H;
  same = refl;
}

stands_on : (test : Bool) (H : History) (by : List ℕ) (its : ℕ) (command : Command) (reply : Done) (read : Option Certificate) (found : Option CommandPlace) (earlier : Option Earlier) (place : CommandPlace)
    → cond test (Some (record { entry = length H; command = commands H })) found ≡ Some place
    → (found ≡ Some place → Stands H earlier place)
    → Stands (Accepted by its command reply read ∷ H) (cond test (Some (record { place = commands H; command = command; reply = reply })) earlier) place
stands_on true H by its command reply read found earlier place is rest =
    subst (λ (at : CommandPlace). Stands (Accepted by its command reply read ∷ H) (Some (record { place = commands H; command = command; reply = reply })) at)
    (some_equal (record { entry = length H; command = commands H }) place is) (here H by its command reply read)
stands_on false H by its command reply read found earlier place is rest = later (Accepted by its command reply read) H earlier place (rest is)

pub stands_at : (H : History) (caller : List ℕ) (number : ℕ) (place : CommandPlace) → place_in H caller number ≡ Some place → Stands H (kept H caller number) place
stands_at [] caller number place is = none_some place is
stands_at (Accepted by its command reply read ∷ H) caller number place is =
    stands_on (bytes_eq by caller && its == number) H by its command reply read (place_in H caller number) (kept H caller number) place is (stands_at H caller number place)
stands_at (Took bench job ∷ H) caller number place is = later (Took bench job) H (kept H caller number) place (stands_at H caller number place is)
stands_at (Ended bench done ∷ H) caller number place is = later (Ended bench done) H (kept H caller number) place (stands_at H caller number place is)
stands_at (Released bench ∷ H) caller number place is = later (Released bench) H (kept H caller number) place (stands_at H caller number place is)

pub kept_there : (H : History) (caller : List ℕ) (number : ℕ) (place : CommandPlace) → place_in H caller number ≡ Some place
    → accepted_by place.command (slice_get (reverse H) place.entry) ≡ kept H caller number
kept_there H caller number place is =
    let stands = stands_at H caller number place is in
    ap (accepted_by place.command) stands.there ∙ sym stands.same

none_on : (test : Bool) (place : CommandPlace) (found : Option CommandPlace) (now : Earlier) (earlier : Option Earlier)
    → cond test (Some place) found ≡ None → (found ≡ None → earlier ≡ None) → cond test (Some now) earlier ≡ None
none_on true place found now earlier is rest = none_some place (sym is)
none_on false place found now earlier is rest = rest is

-- a command that stands nowhere isn't kept
pub none_at : (H : History) (caller : List ℕ) (number : ℕ) → place_in H caller number ≡ None → kept H caller number ≡ None
none_at [] caller number is = refl
none_at (Accepted by its command reply read ∷ H) caller number is =
    none_on (bytes_eq by caller && its == number) (record { entry = length H; command = commands H }) (place_in H caller number)
    (record { place = commands H; command = command; reply = reply }) (kept H caller number) is (none_at H caller number)
none_at (Took bench job ∷ H) caller number is = none_at H caller number is
none_at (Ended bench done ∷ H) caller number is = none_at H caller number is
none_at (Released bench ∷ H) caller number is = none_at H caller number is

-- and one that isn't kept stands nowhere
pub nowhere : (H : History) (caller : List ℕ) (number : ℕ) → kept H caller number ≡ None → place_in H caller number ≡ None
nowhere H caller number none = on (place_in H caller number) refl
  where
    on : (found : Option CommandPlace) → place_in H caller number ≡ found → place_in H caller number ≡ None
    on None is = is
    on (Some place) is =
        let stands = stands_at H caller number place is in
        none_some (record { place = place.command; command = stands.command; reply = stands.reply }) (sym none ∙ stands.same)

-- a place that was put for a command that stands nowhere, and taken out again
out_on : (test : Bool) (place : CommandPlace) (found there : Option CommandPlace) → (test ≡ true → there ≡ None) → found ≡ there → cond test None (cond test (Some place) found) ≡ there
out_on true place found there none is = sym (none refl)
out_on false place found there none is = is

pub taken_out : (H : History) (caller : List ℕ) (number : ℕ) (by : List ℕ) (its : ℕ) (place : CommandPlace) (found : Option CommandPlace)
    → place_in H caller number ≡ None → found ≡ place_in H by its
    → cond (bytes_eq caller by && number == its) None (cond (bytes_eq caller by && number == its) (Some place) found) ≡ place_in H by its
taken_out H caller number by its place found none is = out_on (bytes_eq caller by && number == its) place found (place_in H by its) same is
  where
    same : (bytes_eq caller by && number == its) ≡ true → place_in H by its ≡ None
    same e =
        let both = (Decides-and (bytes_eq caller by) (number == its) (bytes_eq-Decides caller by) (Decides-eqb number its)).0 e in
        ap (λ b. place_in H b its) (sym both.0) ∙ ap (place_in H caller) (sym both.1) ∙ none
