-- What the words of an edit come to.
use Rattle.std.proofs.Common.{◌≡◌, ◌∙◌, ap, ℕ, List, Bool, true, false, Option, None, Some, refl}
use Rattle.std.specs.Prelude.{Ok, Err, if◌then◌else◌}
use Rattle.std.specs.Option.{ok_or}
use Rattle.desk_keeper.specs.Reading.{table_in, how_in}
use Rattle.desk_keeper.specs.Rows.{are_edit_words}
use Rattle.desk_keeper.specs.declared.words.TableWords.{TableWords}
use Rattle.desk_keeper.specs.declared.words.HowWords.{HowWords}
use Rattle.desk_routes.specs.Faults.{Asks}
use Rattle.desk_routes.specs.Targets.{edit_of, edit_place}
use Rattle.desk_routes.specs.declared.faults.AskFault.{AskFault}
use Rattle.desk_routes.specs.declared.faults.AskFault.TheVariants.{Refused, Memory}
use Rattle.desk_routes.specs.declared.faults.RouteFault.TheVariants.{NoRoute}
use Rattle.desk_routes.specs.declared.places.Place.{Place}
use Rattle.desk_routes.specs.declared.places.Place.TheVariants.{Edit}

-- no table, no edit
no_table : (table : Option TableWords) (how : Option HowWords) (fault : AskFault) → Asks {A = TableWords} (Err fault) (ok_or table NoRoute) → Asks {A = Place} (Err fault) (ok_or (edit_of table how) NoRoute)
no_table table how Memory h = tt
no_table None how (Refused fault) h =
    let same : NoRoute ≡ fault = cc in
    cc
no_table (Some table) how (Refused fault) h = absurd cc

pub edit_no_table : (second third : List ℕ) (fault : AskFault) → Asks {A = TableWords} (Err fault) (ok_or (table_in second) NoRoute) → Asks {A = Place} (Err fault) (ok_or (edit_place second third) NoRoute)
unfolding edit_place
edit_no_table second third fault h = no_table (table_in second) (how_in third) fault h

no_how : (found : Option TableWords) (how : Option HowWords) (table : TableWords) → ok_or found NoRoute ≡ Ok table → how ≡ None → ok_or (edit_of found how) NoRoute ≡ Err NoRoute
no_how None how table h none = absurd cc
no_how (Some other) None table h none = refl
no_how (Some other) (Some how) table h none = absurd cc

pub edit_no_how : (second third : List ℕ) (table : TableWords) → ok_or (table_in second) NoRoute ≡ Ok table → how_in third ≡ None → ok_or (edit_place second third) NoRoute ≡ Err NoRoute
unfolding edit_place
edit_no_how second third table h none = no_how (table_in second) (how_in third) table h none

some_table : (found : Option TableWords) (table : TableWords) → ok_or found NoRoute ≡ Ok table → found ≡ Some table
some_table None table h = absurd cc
some_table (Some other) table h = cc

-- the words of an edit
by_words : (found : Option TableWords) (how : Option HowWords) (table : TableWords) (h : HowWords) → found ≡ Some table → how ≡ Some h → edit_of found how ≡ edit_of (Some table) (Some h)
by_words found how table h t m = rw (t, m) refl

by_test : (table : TableWords) (how : HowWords) (may : Bool) → are_edit_words table how ≡ may → edit_of (Some table) (Some how) ≡ (if may then Some (Edit table how) else None)
by_test table how true e = rw e refl
by_test table how false e = rw e refl

edit_is : (second third : List ℕ) (table : TableWords) (how : HowWords) (may : Bool) → ok_or (table_in second) NoRoute ≡ Ok table → how_in third ≡ Some how → are_edit_words table how ≡ may → edit_place second third ≡ (if may then Some (Edit table how) else None)
unfolding edit_place
edit_is second third table how may t h e = by_words (table_in second) (how_in third) table how (some_table (table_in second) table t) h ∙ by_test table how may e

pub edit_wrong : (second third : List ℕ) (table : TableWords) (how : HowWords) → ok_or (table_in second) NoRoute ≡ Ok table → how_in third ≡ Some how → are_edit_words table how ≡ false → ok_or (edit_place second third) NoRoute ≡ Err NoRoute
edit_wrong second third table how t h e = ap (λ (place : Option Place). ok_or place NoRoute) (edit_is second third table how false t h e)

pub edit_right : (second third : List ℕ) (table : TableWords) (how : HowWords) → ok_or (table_in second) NoRoute ≡ Ok table → how_in third ≡ Some how → are_edit_words table how ≡ true → ok_or (edit_place second third) NoRoute ≡ Ok (Edit table how)
edit_right second third table how t h e = ap (λ (place : Option Place). ok_or place NoRoute) (edit_is second third table how true t h e)
