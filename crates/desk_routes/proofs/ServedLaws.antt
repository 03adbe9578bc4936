-- What a request asks may be asked.
use Rattle.std.proofs.Common.{◌≡◌, ℕ, List, Option, None, Some, Result, Ok, Err, subst}
use Rattle.std.specs.Prelude.{⊤}
use Rattle.std.specs.Option.{ok_or}
use Rattle.http_messages.specs.Fields.{FieldValue}
use Rattle.http_messages.specs.Requests.{RequestValue}
use Rattle.desk_routes.specs.declared.faults.RouteFault.{RouteFault}
use Rattle.desk_routes.specs.declared.faults.RouteFault.TheVariants.{NoRoute, BadChair}
use Rattle.desk_routes.specs.declared.places.Asked.{Asked}
use Rattle.desk_routes.specs.declared.places.Place.{Place}
use Rattle.desk_routes.specs.declared.places.Place.TheVariants.{Edit, Submit, Publish, Draw, Look, Take, Finish, Release}
use Rattle.desk_routes.specs.declared.places.Routes.{Routes}
use Rattle.desk_routes.specs.Asking.{◌>>=◌, allows, asked_at, asked_of, base_of, method_of, signed_by}
use Rattle.desk_routes.specs.Fields.{chair_of}
use Rattle.desk_routes.specs.Served.{IsServed}
use Rattle.desk_routes.specs.Targets.{place_of}
use Rattle.desk_routes.proofs.PlaceLaws.{IsServedAt, ServedSome, place_served}

abbrev ServedOk : Routes → Result Asked RouteFault → Type 0
ServedOk routes (Ok asked) = IsServed routes asked
ServedOk routes (Err fault) = ⊤

asked_then : {A : Type 0} (routes : Routes) (found : Result A RouteFault) (f : A → Result Asked RouteFault) → ((x : A) → ServedOk routes (f x)) → ServedOk routes (found >>= f)
asked_then routes (Ok x) f is = is x
asked_then routes (Err fault) f is = tt

at_place : (routes : Routes) (place : Place) (fields : List FieldValue) (body : List ℕ) → IsServedAt routes place → ServedOk routes (asked_at place fields body)
at_place routes (Edit table how) fields body is = asked_then routes (signed_by fields) _ (λ signed. asked_then routes (base_of fields) _ (λ base. is))
at_place routes (Submit mode) fields body is = asked_then routes (signed_by fields) _ (λ signed. asked_then routes (base_of fields) _ (λ base. tt))
at_place routes (Publish job) fields body is = asked_then routes (signed_by fields) _ (λ signed. tt)
at_place routes (Draw publication) fields body is = asked_then routes (signed_by fields) _ (λ signed. tt)
at_place routes (Look what) fields body is = asked_then routes (ok_or (chair_of fields) BadChair) _ (λ caller. tt)
at_place routes Take fields body is = is
at_place routes Finish fields body is = is
at_place routes Release fields body is = is

at_found : (routes : Routes) (found : Option Place) (request : RequestValue) → ServedSome routes found
    → ServedOk routes (ok_or found NoRoute >>= (λ place. allows (method_of place) request.method >>= (λ method. asked_at place request.fields request.body)))
at_found routes None request is = tt
at_found routes (Some place) request is = asked_then routes (allows (method_of place) request.method) _ (λ method. at_place routes place request.fields request.body is)

asks_served : (routes : Routes) (request : RequestValue) → ServedOk routes (asked_of routes request)
unfolding asked_of
asks_served routes request = at_found routes (place_of routes request.target) request (place_served routes request.target)

-- what a request asks may be asked
pub request_served : (routes : Routes) (request : RequestValue) (asked : Asked) → asked_of routes request ≡ Ok asked → IsServed routes asked
request_served routes request asked is = subst (ServedOk routes) is (asks_served routes request)
