-- What a request asks of the desk, or what it is refused with.
use Rattle.std.specs.Prelude.{ℕ, List, codes, Result, Ok, Err, if◌then◌else◌}
use Rattle.std.specs.Option.{ok_or}
use Rattle.std.specs.Str.{bytes_eq}
use Rattle.desk_keeper.specs.declared.words.Command.{Command}
use Rattle.desk_keeper.specs.declared.words.Command.TheVariants as command
use Rattle.http_messages.specs.Fields.{FieldValue}
use Rattle.http_messages.specs.Requests.{RequestValue}
use Rattle.http_messages.specs.declared.replies.Method.{Method}
use Rattle.http_messages.specs.declared.replies.Method.TheVariants.{Get, Post}
use Rattle.desk_routes.specs.declared.faults.RouteFault.{RouteFault}
use Rattle.desk_routes.specs.declared.faults.RouteFault.TheVariants.{NoRoute, BadMethod, BadChair, BadNumber, BadBase}
use Rattle.desk_routes.specs.declared.places.Asked.{Asked}
use Rattle.desk_routes.specs.declared.places.Asked.TheVariants as asked
use Rattle.desk_routes.specs.declared.places.Place.{Place}
use Rattle.desk_routes.specs.declared.places.Place.TheVariants as place
use Rattle.desk_routes.specs.declared.places.Routes.{Routes}
use Rattle.desk_routes.specs.declared.places.Signed.{Signed}
use Rattle.desk_routes.specs.Fields.{chair_of, number_of}
use Rattle.desk_routes.specs.Targets.{place_of}

infixl 10 ◌>>=◌
abbrev pub ◌>>=◌ : {A B : Type 0} → Result A RouteFault → (A → Result B RouteFault) → Result B RouteFault
(Err fault) >>= f = Err fault
(Ok x) >>= f = f x

-- ---- the method

-- looks are got, all else is posted
abbrev pub method_of : Place → Method
method_of (place.Edit table how) = Post
method_of (place.Submit mode) = Post
method_of (place.Publish job) = Post
method_of (place.Draw publication) = Post
method_of (place.Look what) = Get
method_of place.Take = Post
method_of place.Finish = Post
method_of place.Release = Post

abbrev pub method_word : Method → List ℕ
method_word Get = codes "GET"
method_word Post = codes "POST"

abbrev pub allows : Method → List ℕ → Result (Unit {0}) RouteFault
allows method word = if bytes_eq word (method_word method) then Ok tt else Err (BadMethod method)

-- ---- the fields

-- who gives a command, and by which number
abbrev pub signed_by : List FieldValue → Result Signed RouteFault
signed_by fields = do
  caller ← ok_or (chair_of fields) BadChair
  number ← ok_or (number_of (codes "X-Number") fields) BadNumber
  Ok (record { caller = caller; number = number })

-- the edition that a command was made for
abbrev pub base_of : List FieldValue → Result ℕ RouteFault
base_of fields = ok_or (number_of (codes "X-Base") fields) BadBase

abbrev pub asks : Signed → Command → Asked
asks signed command = asked.Do (record { caller = signed.caller; number = signed.number; command = command })

-- ---- the request

-- what is asked at a place; a body belongs to an edit and to a draw alone
abbrev pub asked_at : Place → List FieldValue → List ℕ → Result Asked RouteFault
asked_at (place.Edit table how) fields body = do
  signed ← signed_by fields
  base ← base_of fields
  Ok (asks signed (command.Edit base (record { table = table; how = how; body = body })))
asked_at (place.Submit mode) fields body = do
  signed ← signed_by fields
  base ← base_of fields
  Ok (asks signed (command.Submit base mode))
asked_at (place.Publish job) fields body = do
  signed ← signed_by fields
  Ok (asks signed (command.Publish job))
asked_at (place.Draw publication) fields body = do
  signed ← signed_by fields
  Ok (asks signed (command.Draw publication body))
asked_at (place.Look what) fields body = do
  caller ← ok_or (chair_of fields) BadChair
  Ok (asked.Look caller what)
asked_at place.Take fields body = Ok asked.Take
asked_at place.Finish fields body = Ok asked.Finish
asked_at place.Release fields body = Ok asked.Release

-- the target first, then the method, then the fields
unfoldable pub asked_of : Routes → RequestValue → Result Asked RouteFault
asked_of routes request = do
  place ← ok_or (place_of routes request.target) NoRoute
  method ← allows (method_of place) request.method
  asked_at place request.fields request.body
