-- Words for the worked examples.
use Rattle.std.specs.Prelude.{ℕ, List, [], ◌∷◌, codes, Result}
use Rattle.desk_keeper.specs.declared.words.Command.{Command}
use Rattle.http_messages.specs.Fields.{FieldValue}
use Rattle.desk_routes.specs.Asking.{asked_of, asks}
use Rattle.desk_routes.specs.declared.faults.RouteFault.{RouteFault}
use Rattle.desk_routes.specs.declared.places.Asked.{Asked}
use Rattle.desk_routes.specs.declared.places.Asked.TheVariants as asked
use Rattle.desk_routes.specs.declared.places.Look.{Look}
use Rattle.desk_routes.specs.declared.places.Routes.{Routes}
use Rattle.desk_routes.specs.declared.places.Routes.TheVariants.{ChairsAndWorker}

abbrev pub chair : List ℕ → FieldValue
chair value = record { name = codes "X-Chair"; value = value }

abbrev pub number : List ℕ → FieldValue
number value = record { name = codes "x-number"; value = value }

abbrev pub base : List ℕ → FieldValue
base value = record { name = codes "X-BASE"; value = value }

-- the fields of a look, of a command, and of a command for an edition, of the chair `ann`
abbrev pub looks : List FieldValue
looks = chair (codes "ann") ∷ []

abbrev pub orders : List FieldValue
orders = chair (codes "ann") ∷ number (codes "5") ∷ []

abbrev pub plans : List FieldValue
plans = chair (codes "ann") ∷ number (codes "5") ∷ base (codes "3") ∷ []

-- what a request with the body `a,b` asks
unfoldable pub asked_with : Routes → List ℕ → List ℕ → List FieldValue → Result Asked RouteFault
asked_with routes method target fields = asked_of routes (record { method = method; target = target; fields = fields; body = codes "a,b" })

unfoldable pub get : List ℕ → List FieldValue → Result Asked RouteFault
get target fields = asked_with ChairsAndWorker (codes "GET") target fields

unfoldable pub post : List ℕ → List FieldValue → Result Asked RouteFault
post target fields = asked_with ChairsAndWorker (codes "POST") target fields

-- `ann` gives the command by the number 5
abbrev pub ordered : Command → Asked
ordered command = asks (record { caller = codes "ann"; number = 5 }) command

-- `ann` looks
abbrev pub looked : Look → Asked
looked what = asked.Look (codes "ann") what
