-- What may be asked at the routes that are served.
use Rattle.std.specs.Prelude.{◌≡◌, true, ⊤}
use Rattle.desk_keeper.specs.Rows.{are_edit_words}
use Rattle.desk_keeper.specs.declared.words.Command.{Command}
use Rattle.desk_keeper.specs.declared.words.Command.TheVariants.{Edit, Submit, Publish, Draw}
use Rattle.desk_routes.specs.declared.places.Asked.{Asked}
use Rattle.desk_routes.specs.declared.places.Asked.TheVariants.{Do, Look, Take, Finish, Release}
use Rattle.desk_routes.specs.declared.places.Routes.{Routes}
use Rattle.desk_routes.specs.declared.places.Routes.TheVariants.{Chairs, ChairsAndWorker}

-- settings are replaced alone, and values are those of a source
abbrev pub HasEditWords : Command → Type 0
HasEditWords (Edit base edit) = are_edit_words edit.table edit.how ≡ true
HasEditWords (Submit base mode) = ⊤
HasEditWords (Publish job) = ⊤
HasEditWords (Draw publication text) = ⊤

-- the routes of the worker are among these
abbrev pub ServeWorker : Routes → Type 0
ServeWorker Chairs = ⊥
ServeWorker ChairsAndWorker = ⊤

-- what may be asked: commands with the words that edits have, looks, and worker steps where the worker is served
abbrev pub IsServed : Routes → Asked → Type 0
IsServed routes (Do its) = HasEditWords its.command
IsServed routes (Look caller what) = ⊤
IsServed routes Take = ServeWorker routes
IsServed routes Finish = ServeWorker routes
IsServed routes Release = ServeWorker routes
