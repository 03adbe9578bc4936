-- What may be asked at some routes may be asked where there are more.
use Rattle.desk_routes.specs.Served.{IsServed, ServeWorker}
use Rattle.desk_routes.specs.declared.places.Asked.{Asked}
use Rattle.desk_routes.specs.declared.places.Asked.TheVariants.{Do, Look, Take, Finish, Release}
use Rattle.desk_routes.specs.declared.places.Routes.{Routes}

pub served_there : (routes others : Routes) (asked : Asked) → (ServeWorker routes → ServeWorker others) → IsServed routes asked → IsServed others asked
served_there routes others (Do its) more is = is
served_there routes others (Look caller what) more is = is
served_there routes others Take more is = more is
served_there routes others Finish more is = more is
served_there routes others Release more is = more is
