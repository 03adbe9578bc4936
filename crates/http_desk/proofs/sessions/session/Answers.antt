use Rattle.std.proofs.Common.{List, subst, true}
use Rattle.desk_routes.specs.declared.places.Routes.TheVariants.{ChairsAndWorker}
use Rattle.http_stream.specs.declared.ending.StreamEnd.{StreamEnd}
use Rattle.http_stream.specs.declared.intake.TheConstants.{MOST_STREAM_BYTES}
use Rattle.http_stream.specs.Streams.{Wrote}
use Rattle.http_desk.proofs.SessionLaws.{chairs_stay, unspent}
use Rattle.http_desk.proofs.sessions.session.Goals as goal

pub returns-clause-chairs : goal.returns-clause-chairs
returns-clause-chairs g c =
    let served = c.serve-end.ensures.stream in
    chairs_stay ChairsAndWorker _ served.0 _ served.1

pub returns-clause-answered : goal.returns-clause-answered
returns-clause-answered g c = λ spent.
    let served = c.serve-end.ensures.stream in
    unspent ChairsAndWorker MOST_STREAM_BYTES served.4 served.2 _ served.0 _ served.3 served.1
    (subst (λ (end : StreamEnd). Wrote MOST_STREAM_BYTES served.4 served.2 served.0 end served.3) spent served.8)
