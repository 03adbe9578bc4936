use Rattle.std.proofs.Common.{◌≡◌, ◌∙◌, IsSome, refl, subst, sym}
use Rattle.desk_keeper.specs.Keepers.{Tells}
use Rattle.desk_history.specs.Rows.{rows}
use Rattle.desk_routes.specs.declared.places.Routes.TheVariants.{ChairsAndWorker}
use Rattle.http_stream.specs.Exchanges.{Trail}
use Rattle.http_desk.specs.Hosts.{Passes}
use Rattle.http_desk.specs.Sessions.{Serves, SessionValue}
use Rattle.http_desk.proofs.TrailLaws.{passes_map}
use Rattle.http_desk.proofs.sessions.serve.Goals as goal

pub returns-clause-stream : goal.returns-clause-stream
returns-clause-stream g c =
    let served = c.serve_stream-end.ensures.stream in
    let K = g.P.Keeper in
    let both = passes_map _ Serves
    (λ h. (h.desk.ghost_name ≡ c.host-1.given) × (h.keeper.ghost_name ≡ c.host-2-1.given) × (IsSome (K.rows h.keeper.now) → IsSome (K.rows c.args.keeper.now)))
    (λ h. record { desk = h.desk.now; faults = K.faults h.keeper.now })
    (λ old asked answer new holds does. ((does.1 ∙ holds.0, does.2 ∙ holds.1, λ is. holds.2 (does.3 is)), does.0))
    ChairsAndWorker _ served.0 c.serve_stream-end.new.host (refl, refl, λ is. is) served.1 in
    let desk_is = c.desk-1.given.1 (sym both.0.0) in
    let keeper_is = c.keeper-1.given.1 (sym both.0.1) in
    let start : SessionValue = record { desk = c.args.desk.now; faults = K.faults c.args.keeper.now } in
    let trail = subst (λ d. Trail (Passes Serves ChairsAndWorker) start served.0 (record { desk = d; faults = K.faults c.keeper-1.given.0 })) (sym desk_is)
    (subst (λ k. Trail (Passes Serves ChairsAndWorker) start served.0 (record { desk = c.serve_stream-end.new.host.desk.now; faults = K.faults k })) (sym keeper_is) both.1) in
    (served.0, trail, served.2, served.3, served.4, served.5, served.6, served.7, served.8)

pub returns-clause-told : goal.returns-clause-told
returns-clause-told g c =
    let served = c.serve_stream-end.ensures.stream in
    let K = g.P.Keeper in
    let both = passes_map _ Serves
    (λ h. (h.desk.ghost_name ≡ c.host-1.given) × (h.keeper.ghost_name ≡ c.host-2-1.given) × (IsSome (K.rows h.keeper.now) → IsSome (K.rows c.args.keeper.now)))
    (λ h. record { desk = h.desk.now; faults = K.faults h.keeper.now })
    (λ old asked answer new holds does. ((does.1 ∙ holds.0, does.2 ∙ holds.1, λ is. holds.2 (does.3 is)), does.0))
    ChairsAndWorker _ served.0 c.serve_stream-end.new.host (refl, refl, λ is. is) served.1 in
    let desk_is = c.desk-1.given.1 (sym both.0.0) in
    let keeper_is = c.keeper-1.given.1 (sym both.0.1) in
    subst (λ d. Tells (K.rows c.keeper-1.given.0) (rows d.history)) (sym desk_is)
    (subst (λ k. Tells (K.rows k) (rows c.serve_stream-end.new.host.desk.now.history)) (sym keeper_is) c.serve_stream-end.ensures.ready.0)

pub returns-clause-untold : goal.returns-clause-untold
returns-clause-untold g c =
    let served = c.serve_stream-end.ensures.stream in
    let K = g.P.Keeper in
    let both = passes_map _ Serves
    (λ h. (h.desk.ghost_name ≡ c.host-1.given) × (h.keeper.ghost_name ≡ c.host-2-1.given) × (IsSome (K.rows h.keeper.now) → IsSome (K.rows c.args.keeper.now)))
    (λ h. record { desk = h.desk.now; faults = K.faults h.keeper.now })
    (λ old asked answer new holds does. ((does.1 ∙ holds.0, does.2 ∙ holds.1, λ is. holds.2 (does.3 is)), does.0))
    ChairsAndWorker _ served.0 c.serve_stream-end.new.host (refl, refl, λ is. is) served.1 in
    let desk_is = c.desk-1.given.1 (sym both.0.0) in
    let keeper_is = c.keeper-1.given.1 (sym both.0.1) in
    λ is. both.0.2 (subst (λ k. IsSome (K.rows k)) keeper_is is)
