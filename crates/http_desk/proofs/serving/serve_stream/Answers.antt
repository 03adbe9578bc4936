use Rattle.std.proofs.Common.{◌≡◌, refl, subst, sym, ap, ◌∙◌}
use Rattle.desk_routes.specs.Served.{ServeWorker}
use Rattle.http_stream.specs.Exchanges.{Trail}
use Rattle.http_desk.specs.Hosts.{Passes}
use Rattle.http_desk.proofs.TrailLaws.{trail_map}
use Rattle.http_desk.proofs.serving.serve_stream.Goals as goal

pub returns-clause-ready : goal.returns-clause-ready
returns-clause-ready g c =
    let served = c.serve_stream.ensures.stream in
    let H = g.H.Host in
    let both = trail_map _ (Passes H.does c.args.routes)
    (λ r. (r.routes ≡ c.args.routes) × (r.host.ghost_name ≡ c.routed-1.given) × (H.routes r.host.now ≡ H.routes c.args.host.now)) (λ r. r.host.now)
    (λ old request answer new holds does. ((does.1 ∙ holds.0, does.2 ∙ holds.1, does.3 ∙ holds.2), subst (λ routes. Passes H.does routes old.host.now request answer new.host.now) holds.0 does.0))
    _ served.0 c.serve_stream.new.handler (refl, refl, refl) served.1 in
    let tie = c.host-1.given.1 (sym both.0.1) in
    subst (λ h. H.ready h) (sym tie) c.serve_stream.ensures.ready.0

pub returns-clause-same : goal.returns-clause-same
returns-clause-same g c =
    let served = c.serve_stream.ensures.stream in
    let H = g.H.Host in
    let both = trail_map _ (Passes H.does c.args.routes)
    (λ r. (r.routes ≡ c.args.routes) × (r.host.ghost_name ≡ c.routed-1.given) × (H.routes r.host.now ≡ H.routes c.args.host.now)) (λ r. r.host.now)
    (λ old request answer new holds does. ((does.1 ∙ holds.0, does.2 ∙ holds.1, does.3 ∙ holds.2), subst (λ routes. Passes H.does routes old.host.now request answer new.host.now) holds.0 does.0))
    _ served.0 c.serve_stream.new.handler (refl, refl, refl) served.1 in
    let tie = c.host-1.given.1 (sym both.0.1) in
    ap (λ h. H.routes h) tie ∙ both.0.2

pub returns-clause-stream : goal.returns-clause-stream
returns-clause-stream g c =
    let served = c.serve_stream.ensures.stream in
    let H = g.H.Host in
    let both = trail_map _ (Passes H.does c.args.routes)
    (λ r. (r.routes ≡ c.args.routes) × (r.host.ghost_name ≡ c.routed-1.given) × (H.routes r.host.now ≡ H.routes c.args.host.now)) (λ r. r.host.now)
    (λ old request answer new holds does. ((does.1 ∙ holds.0, does.2 ∙ holds.1, does.3 ∙ holds.2), subst (λ routes. Passes H.does routes old.host.now request answer new.host.now) holds.0 does.0))
    _ served.0 c.serve_stream.new.handler (refl, refl, refl) served.1 in
    let tie = c.host-1.given.1 (sym both.0.1) in
    (served.0, subst (λ end. Trail (Passes H.does c.args.routes) c.args.host.now served.0 end) (sym tie) both.1, served.2, served.3, served.4, served.5, served.6, served.7, served.8)
