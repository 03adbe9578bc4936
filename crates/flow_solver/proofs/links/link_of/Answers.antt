use Rattle.std.proofs.Common.{subst, sym}
use Rattle.std.proofs.lemmas.List.Elements.{All-get_or}
use Rattle.residual_arcs.specs.Links.{IsLink}
use Rattle.flow_solver.proofs.Following.{within_link}
use Rattle.flow_solver.proofs.links.link_of.Goals as goal

pub returns : goal.returns
returns c =
    let at = All-get_or (λ link. IsLink c.args.net.now link) c.args.links.now.all.items c.args.place c.index.result.now c.requires.place_in c.requires.links.each in
    within_link c.args.net.now c.index.result.now c.nodes-nodes.ensures.kept (subst (λ link. IsLink c.args.net.now link) (sym c.index.ensures) at)
