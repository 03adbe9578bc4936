use Rattle.std.proofs.Common.{◌≡◌, length, arith}
use Rattle.residual_arcs.proofs.Linking.{AreLinksTo, AreLinksTo-more, AreLinks-of}
use Rattle.residual_arcs.proofs.links.links_of.Goals as goal

pub loop-node-preserved : goal.loop-node-preserved
loop-node-preserved c =
    let long : c.len.result ≡ length c.add_links.new.all.items = omega (arith, c.len.ensures) in
    rw (c.in_ok-push-2.ensures.items, long) (AreLinksTo-more c.args.net.now c.loop-node.node c.loop-node.all.items c.add_links.new.all.items c.loop-node.starts.items c.loop-node.invariant c.in_ok-add_links.ensures.adds)

pub returns : goal.returns
returns c =
    let end : c.loop-node.node ≡ c.args.net.now.nodes = omega (arith, c.loop-node-test.false, c.nodes.ensures.value) in
    let to_end : AreLinksTo c.args.net.now c.args.net.now.nodes c.loop-node.all.items c.loop-node.starts.items = rw end at c.loop-node.invariant in
    AreLinks-of c.args.net.now _ c.arcs.ensures.kept to_end
