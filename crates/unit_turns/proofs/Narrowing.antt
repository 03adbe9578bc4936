-- Links over a network whose bounds were narrowed.
use Rattle.std.proofs.Common.{◌≡◌, ℕ, ◌+◌, ◌<◌, Bool, true, false, length, sym, ◌∙◌, arith}
use Rattle.std.proofs.lemmas.List.Elements.{All-get_or}
use Rattle.bounded_network.specs.Network.{NetworkValue, arc_at}
use Rattle.bounded_network.specs.declared.network.Arc.{Arc}
use Rattle.residual_arcs.specs.declared.links.Links.{Links}
use Rattle.residual_arcs.specs.Links.{AreLinks, IsLink, link_at, no_link}
use Rattle.residual_arcs.specs.Step.{start_of, end_of}
use Rattle.unit_turns.specs.Over.{AreLinksOver, IsNarrower}

-- links serve the network that they were made of
pub AreLinksOver-made : (net : NetworkValue) (links : Links) → AreLinks net links → AreLinksOver net links
AreLinksOver-made net links made =
    let link : (i : ℕ) → i < length links.all.items → IsLink net (link_at links.all.items i) =
    λ i b. All-get_or (λ l. IsLink net l) links.all.items i no_link b made.each in
    record {
      arcs = λ i b. (link i b).arc;
      ends = λ i b. (link i b).ends;
      starts_long = made.starts_long;
      within = made.within;
      leave = made.leave;
      whole = made.whole;
    }

-- equal ends of arcs are equal ends of steps
start_same : (one two : Arc) (forward : Bool) → one.tail ≡ two.tail → one.head ≡ two.head → start_of one forward ≡ start_of two forward
start_same one two true tail head = tail
start_same one two false tail head = head

end_same : (one two : Arc) (forward : Bool) → one.tail ≡ two.tail → one.head ≡ two.head → end_of one forward ≡ end_of two forward
end_same one two true tail head = head
end_same one two false tail head = tail

-- they go on to serve it as bounds are narrowed
pub AreLinksOver-narrowed : (wide net : NetworkValue) (links : Links) → IsNarrower wide net → AreLinksOver wide links → AreLinksOver net links
AreLinksOver-narrowed wide net links narrower over =
    let starts : (a : ℕ) (forward : Bool) → a < length net.arcs → start_of (arc_at net a) forward ≡ start_of (arc_at wide a) forward =
    λ a forward b. start_same (arc_at net a) (arc_at wide a) forward (narrower.tails a b) (narrower.heads a b) in
    let ends : (a : ℕ) (forward : Bool) → a < length net.arcs → end_of (arc_at net a) forward ≡ end_of (arc_at wide a) forward =
    λ a forward b. end_same (arc_at net a) (arc_at wide a) forward (narrower.tails a b) (narrower.heads a b) in
    let arcs : (i : ℕ) → i < length links.all.items → (link_at links.all.items i).step.arc < length net.arcs = λ i b. omega (arith, over.arcs i b, narrower.long) in
    record {
      arcs = arcs;
      ends = λ i b. over.ends i b ∙ sym (ends (link_at links.all.items i).step.arc (link_at links.all.items i).step.forward (arcs i b));
      starts_long = omega (arith, over.starts_long, narrower.nodes);
      within = over.within;
      leave = λ v i v_in from to.
          starts (link_at links.all.items i).step.arc (link_at links.all.items i).step.forward (arcs i (omega (arith, to, over.within (v + 1)))) ∙ over.leave v i (omega (arith, v_in, narrower.nodes)) from to;
      whole = λ step a_in choice.
          let there = over.whole step (omega (arith, a_in, narrower.long)) (omega (arith, choice, narrower.floors step.arc a_in, narrower.rooms step.arc a_in)) in
          (there.0, rw (starts step.arc step.forward a_in) there.1, rw (starts step.arc step.forward a_in) there.2, there.3);
    }
