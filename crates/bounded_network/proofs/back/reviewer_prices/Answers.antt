use Rattle.std.proofs.Common.{◌≡◌, ◌++◌, ◌∷◌, [], ℕ, rules, ap, sym, ◌∙◌, w64}
use Rattle.std.specs.Prelude.{ℤ, ◌-ℤ◌}
use Rattle.std.specs.Int.RustNames.{FitsSigned}
use Rattle.std.proofs.lemmas.Int.{to_z-of_z}
use Rattle.bounded_network.specs.Network.{potential_at}
use Rattle.bounded_network.specs.Back.{reviewer_price_in}
use Rattle.bounded_network.specs.Compile.{listed, hub}
use Rattle.bounded_network.proofs.BackLaws.{potential-near}
use Rattle.bounded_network.proofs.Parts.{listed-next}
use Rattle.bounded_network.proofs.back.reviewer_prices.Goals as goal

pub rise-requires-clause-near : goal.rise-requires-clause-near
rise-requires-clause-near c = λ v. potential-near c.args.rules.now c.args.potentials.now v c.hub_of-hub.ensures.kept c.requires.within

pub loop-r-preserved : goal.loop-r-preserved
loop-r-preserved c =
    let at : ℕ → ℤ = potential_at c.args.potentials.now in
    let price : ℕ → ℤ = reviewer_price_in c.args.rules.now c.args.potentials.now in
    let fits : FitsSigned w64 c.rise.result = search rules in
    let pushed = rw (to_z-of_z w64 c.rise.result fits) at c.in_ok-push.ensures.items in
    let is : c.rise.result ≡ price c.loop-r.r = c.rise.ensures ∙ ap (λ h. at h -ℤ at c.reviewer_node_of-reviewer.result) c.hub_of-hub.ensures.value ∙ ap (λ h. at (hub c.args.rules.now) -ℤ at h) c.reviewer_node_of-reviewer.ensures.value in
    pushed
    ∙ ap (λ xs. xs ++ (c.rise.result ∷ [])) c.loop-r.invariant
    ∙ ap (λ z. listed c.loop-r.r price ++ (z ∷ [])) is
    ∙ sym (listed-next c.loop-r.r price)
