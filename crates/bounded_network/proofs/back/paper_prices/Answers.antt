use Rattle.std.proofs.Common.{◌≡◌, ◌++◌, ◌∷◌, [], ℕ, rules, ap, sym, ◌∙◌, w64}
use Rattle.std.specs.Prelude.{ℤ, ◌-ℤ◌}
use Rattle.std.specs.Int.RustNames.{FitsSigned}
use Rattle.std.proofs.lemmas.Int.{to_z-of_z}
use Rattle.bounded_network.specs.Network.{potential_at}
use Rattle.bounded_network.specs.Back.{paper_price_in}
use Rattle.bounded_network.specs.Compile.{listed}
use Rattle.bounded_network.proofs.BackLaws.{potential-near}
use Rattle.bounded_network.proofs.Parts.{listed-next}
use Rattle.bounded_network.proofs.back.paper_prices.Goals as goal

pub rise-requires-clause-near : goal.rise-requires-clause-near
rise-requires-clause-near c = λ v. potential-near c.args.rules.now c.args.potentials.now v c.hub_of-hub.ensures.kept c.requires.within

pub loop-p-preserved : goal.loop-p-preserved
loop-p-preserved c =
    let at : ℕ → ℤ = potential_at c.args.potentials.now in
    let price : ℕ → ℤ = paper_price_in c.args.rules.now c.args.potentials.now in
    let fits : FitsSigned w64 c.rise.result = search rules in
    let pushed = rw (to_z-of_z w64 c.rise.result fits) at c.in_ok-push.ensures.items in
    let is : c.rise.result ≡ price c.loop-p.p = c.rise.ensures ∙ ap (λ h. at c.loop-p.p -ℤ at h) c.hub_of-hub.ensures.value in
    pushed
    ∙ ap (λ xs. xs ++ (c.rise.result ∷ [])) c.loop-p.invariant
    ∙ ap (λ z. listed c.loop-p.p price ++ (z ∷ [])) is
    ∙ sym (listed-next c.loop-p.p price)
