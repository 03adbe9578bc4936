use Rattle.std.proofs.Common.{◌≡◌, ◌++◌, ◌∷◌, [], ℕ, rules, ap, sym, ◌∙◌, arith, w64}
use Rattle.std.specs.Prelude.{ℤ, ◌-ℤ◌}
use Rattle.std.specs.Int.RustNames.{FitsSigned}
use Rattle.std.proofs.lemmas.Int.{to_z-of_z}
use Rattle.bounded_network.specs.Network.{potential_at}
use Rattle.bounded_network.specs.Back.{group_price_in}
use Rattle.bounded_network.specs.Compile.{listed, group_node}
use Rattle.bounded_network.proofs.BackLaws.{potential-near}
use Rattle.bounded_network.proofs.Parts.{listed-next}
use Rattle.bounded_network.proofs.back.group_prices.Goals as goal

pub rise-requires-clause-near : goal.rise-requires-clause-near
rise-requires-clause-near c = λ v. potential-near c.args.rules.now c.args.potentials.now v c.group_count-count.ensures.kept c.requires.within

pub rise-requires-clause-from : goal.rise-requires-clause-from
rise-requires-clause-from c =
    omega (arith, c.parent-parent.ensures.below, c.requires.long)

pub loop-g-preserved : goal.loop-g-preserved
loop-g-preserved c =
    let at : ℕ → ℤ = potential_at c.args.potentials.now in
    let price : ℕ → ℤ = group_price_in c.args.rules.now c.args.potentials.now in
    let fits : FitsSigned w64 c.rise.result = search rules in
    let pushed = rw (to_z-of_z w64 c.rise.result fits) at c.in_ok-push.ensures.items in
    let is : c.rise.result ≡ price c.loop-g.g = c.rise.ensures ∙ ap (λ h. at h -ℤ at c.parent-parent.result) c.group_node_of-group.ensures.value ∙ ap (λ h. at (group_node c.args.rules.now c.loop-g.g) -ℤ at h) c.parent-parent.ensures.value in
    pushed
    ∙ ap (λ xs. xs ++ (c.rise.result ∷ [])) c.loop-g.invariant
    ∙ ap (λ z. listed c.loop-g.g price ++ (z ∷ [])) is
    ∙ sym (listed-next c.loop-g.g price)
