use Rattle.std.proofs.Common.{◌≡◌, ◌*ℤ◌, FitsSigned, w32, w64, to_z, of_z, rules, ap₂, ◌∙◌}
use Rattle.std.proofs.lemmas.Int.{to_z-of_z}
use Rattle.score_spec.proofs.Products.{product_within}
use Rattle.score_spec.proofs.weighing.product.Goals as goal

product_is : (c : goal.After-from-2) → to_z w64 (of_z w64 (to_z w64 (of_z w64 c.from.result) *ℤ to_z w64 (of_z w64 c.from-2.result))) ≡ c.args.weight *ℤ c.tenthousandths.result
product_is c =
    let weight_fits : FitsSigned w32 c.args.weight = search rules in
    let wide_weight_fits : FitsSigned w64 c.from.result = search rules in
    let value_fits : FitsSigned w32 c.tenthousandths.result = search rules in
    let wide_value_fits : FitsSigned w64 c.from-2.result = search rules in
    let fits : FitsSigned w64 (to_z w64 (of_z w64 c.from.result) *ℤ to_z w64 (of_z w64 c.from-2.result)) = search rules in
    to_z-of_z w64 _ fits
    ∙ ap₂ (λ a b. a *ℤ b) (to_z-of_z w64 c.from.result wide_weight_fits ∙ c.from.ensures ∙ to_z-of_z w32 c.args.weight weight_fits)
    (to_z-of_z w64 c.from-2.result wide_value_fits ∙ c.from-2.ensures ∙ to_z-of_z w32 c.tenthousandths.result value_fits)

pub returns-clause-low : goal.returns-clause-low
returns-clause-low c = (product_within 10000 100000 c.args.weight c.tenthousandths.result _ c.requires.low c.requires.high c.tenthousandths.ensures.low c.tenthousandths.ensures.high (product_is c)).0

pub returns-clause-high : goal.returns-clause-high
returns-clause-high c = (product_within 10000 100000 c.args.weight c.tenthousandths.result _ c.requires.low c.requires.high c.tenthousandths.ensures.low c.tenthousandths.ensures.high (product_is c)).1
