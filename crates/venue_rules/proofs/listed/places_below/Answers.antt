use Rattle.std.proofs.Common.{◌≡◌, ◌+◌, ◌++◌, [], ◌∷◌, ◌∙◌, sym, ap, arith}
use Rattle.venue_rules.proofs.ListedLaws.{range-more}
use Rattle.venue_rules.proofs.listed.places_below.Goals as goal

pub loop-place-preserved : goal.loop-place-preserved
loop-place-preserved c =
    let place = c.loop-place.place in
    let is : 0 + place ≡ place = omega arith in
    c.in_ok-push.ensures.items ∙ ap (λ places. places ++ place ∷ []) c.loop-place.invariant ∙ sym (range-more place 0 place is)
