use Rattle.std.proofs.Common.{ℕ, ◌<◌, length, ap, sym, ◌∙◌, Some, arith, [], refl}
use Rattle.std.proofs.lemmas.List.{length-map}
use Rattle.std.specs.Prelude.{slice_index_or, List}
use denote.Ref.{Bor}
use Rattle.match_rules.specs.GroupTable.{texts}
use Rattle.reports.specs.Institutions.{is_at}
use Rattle.reports.proofs.CountLaws.{added_at}
use Rattle.reports.proofs.ReviewerNames.{is_at_yes, is_at_no, other_names}
use Rattle.reports.proofs.institutions.add_load.Goals as goal

pub place_of-place-requires-clause-there : goal.place_of-place-requires-clause-there
place_of-place-requires-clause-there c = c.requires.there _ (c.in-Some.is ∙ ap (λ x. Some x) (sym c.text.ensures.same))

pub returns-in-Some : goal.returns-in-Some
returns-in-Some c =
    let long = length-map c.args.names.now (λ (r : Bor (List ℕ)). r.now) in
    let there = c.place_of-place.ensures.0 in
    let within : c.place_of-place.result < length c.args.sums.now = omega (arith, there, long, c.requires.size) in
    let home = c.in-Some.is ∙ ap (λ x. Some x) (sym c.text.ensures.same) in
    added_at (λ i. is_at (slice_index_or (texts c.args.names.now) i []) c.args.reviewer.now) c.args.sums.now c.place_of-place.result _ c.args.load
    (is_at_yes _ _ c.args.reviewer.now home c.place_of-place.ensures.1)
    (λ p h other. is_at_no _ _ c.args.reviewer.now home
    (λ same. other_names (texts c.args.names.now) p c.place_of-place.result c.requires.ascending (omega (arith, h, long, c.requires.size)) there other (same ∙ sym c.place_of-place.ensures.1)))
    within refl
