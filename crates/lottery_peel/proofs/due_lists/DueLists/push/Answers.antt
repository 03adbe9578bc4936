use Rattle.std.proofs.Common.{◌≡◌, ℕ, ◌<◌, List, [], ◌∷◌, ◌++◌, map, length, ap, subst, arith}
use Rattle.std.specs.Prelude.{slice_index_or, slice_set}
use Rattle.std.proofs.lemmas.List.{length-map}
use Rattle.lottery_peel.proofs.DueLists.{items_of, pushed-at}
use Rattle.lottery_peel.proofs.due_lists.DueLists.push.Goals as goal

pub returns : goal.returns
returns c =
    let lt : c.args.ticket < length c.self.inside.lists.items = omega (arith, c.requires.known, ap length c.self.view_is, length-map c.self.inside.lists.items items_of) in
    subst (λ (lists : List (List ℕ)). map items_of (slice_set c.self.inside.lists.items c.args.ticket c.push.new.self) ≡ slice_set lists c.args.ticket (slice_index_or lists c.args.ticket [] ++ (c.args.arc ∷ []))) c.self.view_is
    (pushed-at c.self.inside.lists.items c.args.ticket c.args.arc c.index_mut.result.now c.push.new.self lt c.index_mut.ensures.value c.in_ok-push.ensures.items)
