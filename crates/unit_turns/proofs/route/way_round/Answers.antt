use Rattle.std.proofs.Common.{◌≡◌, [], ◌∷◌, ◌++◌, ap, ◌∙◌}
use Rattle.unit_turns.specs.Paths.{HasPath}
use Rattle.unit_turns.proofs.Routes.{onward, AreFree-across, AreAside-across, IsWay-whole}
use Rattle.unit_turns.proofs.route.way_round.Goals as goal
use Rattle.unit_turns.proofs.route.way_round.Goals.{In_ok-push-2}

-- the steps of the side ahead, behind the first
path : (c : In_ok-push-2) → HasPath c.args.net.now c.args.flow.now (onward c.args.step) c.args.ahead.now 0 c.args.meeting.from (c.args.step ∷ []) c.add_path.new.steps.items
path c =
    let one : c.push.new.self.items ≡ c.args.step ∷ [] = c.in_ok-push.ensures.items ∙ ap (λ xs. xs ++ c.args.step ∷ []) c.clear.ensures.items in
    rw one at c.in_ok-add_path.ensures

pub add_path-requires-2-clause-free : goal.add_path-requires-2-clause-free
add_path-requires-2-clause-free c =
    let need = c.requires in
    rw c.in_ok-push-2.ensures.items
    (AreFree-across c.args.net.now c.args.flow.now c.args.step c.args.ahead.now c.args.behind.now need.ahead need.behind need.apart c.args.meeting need.meeting c.add_path.new.steps.items (path (goal.at.add_path-requires-2-clause-free c).In_ok-push-2))

pub add_path-requires-2-clause-aside : goal.add_path-requires-2-clause-aside
add_path-requires-2-clause-aside c =
    let need = c.requires in
    rw c.in_ok-push-2.ensures.items
    (AreAside-across c.args.net.now c.args.flow.now c.args.step c.args.ahead.now c.args.behind.now need.ahead need.behind need.apart c.args.meeting need.meeting c.add_path.new.steps.items (path (goal.at.add_path-requires-2-clause-aside c).In_ok-push-2))

pub returns : goal.returns
returns c =
    let need = c.requires in
    let rest = rw c.in_ok-push-2.ensures.items at c.in_ok-add_path-2.ensures in
    IsWay-whole c.args.net.now c.args.flow.now c.args.step c.args.ahead.now c.args.behind.now need.ahead need.behind need.apart c.args.meeting need.meeting c.add_path.new.steps.items (path (goal.at.returns c).In_ok-push-2)
    c.add_path-2.new.steps.items rest need.ahead_root need.behind_root
