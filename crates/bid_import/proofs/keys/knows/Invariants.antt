use Rattle.std.proofs.Common.{◌≡◌, map}
use Rattle.toml.specs.View.{members_view}
use Rattle.bid_import.specs.Settings.{knows}
use Rattle.bid_import.proofs.keys.knows.Given as goal

abbrev pub invariant-loop-key : goal.invariant-loop-key
invariant-loop-key l =
    (goal.iterator-loop-key).can_next l.key-iterator ×
    (goal.iterator-loop-key).is_finite l.key-iterator ×
    (knows (map (λ known. known.now) l.keys) (members_view l.key-iterator) ≡ knows (map (λ known. known.now) l.keys) (members_view l.table.entries))
