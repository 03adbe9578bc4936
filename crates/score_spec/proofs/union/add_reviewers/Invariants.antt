use Rattle.std.proofs.Common.{◌≡◌, ◌&&◌, ◌||◌, ℕ, List, is_some, is_eq}
use Rattle.roster.specs.Table.{id_cmp}
use Rattle.score_spec.specs.PairTables.{AreIds, ArePairs, has_pair, value_of}
use Rattle.score_spec.specs.TextMaps.{entries_of}
use Rattle.score_spec.proofs.union.add_reviewers.Given as goal

abbrev pub invariant-loop-reviewer : goal.invariant-loop-reviewer
invariant-loop-reviewer g l =
    ArePairs l.union × AreIds (entries_of l.reviewer-iterator)
    × ((p r : List ℕ) → (has_pair l.union p r || (is_eq (id_cmp l.paper p) && is_some (value_of (entries_of l.reviewer-iterator) r)))
    ≡ (has_pair l.fn.union p r || (is_eq (id_cmp l.paper p) && is_some (value_of l.reviewers r))))
