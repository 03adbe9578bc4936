use Rattle.std.proofs.Common.{◌≡◌, ◌++◌}
use Rattle.score_spec.specs.Keys.{paper_keys}
use Rattle.score_spec.specs.PairTables.{AreIds}
use Rattle.score_spec.specs.TextMaps.{entries_of}
use Rattle.score_spec.proofs.union.push_keys.Given as goal

abbrev pub invariant-loop-reviewer : goal.invariant-loop-reviewer
invariant-loop-reviewer l =
    (l.keys.items ++ paper_keys l.paper (entries_of l.reviewer-iterator) ≡ l.fn.keys.items ++ paper_keys l.paper l.reviewers) × AreIds (entries_of l.reviewer-iterator)
