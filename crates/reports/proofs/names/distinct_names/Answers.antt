use Rattle.std.proofs.lemmas.List.Filters.{dedup_is}
use Rattle.std.proofs.lemmas.List.Kept.{IsStrictlySortedBy-dedup}
use Rattle.std.specs.Cmp.Lexicographic.{on_texts, texts_ties}
use Rattle.match_rules.proofs.Names.{sorted_texts, kept_names}
use Rattle.reports.proofs.ReviewerNames.{only_names}
use Rattle.reports.proofs.names.distinct_names.Goals as goal

pub returns-clause-ascending : goal.returns-clause-ascending
returns-clause-ascending c =
    rw (dedup_is _ _ _ c.dedup.ensures.filtered)
    (sorted_texts _ (IsStrictlySortedBy-dedup (on_texts (λ x. x.now)) (λ x y. texts_ties x.now y.now) _ c.sort_unstable.ensures.sorted))

pub returns-clause-kept : goal.returns-clause-kept
returns-clause-kept c name has =
    rw (dedup_is _ _ _ c.dedup.ensures.filtered) (kept_names _ _ name c.sort_unstable.ensures.permutation has)

pub returns-clause-only : goal.returns-clause-only
returns-clause-only c name has =
    only_names _ _ _ name c.sort_unstable.ensures.permutation (rw (dedup_is _ _ _ c.dedup.ensures.filtered) at has)
