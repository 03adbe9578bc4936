use Rattle.std.proofs.Common.{◌≡◌, ◌<◌, ◌⊎◌, inl, inr, length, get_or, arith, sym, ap, ◌∙◌}
use Rattle.std.proofs.lemmas.List.{get_or_read}
use Rattle.match_rules.specs.declared.rules.RuleReviewer.{RuleReviewer}
use Rattle.match_rules.specs.Rules.{reviewer_in, reviewer_at, no_reviewer}
use Rattle.match_rules.specs.Breaks.{load_break}
use Rattle.match_rules.proofs.Firsts.{first_below-found}
use Rattle.match_rules.proofs.Found.{load-found}
use Rattle.match_rules.proofs.check.load_in_piece.Goals as goal
use Rattle.match_rules.proofs.check.load_in_piece.Goals.{then-count-reviewer-via-then-count-reviewer, then-count-reviewer-via-else-count-reviewer+then-count-reviewer-2}

pub returns-then-count-reviewer : goal.returns-then-count-reviewer
returns-then-count-reviewer c =
    let rules = c.args.rules.now in
    let r = c.loop-r.r in
    let read = get_or_read c.reviewers-reviewer-items.result.now r c.reviewer-item.result c.loop-r-test.true c.reviewer-item.is no_reviewer in
    let item : c.reviewer-item.result ≡ reviewer_at rules r = read ∙ ap (λ reviewers. reviewer_in reviewers r) c.reviewers-reviewer-items.ensures.value in
    let least = ap (λ (reviewer : RuleReviewer). reviewer.least) item in
    let greatest = ap (λ (reviewer : RuleReviewer). reviewer.greatest) item in
    let within : r < length rules.reviewers = omega arith in
    let size = c.count_reviewers.ensures.size in
    let counted = c.count_reviewers.ensures.each r (omega arith) in
    let count = get_or c.count_reviewers.new.counts r 0 in
    let outside : (count < (reviewer_at rules r).least) ⊎ ((reviewer_at rules r).greatest < count) = elim c.then-count-reviewer.branch [
      | then-count-reviewer-via-then-count-reviewer w ↦ inl (omega arith)
      | then-count-reviewer-via-else-count-reviewer+then-count-reviewer-2 w ↦ inr (omega arith)
    ] in
    sym (first_below-found (length rules.reviewers) r (load_break rules c.args.k c.args.places.now) _ within c.loop-r.invariant
    (load-found rules c.args.k r count c.args.places.now counted outside))
