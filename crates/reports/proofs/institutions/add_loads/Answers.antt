use Rattle.std.proofs.Common.{◌≡◌, ◌^◌, ◌<◌, length, ap, sym, ◌∙◌, arith, []}
use Rattle.std.proofs.lemmas.List.{get_or_read}
use Rattle.std.specs.Prelude.{slice_index, slice_index_or}
use Rattle.match_rules.specs.declared.rules.RuleReviewer.{RuleReviewer}
use Rattle.match_rules.specs.GroupTable.{texts}
use Rattle.match_rules.specs.Rules.{reviewer_in, no_reviewer}
use Rattle.reports.specs.Institutions.{is_at}
use Rattle.reports.proofs.CountLaws.{sum-fits, sums_added}
use Rattle.reports.proofs.ReviewerNames.{has_institution, institutions_ascend}
use Rattle.reports.proofs.institutions.add_loads.Goals as goal

pub add_load-requires-clause-ascending : goal.add_load-requires-clause-ascending
add_load-requires-clause-ascending c = institutions_ascend _ c.args.reviewers.now c.requires.names

pub add_load-requires-clause-there : goal.add_load-requires-clause-there
add_load-requires-clause-there c name is =
    let below : c.loop-r.r < length c.args.reviewers.now = omega arith in
    let read : c.index-reviewers-r.result ≡ reviewer_in c.args.reviewers.now c.loop-r.r = get_or_read c.args.reviewers.now c.loop-r.r _ below c.index-reviewers-r.is no_reviewer in
    has_institution _ c.args.reviewers.now c.loop-r.r name c.requires.names below (ap (λ (v : RuleReviewer). v.institution) (sym read) ∙ is)

pub add_load-requires-clause-fits : goal.add_load-requires-clause-fits
add_load-requires-clause-fits c i within =
    let below : c.loop-r.r < length c.args.reviewers.now = omega arith in
    let few = c.requires.few in
    let counted = c.loop-r.invariant.each i within in
    let sum = sum-fits (λ r. is_at (slice_index_or (texts c.args.names.now) i []) (reviewer_in c.args.reviewers.now r)) (slice_index c.args.loads.now) (2 ^ 40) c.loop-r.r
    (λ r h. c.requires.small r (omega (arith, h, below, c.requires.loads))) in
    omega (arith, counted, sum, few, below)

pub loop-r-preserved : goal.loop-r-preserved
loop-r-preserved c =
    let below : c.loop-r.r < length c.args.reviewers.now = omega arith in
    let read : c.index-reviewers-r.result ≡ reviewer_in c.args.reviewers.now c.loop-r.r = get_or_read c.args.reviewers.now c.loop-r.r _ below c.index-reviewers-r.is no_reviewer in
    let added = rw read at c.add_load.ensures in
    record {
      size = omega (arith, c.loop-r.invariant.size);
      each = sums_added (λ r i. is_at (slice_index_or (texts c.args.names.now) i []) (reviewer_in c.args.reviewers.now r)) (slice_index c.args.loads.now) _ _ c.loop-r.r (omega arith) added c.loop-r.invariant.each;
    }
