use Rattle.std.proofs.Common.{length, sym}
use Rattle.std.proofs.lemmas.List.{length-map}
use Rattle.std.specs.Prelude.{List, ℕ}
use denote.Ref.{Bor}
use Rattle.text_lines.specs.Texts.{line_of}
use Rattle.match_rules.specs.GroupTable.{texts}
use Rattle.edge_io.proofs.Adding.{adds_front, adds_then, adds_failed}
use Rattle.reports.proofs.ReviewerNames.{names_are_institutions}
use Rattle.reports.proofs.TableLaws.{institution_table, load-small}
use Rattle.reports.proofs.TextLaws.{adds_ended, adds_stopped}
use Rattle.reports.proofs.institutions.write_institutions.Goals as goal

pub sums_of-requires-clause-small : goal.sums_of-requires-clause-small
sums_of-requires-clause-small g c =
    rw c.as_slice.ensures.value
    (λ r within. load-small c.args.rules.now c.args.shares.now c.in_ok-loads.loads.items r c.reviewers.ensures.kept c.requires c.in_ok-loads.ensures within)

pub write_institution_lines-requires-clause-names : goal.write_institution_lines-requires-clause-names
write_institution_lines-requires-clause-names g c =
    let named = rw c.reviewers.ensures.value at c.in_ok-names.ensures in
    rw c.as_slice-3.ensures.value
    (λ i within. names_are_institutions (texts c.in_ok-names.names.items) c.args.rules.now.reviewers i named c.reviewers.ensures.kept.reviewers
    (rw (length-map c.in_ok-names.names.items (λ (r : Bor (List ℕ)). r.now)) within))

pub returns-in_err-loads-clause-taken : goal.returns-in_err-loads-clause-taken
returns-in_err-loads-clause-taken g c = adds_stopped _ c.from_residual.ensures.0

pub returns-in_err-names-clause-taken : goal.returns-in_err-names-clause-taken
returns-in_err-names-clause-taken g c = adds_stopped _ c.from_residual-in_err-names.ensures.0

pub returns-in_err-sums-clause-taken : goal.returns-in_err-sums-clause-taken
returns-in_err-sums-clause-taken g c = adds_stopped _ c.from_residual-in_err-sums.ensures.0

pub returns-in_err-write_all-clause-taken : goal.returns-in_err-write_all-clause-taken
unfolding line_of
returns-in_err-write_all-clause-taken g c = adds_front _ c.in_err-write_all.ensures.taken c.from_residual-in_err-write_all.ensures.0

pub returns-in_err-write_institution_lines-clause-taken : goal.returns-in_err-write_institution_lines-clause-taken
unfolding line_of
returns-in_err-write_institution_lines-clause-taken g c =
    let named = rw c.reviewers.ensures.value at c.in_ok-names.ensures in
    let size = rw c.as_slice-2.ensures.value at c.in_ok-sums.ensures.size in
    let each = rw (c.as_slice-2.ensures.value, c.reviewers-2.ensures.value, c.as_slice.ensures.value) at c.in_ok-sums.ensures.each in
    let same = institution_table c.args.rules.now c.args.shares.now c.in_ok-loads.loads.items c.in_ok-sums.sums.items (texts c.in_ok-names.names.items) (length c.in_ok-names.names.items)
    c.in_ok-loads.ensures named (sym (length-map c.in_ok-names.names.items (λ (r : Bor (List ℕ)). r.now))) size each in
    let lines = rw (c.as_slice-3.ensures.value, c.as_slice-4.ensures.value, same) at c.in_err-write_institution_lines.ensures.taken in
    adds_then c.in_ok-write_all.ensures.taken (adds_failed lines c.from_residual-in_err-write_institution_lines.ensures.0)

pub returns-clause-taken : goal.returns-clause-taken
unfolding line_of
returns-clause-taken g c =
    let named = rw c.reviewers.ensures.value at c.in_ok-names.ensures in
    let size = rw c.as_slice-2.ensures.value at c.in_ok-sums.ensures.size in
    let each = rw (c.as_slice-2.ensures.value, c.reviewers-2.ensures.value, c.as_slice.ensures.value) at c.in_ok-sums.ensures.each in
    let same = institution_table c.args.rules.now c.args.shares.now c.in_ok-loads.loads.items c.in_ok-sums.sums.items (texts c.in_ok-names.names.items) (length c.in_ok-names.names.items)
    c.in_ok-loads.ensures named (sym (length-map c.in_ok-names.names.items (λ (r : Bor (List ℕ)). r.now))) size each in
    let lines = rw (c.as_slice-3.ensures.value, c.as_slice-4.ensures.value, same) at c.in_ok-write_institution_lines.ensures.taken in
    adds_then c.in_ok-write_all.ensures.taken (adds_ended lines)
