use Rattle.text_lines.specs.Texts.{line_of}
use Rattle.match_rules.specs.SharesFit.{reviewer_shares}
use Rattle.edge_io.proofs.Adding.{adds_front, adds_then, adds_failed}
use Rattle.reports.proofs.TableLaws.{load_lines}
use Rattle.reports.proofs.TextLaws.{adds_ended, adds_stopped}
use Rattle.reports.proofs.loads.write_loads.Goals as goal

pub returns-in_err-loads-clause-taken : goal.returns-in_err-loads-clause-taken
returns-in_err-loads-clause-taken g c = adds_stopped _ c.from_residual.ensures.0

pub returns-in_err-write_all-clause-taken : goal.returns-in_err-write_all-clause-taken
unfolding line_of
returns-in_err-write_all-clause-taken g c = adds_front _ c.in_err-write_all.ensures.taken c.from_residual-in_err-write_all.ensures.0

pub returns-in_err-write_load_lines-clause-taken : goal.returns-in_err-write_load_lines-clause-taken
unfolding line_of
returns-in_err-write_load_lines-clause-taken g c =
    let same = load_lines c.args.rules.now.reviewers c.in_ok-loads.loads.items (reviewer_shares c.args.rules.now c.args.shares.now) c.in_ok-loads.ensures in
    let lines = rw (c.reviewers.ensures.value, c.as_slice.ensures.value, same) at c.in_err-write_load_lines.ensures.taken in
    adds_then c.in_ok-write_all.ensures.taken (adds_failed lines c.from_residual-in_err-write_load_lines.ensures.0)

pub returns-clause-taken : goal.returns-clause-taken
unfolding line_of
returns-clause-taken g c =
    let same = load_lines c.args.rules.now.reviewers c.in_ok-loads.loads.items (reviewer_shares c.args.rules.now c.args.shares.now) c.in_ok-loads.ensures in
    let lines = rw (c.reviewers.ensures.value, c.as_slice.ensures.value, same) at c.in_ok-write_load_lines.ensures.taken in
    adds_then c.in_ok-write_all.ensures.taken (adds_ended lines)
