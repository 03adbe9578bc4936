use Rattle.std.proofs.Common.{◌∙◌, sym, rules}
use Rattle.made_conference.specs.Rows.{reviewer_row}
use Rattle.made_conference.specs.Tables.{reviewers_text}
use Rattle.made_conference.proofs.TableLaws.{lines_none, text_more}
use Rattle.made_conference.proofs.tables.reviewers_text.Goals as goal

pub loop-reviewer-init : goal.loop-reviewer-init
loop-reviewer-init c = c.new-text.ensures.items ∙ sym (lines_none reviewer_row)

pub loop-reviewer-preserved : goal.loop-reviewer-preserved
loop-reviewer-preserved c =
    text_more reviewer_row c.loop-reviewer.reviewer _ _ _ c.loop-reviewer.invariant (c.as_slice.ensures ∙ c.reviewer_line.ensures) c.in_ok-extend_from_slice.ensures.items

pub returns : goal.returns
unfolding reviewers_text
returns c = search rules
