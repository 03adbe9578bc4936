use Rattle.std.proofs.Common.{◌∙◌, sym, rules}
use Rattle.made_conference.specs.Rows.{paper_row}
use Rattle.made_conference.specs.Tables.{papers_text}
use Rattle.made_conference.proofs.TableLaws.{lines_none, text_more}
use Rattle.made_conference.proofs.tables.papers_text.Goals as goal

pub loop-paper-init : goal.loop-paper-init
loop-paper-init c = c.new-text.ensures.items ∙ sym (lines_none paper_row)

pub loop-paper-preserved : goal.loop-paper-preserved
loop-paper-preserved c =
    text_more paper_row c.loop-paper.paper _ _ _ c.loop-paper.invariant (c.as_slice.ensures ∙ c.paper_line.ensures) c.in_ok-extend_from_slice.ensures.items

pub returns : goal.returns
unfolding papers_text
returns c = search rules
