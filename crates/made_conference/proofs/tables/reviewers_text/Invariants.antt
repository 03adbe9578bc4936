use Rattle.std.proofs.Common.{◌≡◌}
use Rattle.std.specs.List.{range_with_len}
use Rattle.text_lines.specs.Texts.{lines_of}
use Rattle.made_conference.specs.Rows.{reviewer_row}
use Rattle.made_conference.proofs.tables.reviewers_text.Given as goal

abbrev pub invariant-loop-reviewer : goal.invariant-loop-reviewer
invariant-loop-reviewer l = l.text.items ≡ lines_of reviewer_row (range_with_len 0 l.reviewer)
