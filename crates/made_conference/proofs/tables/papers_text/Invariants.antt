use Rattle.std.proofs.Common.{◌≡◌}
use Rattle.std.specs.List.{range_with_len}
use Rattle.text_lines.specs.Texts.{lines_of}
use Rattle.made_conference.specs.Rows.{paper_row}
use Rattle.made_conference.proofs.tables.papers_text.Given as goal

abbrev pub invariant-loop-paper : goal.invariant-loop-paper
invariant-loop-paper l = l.text.items ≡ lines_of paper_row (range_with_len 0 l.paper)
