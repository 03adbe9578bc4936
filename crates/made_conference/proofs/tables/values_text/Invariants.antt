use Rattle.std.proofs.Common.{◌≡◌, take}
use Rattle.text_lines.specs.Texts.{lines_of}
use Rattle.made_conference.specs.Rows.{value_row}
use Rattle.made_conference.proofs.tables.values_text.Given as goal

abbrev pub invariant-loop-pair : goal.invariant-loop-pair
invariant-loop-pair l = l.text.items ≡ lines_of value_row (take l.pair-index l.pairs)
