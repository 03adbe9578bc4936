use Rattle.std.proofs.Common.{◌≡◌, ◌++◌, drop}
use Rattle.text_lines.specs.Texts.{lines_of}
use Rattle.desk_replies.specs.Accepted.{pair_line, pairs_text}
use Rattle.desk_replies.proofs.pair_texts.pairs_text.Given as goal

-- the text so far, with the lines that are still to come, is the whole text
abbrev pub invariant-loop-pair : goal.invariant-loop-pair
invariant-loop-pair l = l.text.items ++ lines_of pair_line (drop l.pair-index l.pairs) ≡ pairs_text l.pairs
