use Rattle.std.proofs.Common.{append_assoc, rules, arith}
use Rattle.text_lines.specs.Texts.{line_of}
use Rattle.desk_replies.specs.Accepted.{pair_line}
use Rattle.desk_replies.proofs.pair_texts.push_pair.Goals as goal

pub returns : goal.returns
unfolding line_of pair_line
returns c = grind (arith, append_assoc)
