use Rattle.std.proofs.Common.{append_assoc}
use Rattle.text_lines.specs.Texts.{line_of}
use Rattle.made_conference.specs.Rows.{bid_row, with_commas}
use Rattle.made_conference.proofs.lines.bid_line.Goals as goal

pub returns : goal.returns
unfolding bid_row with_commas line_of
returns c = rw (c.push-2.ensures, c.push.ensures, c.as_bytes.ensures.value, c.bid_word.ensures.word, c.begun_with-line.ensures.text) (simp append_assoc)
