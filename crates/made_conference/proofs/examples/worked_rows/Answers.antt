-- The rows compute where their parts are unfolded.
use Rattle.std.proofs.Common.{refl}
use Rattle.std.specs.Fmt.{digits}
use Rattle.text_lines.specs.Texts.{line_of}
use Rattle.made_conference.specs.Numbers.{next_state, state_after}
use Rattle.made_conference.specs.Pairs.{made_pair, pairs_before, picked_bid}
use Rattle.made_conference.specs.Rows.{bid_lines, bid_row, four_digits, institution_id, paper_id, paper_row, reviewer_id, reviewer_row, value_row, value_text, with_commas}
use Rattle.made_conference.proofs.examples.worked_rows.Goals as goal

pub returns-clause-value : goal.returns-clause-value
unfolding value_row with_commas paper_id reviewer_id value_text four_digits made_pair pairs_before picked_bid state_after next_state digits
returns-clause-value c = refl

pub returns-clause-bid : goal.returns-clause-bid
unfolding bid_lines bid_row with_commas paper_id reviewer_id four_digits made_pair pairs_before picked_bid state_after next_state line_of
returns-clause-bid c = refl

pub returns-clause-paper : goal.returns-clause-paper
unfolding paper_row with_commas paper_id institution_id four_digits digits
returns-clause-paper c = refl

pub returns-clause-reviewer : goal.returns-clause-reviewer
unfolding reviewer_row with_commas reviewer_id institution_id four_digits digits
returns-clause-reviewer c = refl

pub returns-clause-most : goal.returns-clause-most
unfolding value_text four_digits digits
returns-clause-most c = refl

pub returns-clause-least : goal.returns-clause-least
unfolding value_text four_digits digits
returns-clause-least c = refl
