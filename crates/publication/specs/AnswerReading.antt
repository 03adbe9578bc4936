-- Reading the text of an answer, line by line, for the rules that it answers.
use Rattle.std.specs.Prelude.{ℕ, ℤ, List, Result, Ok, codes}
use Rattle.match_rules.specs.declared.answer.Answer.{Answer}
use Rattle.match_rules.specs.declared.answer.Answer.TheVariants.{Lottery, Infeasible}
use Rattle.match_rules.specs.declared.answer.Level.{Level}
use Rattle.match_rules.specs.declared.answer.Level.TheVariants.{Unasked, Free, At}
use Rattle.match_rules.specs.declared.answer.Prices.{Prices}
use Rattle.match_rules.specs.declared.answer.Winning.{Winning}
use Rattle.match_rules.specs.declared.lottery.Piece.{Piece}
use Rattle.match_rules.specs.declared.rules.TheConstants.{MOST_TICKETS}
use Rattle.match_rules.specs.Rules.{RulesValue}
use Rattle.match_rules.specs.Sound.{sizes_of}
use Rattle.text_lines.specs.declared.fault.TextFault.{TextFault}
use Rattle.text_lines.specs.Forms.{fixed, section_at}
use Rattle.text_lines.specs.Reading.{◌>>=◌, Cursor, due, end_at}
use Rattle.match_rules.specs.declared.sizes.Sizes.{Sizes}
use Rattle.publication.specs.RulesReading.{rules_at}
use Rattle.publication.specs.declared.answer_forms.AnswerKind.{AnswerKind}
use Rattle.publication.specs.declared.answer_forms.AnswerKind.TheVariants as kinds
use Rattle.publication.specs.AnswerForms.{kind_of, price_of, share_of, total_of, piece_of}
use Rattle.publication.specs.AskedForms.{mode_of, mode_of_level, threshold_of}
use Rattle.publication.specs.InfeasibleReading.{cut_at, infeasible_at}
use Rattle.publication.specs.declared.asked_forms.Asked.{Asked}
use Rattle.publication.specs.declared.asked_forms.Asked.TheVariants as asked

-- the mode and the threshold
unfoldable pub asked_at : Cursor → Result (Asked × Cursor) TextFault
asked_at at = do
  mode ← due mode_of at
  due (threshold_of mode.0) mode.1

-- one price for each of a count
unfoldable pub price_list_at : List ℕ → ℕ → Cursor → Result (List ℤ × Cursor) TextFault
price_list_at word count at = section_at word count count (λ before. price_of) at

unfoldable pub prices_at : Sizes → Cursor → Result (Prices × Cursor) TextFault
prices_at sizes at = do
  papers ← price_list_at (codes "paper-prices") sizes.papers at
  groups ← price_list_at (codes "group-prices") sizes.groups papers.1
  reviewers ← price_list_at (codes "reviewer-prices") sizes.reviewers groups.1
  Ok (record { papers = papers.0; groups = groups.0; reviewers = reviewers.0 }, reviewers.1)

-- a level without a cut
abbrev pub no_cut_at : Level → Cursor → Result (Level × Cursor) TextFault
no_cut_at level at = do
  none ← due (fixed (codes "cut none")) at
  Ok (level, none.1)

-- a level of a score and a cut
abbrev pub cut_level_at : Sizes → ℤ → Cursor → Result (Level × Cursor) TextFault
cut_level_at sizes score at = do
  cut ← cut_at sizes at
  Ok (At score cut.0, cut.1)

-- the level of a threshold
abbrev pub level_at : Sizes → Asked → Cursor → Result (Level × Cursor) TextFault
level_at sizes asked.Whole at = no_cut_at Unasked at
level_at sizes asked.Free at = no_cut_at Free at
level_at sizes (asked.At score) at = cut_level_at sizes score at

-- the shares, and the level of the threshold
unfoldable pub dealt_at : Sizes → Asked → Cursor → Result ((List ℕ × Level) × Cursor) TextFault
dealt_at sizes found at = do
  shares ← section_at (codes "shares") sizes.pairs sizes.pairs (λ before. share_of) at
  level ← level_at sizes found shares.1
  Ok ((shares.0, level.0), level.1)

unfoldable pub pieces_at : Sizes → Cursor → Result (List Piece × Cursor) TextFault
pieces_at sizes at = do
  pieces ← section_at (codes "pieces") 0 MOST_TICKETS (piece_of sizes.pairs) at
  end ← due (fixed (codes "end lottery")) pieces.1
  Ok (pieces.0, end.1)

-- the total and the prices
unfoldable pub worth_at : Sizes → Cursor → Result ((ℤ × Prices) × Cursor) TextFault
worth_at sizes at = do
  total ← due total_of at
  prices ← prices_at sizes total.1
  Ok ((total.0, prices.0), prices.1)

-- a lottery of a total and prices, of shares and a level, and of pieces
abbrev pub winning_of : ℤ × Prices → List ℕ × Level → List Piece → Winning
winning_of worth dealt pieces = record { mode = mode_of_level dealt.1; level = dealt.1; total = worth.0; prices = worth.1; shares = dealt.0; lottery = pieces }

-- a lottery with this threshold, behind the line of that
unfoldable pub lottery_with : Sizes → Asked → Cursor → Result (Winning × Cursor) TextFault
lottery_with sizes found at = do
  worth ← worth_at sizes at
  dealt ← dealt_at sizes found worth.1
  pieces ← pieces_at sizes dealt.1
  Ok (winning_of worth.0 dealt.0 pieces.0, pieces.1)

-- a lottery, behind its first line
unfoldable pub lottery_at : Sizes → Cursor → Result (Winning × Cursor) TextFault
lottery_at sizes at = do
  found ← asked_at at
  lottery_with sizes found.0 found.1

-- an answer of this kind, behind its first line
abbrev pub answer_behind : Sizes → AnswerKind → Cursor → Result (Answer × Cursor) TextFault
answer_behind sizes kinds.Lottery at = lottery_at sizes at >>= λ winning. Ok (Lottery winning.0, winning.1)
answer_behind sizes kinds.Infeasible at = infeasible_at sizes at >>= λ blocked. Ok (Infeasible blocked.0, blocked.1)

unfoldable pub answer_at : Sizes → Cursor → Result (Answer × Cursor) TextFault
answer_at sizes at = do
  kind ← due kind_of at
  answer_behind sizes kind.0 kind.1

-- rules and an answer to them, and nothing behind it
unfoldable pub certificate_at : Cursor → Result (RulesValue × Answer) TextFault
certificate_at at = do
  rules ← rules_at at
  answer ← answer_at (sizes_of rules.0) rules.1
  end ← end_at answer.1
  Ok (rules.0, answer.0)
