-- The text of a lottery.
use Rattle.std.specs.Prelude.{List, ℕ, ℤ, ◌++◌, codes, decimal}
use Rattle.std.specs.Fmt.{signed_decimal}
use Rattle.match_rules.specs.declared.answer.Level.{Level}
use Rattle.match_rules.specs.declared.answer.Level.TheVariants.{Unasked, Free, At}
use Rattle.match_rules.specs.declared.answer.Mode.{Mode}
use Rattle.match_rules.specs.declared.answer.Prices.{Prices}
use Rattle.match_rules.specs.declared.answer.Winning.{Winning}
use Rattle.match_rules.specs.declared.lottery.Piece.{Piece}
use Rattle.text_lines.specs.Forms.{section_text}
use Rattle.text_lines.specs.Texts.{line_of}
use Rattle.publication.specs.AnswerForms.{total_line, piece_line}
use Rattle.publication.specs.AskedForms.{asked_of, mode_line, threshold_line}
use Rattle.publication.specs.InfeasibleText.{cut_text}

-- the kind of text, the mode and the threshold
unfoldable pub answer_head_text : Mode → Level → List ℕ
answer_head_text mode level = line_of (codes "lottery 1") ++ (line_of (mode_line mode) ++ line_of (threshold_line (asked_of level)))

unfoldable pub price_list_text : List ℕ → List ℤ → List ℕ
price_list_text word prices = section_text word signed_decimal prices

unfoldable pub prices_text : Prices → List ℕ
prices_text prices =
    price_list_text (codes "paper-prices") prices.papers ++ (price_list_text (codes "group-prices") prices.groups ++ price_list_text (codes "reviewer-prices") prices.reviewers)

-- the total and the prices
unfoldable pub worth_text : ℤ → Prices → List ℕ
worth_text total prices = line_of (total_line total) ++ prices_text prices

-- the cut of a level, which only one with a score has
unfoldable pub level_text : Level → List ℕ
level_text Unasked = line_of (codes "cut none")
level_text Free = line_of (codes "cut none")
level_text (At score cut) = cut_text cut

-- the shares and the cut
unfoldable pub dealt_text : List ℕ → Level → List ℕ
dealt_text shares level = section_text (codes "shares") decimal shares ++ level_text level

unfoldable pub pieces_text : List Piece → List ℕ
pieces_text pieces = section_text (codes "pieces") piece_line pieces ++ line_of (codes "end lottery")

-- all of it
unfoldable pub lottery_text : Winning → List ℕ
lottery_text winning =
    answer_head_text winning.mode winning.level ++ (worth_text winning.total winning.prices ++ (dealt_text winning.shares winning.level ++ pieces_text winning.lottery))
