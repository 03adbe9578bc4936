-- A lottery is read as it is spelled.
use Rattle.std.proofs.Common.{◌≡◌, ℕ, ◌^◌, ◌<◌, ◌≤◌, ◌⊎◌, inl, inr, List, [], ◌++◌, length, ℤ, Result, Ok, refl, ap, subst, ◌∙◌, append_assoc, arith, lit<, lit≤}
use Rattle.std.specs.Prelude.{codes, decimal}
use Rattle.std.specs.Fmt.{signed_decimal}
use Rattle.match_rules.specs.declared.answer.Cut.{Cut}
use Rattle.match_rules.specs.declared.answer.Level.{Level}
use Rattle.match_rules.specs.declared.answer.Level.TheVariants.{Unasked, Free, At}
use Rattle.match_rules.specs.declared.answer.Mode.{Mode}
use Rattle.match_rules.specs.declared.answer.Prices.{Prices}
use Rattle.match_rules.specs.declared.answer.Winning.{Winning}
use Rattle.match_rules.specs.declared.lottery.Piece.{Piece}
use Rattle.match_rules.specs.declared.rules.TheConstants.{MOST_TICKETS}
use Rattle.match_rules.specs.Answers.{ArePrices, IsWithin, SuitsMode, most_total}
use Rattle.text_lines.specs.declared.fault.TextFault.{TextFault}
use Rattle.text_lines.specs.Forms.{fixed, section_at, section_text}
use Rattle.text_lines.specs.Reading.{◌>>=◌, Cursor, due, following}
use Rattle.text_lines.specs.Texts.{line_of}
use Rattle.text_lines.proofs.FormLaws.{fixed_spells, section_takes, section_again}
use Rattle.text_lines.proofs.TextLaws.{IsLine, bind_ok, ok_is, item_takes, item_again}
use Rattle.text_lines.proofs.WordLaws.{IsWord, ascii_word, ascii_line}
use Rattle.publication.specs.declared.answer_forms.AnswerKind.{AnswerKind}
use Rattle.publication.specs.declared.answer_forms.AnswerKind.TheVariants as kinds
use Rattle.match_rules.specs.declared.sizes.Sizes.{Sizes}
use Rattle.publication.specs.AnswerForms.{price_of, share_of, total_of, piece_of, total_line, piece_line}
use Rattle.publication.specs.AnswerReading.{asked_at, price_list_at, prices_at, no_cut_at, level_at, dealt_at, pieces_at, worth_at, lottery_with, lottery_at, winning_of}
use Rattle.publication.specs.AnswerText.{answer_head_text, price_list_text, prices_text, worth_text, level_text, dealt_text, pieces_text, lottery_text}
use Rattle.publication.specs.declared.asked_forms.Asked.{Asked}
use Rattle.publication.specs.declared.asked_forms.Asked.TheVariants as asked
use Rattle.publication.specs.AskedForms.{mode_of, mode_line, threshold_of, threshold_line, IsAsked, mode_asked, asked_of, mode_of_level}
use Rattle.publication.specs.Certificates.{ArePricesFor, AreSharesFor, ArePiecesFor, IsLotteryFor, LevelFits}
use Rattle.publication.specs.InfeasibleReading.{cut_at}
use Rattle.publication.specs.InfeasibleText.{cut_text}
use Rattle.publication.proofs.AnswerLaws.{price_spells, share_spells, total_spells}
use Rattle.publication.proofs.AskedLaws.{mode_spells, threshold_spells, level_suits, suits_mode}
use Rattle.publication.proofs.CutLaws.{kind_line}
use Rattle.publication.proofs.CutParts.{AreSmall, cut_takes, cut_again}
use Rattle.publication.proofs.FitLaws.{FitsPrice, FitsShare, prices_along, along_prices, shares_along, along_shares, pieces_along, along_pieces}
use Rattle.publication.proofs.PieceSpells.{FitsPiece, piece_spells}
use Rattle.publication.proofs.RulesLaws.{seam}

cut_line : IsLine (codes "cut none")
cut_line = ascii_line (codes "cut none") refl refl (lit≤ tt)

end_line : IsLine (codes "end lottery")
end_line = ascii_line (codes "end lottery") refl refl (lit≤ tt)

-- ---- the mode and the threshold

-- the lines of both
abbrev asked_text : Asked → List ℕ
asked_text found = line_of (mode_line (mode_asked found)) ++ line_of (threshold_line found)

asked_takes : (at rest : Cursor) (found : Asked) → asked_at at ≡ Ok (found, rest) → IsAsked found × (at.bytes ≡ asked_text found ++ rest.bytes)
unfolding asked_at
asked_takes at rest found e =
    let a = bind_ok (due mode_of at) (λ mode. due (threshold_of mode.0) mode.1) (found, rest) e in
    let mode = item_takes _ _ _ mode_spells [] at a.0.1 a.0.0 a.1 in
    let threshold = item_takes _ _ _ (threshold_spells a.0.0) [] a.0.1 rest found a.2 in
    let text : at.bytes ≡ (line_of (mode_line a.0.0) ++ line_of (threshold_line found)) ++ rest.bytes = seam at.bytes a.0.1.bytes rest.bytes (line_of (mode_line a.0.0)) _ mode.1 threshold.1 in
    (threshold.0.1, rw threshold.0.0 text)

asked_again : (number : ℕ) (found : Asked) (rest : List ℕ) → IsAsked found
    → (m : ℕ) × (asked_at (record { number = number; bytes = asked_text found ++ rest }) ≡ Ok (found, record { number = m; bytes = rest }))
unfolding asked_at
asked_again number found rest fits =
    let m = line_of (mode_line (mode_asked found)) in
    let t = line_of (threshold_line found) in
    let mode = item_again _ _ _ mode_spells [] number (t ++ rest) (mode_asked found) tt in
    let threshold = item_again _ _ _ (threshold_spells (mode_asked found)) [] (following number) rest found (refl, fits) in
    (following (following number), rw (append_assoc m t rest, mode) threshold)

-- a text behind its first line, which is read at every number of a line
abbrev pub ReadsBehind : {A : Type 0} → AnswerKind → (Cursor → Result (A × Cursor) TextFault) → A → List ℕ → List ℕ → Type 0
ReadsBehind kind read x text rest =
    (bytes : List ℕ) × (text ≡ line_of (kind_line kind) ++ bytes) × ((number : ℕ) → (m : ℕ) × (read (record { number = number; bytes = bytes }) ≡ Ok (x, record { number = m; bytes = rest })))

-- ---- prices

list_takes : (word : List ℕ) (count : ℕ) (at rest : Cursor) (zs : List ℤ) → count < 2 ^ 64 → price_list_at word count at ≡ Ok (zs, rest) → ArePrices count zs × (at.bytes ≡ price_list_text word zs ++ rest.bytes)
unfolding price_list_at price_list_text
list_takes word count at rest zs small e =
    let t = section_takes word count count (λ before. price_of) FitsPrice signed_decimal price_spells small at rest zs e in
    (prices_along count zs t.low t.high t.along, t.parts)

list_again : (word : List ℕ) (count number : ℕ) (zs : List ℤ) (rest : List ℕ) → IsWord word → length word ≤ 1000 → count < 2 ^ 64 → ArePrices count zs
    → (m : ℕ) × (price_list_at word count (record { number = number; bytes = price_list_text word zs ++ rest }) ≡ Ok (zs, record { number = m; bytes = rest }))
unfolding price_list_at price_list_text
list_again word count number zs rest is short small are =
    section_again word count count (λ before. price_of) FitsPrice signed_decimal price_spells is short small zs number rest (omega (arith, are.0)) (omega (arith, are.0)) (along_prices count zs are)

papers_word : IsWord (codes "paper-prices")
papers_word = ascii_word (codes "paper-prices") refl refl refl

groups_word : IsWord (codes "group-prices")
groups_word = ascii_word (codes "group-prices") refl refl refl

reviewers_word : IsWord (codes "reviewer-prices")
reviewers_word = ascii_word (codes "reviewer-prices") refl refl refl

prices_takes : (sizes : Sizes) (at rest : Cursor) (prices : Prices) → AreSmall sizes → prices_at sizes at ≡ Ok (prices, rest) → ArePricesFor sizes prices × (at.bytes ≡ prices_text prices ++ rest.bytes)
unfolding prices_at prices_text
prices_takes sizes at rest prices small e =
    let a = bind_ok (price_list_at (codes "paper-prices") sizes.papers at) (λ papers. price_list_at (codes "group-prices") sizes.groups papers.1 >>= λ groups. price_list_at (codes "reviewer-prices") sizes.reviewers groups.1 >>= λ reviewers. Ok (record { papers = papers.0; groups = groups.0; reviewers = reviewers.0 }, reviewers.1)) (prices, rest) e in
    let b = bind_ok (price_list_at (codes "group-prices") sizes.groups a.0.1) (λ groups. price_list_at (codes "reviewer-prices") sizes.reviewers groups.1 >>= λ reviewers. Ok (record { papers = a.0.0; groups = groups.0; reviewers = reviewers.0 }, reviewers.1)) (prices, rest) a.2 in
    let c = bind_ok (price_list_at (codes "reviewer-prices") sizes.reviewers b.0.1) (λ reviewers. Ok (record { papers = a.0.0; groups = b.0.0; reviewers = reviewers.0 }, reviewers.1)) (prices, rest) b.2 in
    let first = list_takes (codes "paper-prices") sizes.papers at a.0.1 a.0.0 (omega (arith, small.papers)) a.1 in
    let second = list_takes (codes "group-prices") sizes.groups a.0.1 b.0.1 b.0.0 (omega (arith, small.of_groups)) b.1 in
    let third = list_takes (codes "reviewer-prices") sizes.reviewers b.0.1 c.0.1 c.0.0 (omega (arith, small.reviewers)) c.1 in
    let made : Prices = record { papers = a.0.0; groups = b.0.0; reviewers = c.0.0 } in
    let are : ArePricesFor sizes made = record { papers = first.0; of_groups = second.0; reviewers = third.0 } in
    let text = seam at.bytes a.0.1.bytes c.0.1.bytes (price_list_text (codes "paper-prices") a.0.0) _ first.1 (seam a.0.1.bytes b.0.1.bytes c.0.1.bytes (price_list_text (codes "group-prices") b.0.0) _ second.1 third.1) in
    let same = ok_is {E = TextFault} (made, c.0.1) (prices, rest) c.2 in
    subst (λ (x : Prices × Cursor). ArePricesFor sizes x.0 × (at.bytes ≡ (price_list_text (codes "paper-prices") x.0.papers ++ (price_list_text (codes "group-prices") x.0.groups ++ price_list_text (codes "reviewer-prices") x.0.reviewers)) ++ x.1.bytes)) same (are, text)

prices_again : (sizes : Sizes) (number : ℕ) (prices : Prices) (rest : List ℕ) → AreSmall sizes → ArePricesFor sizes prices
    → (m : ℕ) × (prices_at sizes (record { number = number; bytes = prices_text prices ++ rest }) ≡ Ok (prices, record { number = m; bytes = rest }))
unfolding prices_at prices_text
prices_again sizes number prices rest small are =
    let p = price_list_text (codes "paper-prices") prices.papers in
    let g = price_list_text (codes "group-prices") prices.groups in
    let r = price_list_text (codes "reviewer-prices") prices.reviewers in
    let first = list_again (codes "paper-prices") sizes.papers number prices.papers (g ++ (r ++ rest)) papers_word (lit≤ tt) (omega (arith, small.papers)) are.papers in
    let second = list_again (codes "group-prices") sizes.groups first.0 prices.groups (r ++ rest) groups_word (lit≤ tt) (omega (arith, small.of_groups)) are.of_groups in
    let third = list_again (codes "reviewer-prices") sizes.reviewers second.0 prices.reviewers rest reviewers_word (lit≤ tt) (omega (arith, small.reviewers)) are.reviewers in
    let regrouped : (p ++ (g ++ r)) ++ rest ≡ p ++ (g ++ (r ++ rest)) = append_assoc p (g ++ r) rest ∙ ap (λ (t : List ℕ). p ++ t) (append_assoc g r rest) in
    (third.0, rw (regrouped, first.1, second.1, third.1) refl)

-- ---- the total and the prices

worth_takes : (sizes : Sizes) (at rest : Cursor) (worth : ℤ × Prices) → AreSmall sizes → worth_at sizes at ≡ Ok (worth, rest)
    → IsWithin most_total worth.0 × ArePricesFor sizes worth.1 × (at.bytes ≡ worth_text worth.0 worth.1 ++ rest.bytes)
unfolding worth_at worth_text
worth_takes sizes at rest worth small e =
    let b = bind_ok (due total_of at) (λ total. prices_at sizes total.1 >>= λ prices. Ok ((total.0, prices.0), prices.1)) (worth, rest) e in
    let c = bind_ok (prices_at sizes b.0.1) (λ prices. Ok ((b.0.0, prices.0), prices.1)) (worth, rest) b.2 in
    let total = item_takes _ _ _ total_spells [] at b.0.1 b.0.0 b.1 in
    let prices = prices_takes sizes b.0.1 c.0.1 c.0.0 small c.1 in
    let text = seam at.bytes b.0.1.bytes c.0.1.bytes (line_of (total_line b.0.0)) _ total.1 prices.1 in
    let same = ok_is {E = TextFault} ((b.0.0, c.0.0), c.0.1) (worth, rest) c.2 in
    subst (λ (x : (ℤ × Prices) × Cursor). IsWithin most_total x.0.0 × ArePricesFor sizes x.0.1 × (at.bytes ≡ (line_of (total_line x.0.0) ++ prices_text x.0.1) ++ x.1.bytes)) same (total.0, prices.0, text)

worth_again : (sizes : Sizes) (number : ℕ) (total : ℤ) (prices : Prices) (rest : List ℕ) → AreSmall sizes → IsWithin most_total total → ArePricesFor sizes prices
    → (m : ℕ) × (worth_at sizes (record { number = number; bytes = worth_text total prices ++ rest }) ≡ Ok ((total, prices), record { number = m; bytes = rest }))
unfolding worth_at worth_text
worth_again sizes number total prices rest small within are =
    let t = line_of (total_line total) in
    let p = prices_text prices in
    let first = item_again _ _ _ total_spells [] number (p ++ rest) total within in
    let second = prices_again sizes (following number) prices rest small are in
    (second.0, rw (append_assoc t p rest, first, second.1) refl)

-- ---- shares and the level

shares_word : IsWord (codes "shares")
shares_word = ascii_word (codes "shares") refl refl refl

abbrev shares_at : Sizes → Cursor → Result (List ℕ × Cursor) TextFault
shares_at sizes at = section_at (codes "shares") sizes.pairs sizes.pairs (λ before. share_of) at

no_cut_takes : (sizes : Sizes) (level : Level) (at rest : Cursor) (found : Level) → LevelFits sizes level → level_text level ≡ line_of (codes "cut none") → no_cut_at level at ≡ Ok (found, rest)
    → LevelFits sizes found × (asked_of found ≡ asked_of level) × (at.bytes ≡ level_text found ++ rest.bytes)
no_cut_takes sizes level at rest found fits is e =
    let a = bind_ok (due (fixed (codes "cut none")) at) (λ none. Ok (level, none.1)) (found, rest) e in
    let cut = item_takes _ _ _ (fixed_spells (codes "cut none") cut_line) [] at a.0.1 a.0.0 a.1 in
    let text : at.bytes ≡ level_text level ++ a.0.1.bytes = rw is cut.1 in
    let same = ok_is {E = TextFault} (level, a.0.1) (found, rest) a.2 in
    subst (λ (x : Level × Cursor). LevelFits sizes x.0 × (asked_of x.0 ≡ asked_of level) × (at.bytes ≡ level_text x.0 ++ x.1.bytes)) same (fits, refl, text)

no_cut : (level : Level) → (level ≡ Unasked) ⊎ (level ≡ Free) → level_text level ≡ line_of (codes "cut none")
unfolding level_text
no_cut level (inl is) = rw is refl
no_cut level (inr is) = rw is refl

cut_level_text : (score : ℤ) (cut : Cut) → level_text (At score cut) ≡ cut_text cut
unfolding level_text
cut_level_text score cut = refl

level_takes : (sizes : Sizes) (found : Asked) (at rest : Cursor) (level : Level) → AreSmall sizes → IsAsked found → level_at sizes found at ≡ Ok (level, rest)
    → LevelFits sizes level × (asked_of level ≡ found) × (at.bytes ≡ level_text level ++ rest.bytes)
level_takes sizes asked.Whole at rest level small fits e = no_cut_takes sizes Unasked at rest level tt (no_cut Unasked (inl refl)) e
level_takes sizes asked.Free at rest level small fits e = no_cut_takes sizes Free at rest level tt (no_cut Free (inr refl)) e
level_takes sizes (asked.At score) at rest level small fits e =
    let a = bind_ok (cut_at sizes at) (λ cut. Ok (At score cut.0, cut.1)) (level, rest) e in
    let cut = cut_takes sizes at a.0.1 a.0.0 small a.1 in
    let text : at.bytes ≡ level_text (At score a.0.0) ++ a.0.1.bytes = rw (cut_level_text score a.0.0) cut.1 in
    let same = ok_is {E = TextFault} (At score a.0.0, a.0.1) (level, rest) a.2 in
    subst (λ (x : Level × Cursor). LevelFits sizes x.0 × (asked_of x.0 ≡ asked.At score) × (at.bytes ≡ level_text x.0 ++ x.1.bytes)) same ((fits, cut.0), refl, text)

level_again : (sizes : Sizes) (number : ℕ) (level : Level) (rest : List ℕ) → AreSmall sizes → LevelFits sizes level
    → (m : ℕ) × (level_at sizes (asked_of level) (record { number = number; bytes = level_text level ++ rest }) ≡ Ok (level, record { number = m; bytes = rest }))
unfolding level_text
level_again sizes number Unasked rest small fits =
    (following number, rw (item_again _ _ _ (fixed_spells (codes "cut none") cut_line) [] number rest tt tt) refl)
level_again sizes number Free rest small fits =
    (following number, rw (item_again _ _ _ (fixed_spells (codes "cut none") cut_line) [] number rest tt tt) refl)
level_again sizes number (At score cut) rest small fits =
    let read = cut_again sizes number cut rest small fits.1 in
    (read.0, rw read.1 refl)

dealt_takes : (sizes : Sizes) (found : Asked) (at rest : Cursor) (dealt : List ℕ × Level) → AreSmall sizes → IsAsked found → dealt_at sizes found at ≡ Ok (dealt, rest)
    → AreSharesFor sizes dealt.0 × LevelFits sizes dealt.1 × (asked_of dealt.1 ≡ found) × (at.bytes ≡ dealt_text dealt.0 dealt.1 ++ rest.bytes)
unfolding dealt_at dealt_text
dealt_takes sizes found at rest dealt small fits e =
    let a = bind_ok (shares_at sizes at) (λ shares. level_at sizes found shares.1 >>= λ level. Ok ((shares.0, level.0), level.1)) (dealt, rest) e in
    let b = bind_ok (level_at sizes found a.0.1) (λ level. Ok ((a.0.0, level.0), level.1)) (dealt, rest) a.2 in
    let list = section_takes (codes "shares") sizes.pairs sizes.pairs (λ before. share_of) FitsShare decimal share_spells (omega (arith, small.pairs)) at a.0.1 a.0.0 a.1 in
    let level = level_takes sizes found a.0.1 b.0.1 b.0.0 small fits b.1 in
    let text = seam at.bytes a.0.1.bytes b.0.1.bytes (section_text (codes "shares") decimal a.0.0) _ list.parts level.2 in
    let same = ok_is {E = TextFault} ((a.0.0, b.0.0), b.0.1) (dealt, rest) b.2 in
    subst (λ (x : (List ℕ × Level) × Cursor). AreSharesFor sizes x.0.0 × LevelFits sizes x.0.1 × (asked_of x.0.1 ≡ found) × (at.bytes ≡ (section_text (codes "shares") decimal x.0.0 ++ level_text x.0.1) ++ x.1.bytes)) same (shares_along sizes.pairs a.0.0 list.low list.high list.along, level.0, level.1, text)

dealt_again : (sizes : Sizes) (number : ℕ) (shares : List ℕ) (level : Level) (rest : List ℕ) → AreSmall sizes → AreSharesFor sizes shares → LevelFits sizes level
    → (m : ℕ) × (dealt_at sizes (asked_of level) (record { number = number; bytes = dealt_text shares level ++ rest }) ≡ Ok ((shares, level), record { number = m; bytes = rest }))
unfolding dealt_at dealt_text
dealt_again sizes number shares level rest small are fits =
    let s = section_text (codes "shares") decimal shares in
    let c = level_text level in
    let first = section_again (codes "shares") sizes.pairs sizes.pairs (λ before. share_of) FitsShare decimal share_spells shares_word (lit≤ tt) (omega (arith, small.pairs)) shares number (c ++ rest) (omega (arith, are.0)) (omega (arith, are.0)) (along_shares sizes.pairs shares are) in
    let second = level_again sizes first.0 level rest small fits in
    (second.0, rw (append_assoc s c rest, first.1, second.1) refl)

-- ---- pieces

pieces_word : IsWord (codes "pieces")
pieces_word = ascii_word (codes "pieces") refl refl refl

pieces_takes : (sizes : Sizes) (at rest : Cursor) (pieces : List Piece) → AreSmall sizes → pieces_at sizes at ≡ Ok (pieces, rest) → ArePiecesFor sizes pieces × (at.bytes ≡ pieces_text pieces ++ rest.bytes)
unfolding pieces_at pieces_text
pieces_takes sizes at rest pieces small e =
    let a = bind_ok (section_at (codes "pieces") 0 MOST_TICKETS (piece_of sizes.pairs) at) (λ found. due (fixed (codes "end lottery")) found.1 >>= λ end. Ok (found.0, end.1)) (pieces, rest) e in
    let b = bind_ok (due (fixed (codes "end lottery")) a.0.1) (λ end. Ok (a.0.0, end.1)) (pieces, rest) a.2 in
    let list = section_takes (codes "pieces") 0 MOST_TICKETS (piece_of sizes.pairs) (FitsPiece sizes.pairs) piece_line (piece_spells sizes.pairs small.pairs) (lit< tt) at a.0.1 a.0.0 a.1 in
    let end = item_takes _ _ _ (fixed_spells (codes "end lottery") end_line) [] a.0.1 b.0.1 b.0.0 b.1 in
    let text = seam at.bytes a.0.1.bytes b.0.1.bytes (section_text (codes "pieces") piece_line a.0.0) _ list.parts end.1 in
    let same = ok_is {E = TextFault} (a.0.0, b.0.1) (pieces, rest) b.2 in
    subst (λ (x : List Piece × Cursor). ArePiecesFor sizes x.0 × (at.bytes ≡ (section_text (codes "pieces") piece_line x.0 ++ line_of (codes "end lottery")) ++ x.1.bytes)) same (pieces_along sizes a.0.0 list.high list.along, text)

pieces_again : (sizes : Sizes) (number : ℕ) (pieces : List Piece) (rest : List ℕ) → AreSmall sizes → ArePiecesFor sizes pieces
    → (m : ℕ) × (pieces_at sizes (record { number = number; bytes = pieces_text pieces ++ rest }) ≡ Ok (pieces, record { number = m; bytes = rest }))
unfolding pieces_at pieces_text
pieces_again sizes number pieces rest small are =
    let p = section_text (codes "pieces") piece_line pieces in
    let z = line_of (codes "end lottery") in
    let first = section_again (codes "pieces") 0 MOST_TICKETS (piece_of sizes.pairs) (FitsPiece sizes.pairs) piece_line (piece_spells sizes.pairs small.pairs) pieces_word (lit≤ tt) (lit< tt) pieces number (z ++ rest) (omega arith) are.0.few (along_pieces sizes pieces are) in
    let second = item_again _ _ _ (fixed_spells (codes "end lottery") end_line) [] first.0 rest tt tt in
    (following first.0, rw (append_assoc p z rest, first.1, second) refl)

-- ---- the text

with_takes : (sizes : Sizes) (found : Asked) (at rest : Cursor) (winning : Winning) → AreSmall sizes → IsAsked found → lottery_with sizes found at ≡ Ok (winning, rest)
    → IsLotteryFor sizes winning × (winning.mode ≡ mode_of_level winning.level) × (asked_of winning.level ≡ found)
    × (at.bytes ≡ (worth_text winning.total winning.prices ++ (dealt_text winning.shares winning.level ++ pieces_text winning.lottery)) ++ rest.bytes)
unfolding lottery_with
with_takes sizes found at rest winning small fits e =
    let a = bind_ok (worth_at sizes at) (λ worth. dealt_at sizes found worth.1 >>= λ dealt. pieces_at sizes dealt.1 >>= λ pieces. Ok (winning_of worth.0 dealt.0 pieces.0, pieces.1)) (winning, rest) e in
    let b = bind_ok (dealt_at sizes found a.0.1) (λ dealt. pieces_at sizes dealt.1 >>= λ pieces. Ok (winning_of a.0.0 dealt.0 pieces.0, pieces.1)) (winning, rest) a.2 in
    let c = bind_ok (pieces_at sizes b.0.1) (λ pieces. Ok (winning_of a.0.0 b.0.0 pieces.0, pieces.1)) (winning, rest) b.2 in
    let worth = worth_takes sizes at a.0.1 a.0.0 small a.1 in
    let dealt = dealt_takes sizes found a.0.1 b.0.1 b.0.0 small fits b.1 in
    let pieces = pieces_takes sizes b.0.1 c.0.1 c.0.0 small c.1 in
    let made = winning_of a.0.0 b.0.0 c.0.0 in
    let are : IsLotteryFor sizes made = record { level = dealt.1; total = worth.0; prices = worth.1; shares = dealt.0; pieces = pieces.0 } in
    let text = seam at.bytes a.0.1.bytes c.0.1.bytes (worth_text a.0.0.0 a.0.0.1) _ worth.2 (seam a.0.1.bytes b.0.1.bytes c.0.1.bytes (dealt_text b.0.0.0 b.0.0.1) _ dealt.3 pieces.1) in
    let same = ok_is {E = TextFault} (made, c.0.1) (winning, rest) c.2 in
    subst (λ (x : Winning × Cursor). IsLotteryFor sizes x.0 × (x.0.mode ≡ mode_of_level x.0.level) × (asked_of x.0.level ≡ found) × (at.bytes ≡ (worth_text x.0.total x.0.prices ++ (dealt_text x.0.shares x.0.level ++ pieces_text x.0.lottery)) ++ x.1.bytes)) same (are, refl, dealt.2, text)

with_again : (sizes : Sizes) (number : ℕ) (winning : Winning) (rest : List ℕ) → AreSmall sizes → winning.mode ≡ mode_of_level winning.level → IsLotteryFor sizes winning
    → (m : ℕ) × (lottery_with sizes (asked_of winning.level) (record { number = number; bytes = (worth_text winning.total winning.prices ++ (dealt_text winning.shares winning.level ++ pieces_text winning.lottery)) ++ rest }) ≡ Ok (winning, record { number = m; bytes = rest }))
unfolding lottery_with
with_again sizes number winning rest small mode are =
    let w = worth_text winning.total winning.prices in
    let s = dealt_text winning.shares winning.level in
    let p = pieces_text winning.lottery in
    let regrouped : (w ++ (s ++ p)) ++ rest ≡ w ++ (s ++ (p ++ rest)) = append_assoc w (s ++ p) rest ∙ ap (λ (t : List ℕ). w ++ t) (append_assoc s p rest) in
    let first = worth_again sizes number winning.total winning.prices (s ++ (p ++ rest)) small are.total are.prices in
    let second = dealt_again sizes first.0 winning.shares winning.level (p ++ rest) small are.shares are.level in
    let third = pieces_again sizes second.0 winning.lottery rest small are.pieces in
    let place : Cursor = record { number = third.0; bytes = rest } in
    (third.0, rw (regrouped, first.1, second.1, third.1) (ap (λ (x : Winning). Ok (x, place)) (is_winning winning mode)))
  where
    is_winning : (x : Winning) → x.mode ≡ mode_of_level x.level → winning_of (x.total, x.prices) (x.shares, x.level) x.lottery ≡ x
    is_winning x is = rw (← is) refl

-- the head of a level that suits its mode
head_is : (mode : Mode) (level : Level) → mode ≡ mode_of_level level → answer_head_text mode level ≡ line_of (kind_line kinds.Lottery) ++ asked_text (asked_of level)
unfolding answer_head_text kind_line
head_is mode level is = rw is refl

level_asked : (sizes : Sizes) (level : Level) → LevelFits sizes level → IsAsked (asked_of level)
level_asked sizes Unasked fits = tt
level_asked sizes Free fits = tt
level_asked sizes (At score cut) fits = fits.0

pub lottery_takes : (sizes : Sizes) (at rest : Cursor) (winning : Winning) → AreSmall sizes → lottery_at sizes at ≡ Ok (winning, rest)
    → SuitsMode winning.mode winning.level × IsLotteryFor sizes winning × (line_of (kind_line kinds.Lottery) ++ at.bytes ≡ lottery_text winning ++ rest.bytes)
unfolding lottery_at lottery_text
lottery_takes sizes at rest winning small e =
    let k = line_of (kind_line kinds.Lottery) in
    let a = bind_ok (asked_at at) (λ found. lottery_with sizes found.0 found.1) (winning, rest) e in
    let head = asked_takes at a.0.1 a.0.0 a.1 in
    let body = with_takes sizes a.0.0 a.0.1 rest winning small head.0 a.2 in
    let suits : SuitsMode winning.mode winning.level = rw body.1 (level_suits winning.level) in
    let front : k ++ at.bytes ≡ (k ++ asked_text a.0.0) ++ a.0.1.bytes = seam (k ++ at.bytes) at.bytes a.0.1.bytes k _ refl head.1 in
    let is : answer_head_text winning.mode winning.level ≡ k ++ asked_text a.0.0 = rw (← body.2) (head_is winning.mode winning.level body.1) in
    let text = seam (k ++ at.bytes) a.0.1.bytes rest.bytes (k ++ asked_text a.0.0) _ front body.3 in
    (suits, body.0, rw is text)

pub lottery_again : (sizes : Sizes) (winning : Winning) (rest : List ℕ) → AreSmall sizes → SuitsMode winning.mode winning.level → IsLotteryFor sizes winning
    → ReadsBehind kinds.Lottery (lottery_at sizes) winning (lottery_text winning ++ rest) rest
unfolding lottery_at lottery_text
lottery_again sizes winning rest small suits are =
    let k = line_of (kind_line kinds.Lottery) in
    let h = asked_text (asked_of winning.level) in
    let b = worth_text winning.total winning.prices ++ (dealt_text winning.shares winning.level ++ pieces_text winning.lottery) in
    let mode : winning.mode ≡ mode_of_level winning.level = suits_mode winning.mode winning.level suits in
    let is : answer_head_text winning.mode winning.level ≡ k ++ h = head_is winning.mode winning.level mode in
    let regrouped : ((k ++ h) ++ b) ++ rest ≡ k ++ (h ++ (b ++ rest)) = append_assoc (k ++ h) b rest ∙ append_assoc k h (b ++ rest) in (
      h ++ (b ++ rest),
      rw is regrouped,
      λ number.
          let first = asked_again number (asked_of winning.level) (b ++ rest) (level_asked sizes winning.level are.level) in
          let second = with_again sizes first.0 winning rest small mode are in
          (second.0, rw first.1 second.1),
    )
