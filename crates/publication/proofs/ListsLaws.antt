-- The three lists of rules, section by section.
use Rattle.std.proofs.Common.{◌≡◌, ℕ, ◌≤◌, List, [], length, Result, Ok, refl, arith}
use Rattle.std.specs.Prelude.{codes}
use Rattle.match_rules.specs.declared.rules.RulePaper.{RulePaper}
use Rattle.match_rules.specs.declared.rules.RuleReviewer.{RuleReviewer}
use Rattle.match_rules.specs.declared.rules.RulePair.{RulePair}
use Rattle.text_lines.specs.declared.fault.TextFault.{TextFault}
use Rattle.text_lines.specs.declared.fault.ReadError.{ReadError}
use Rattle.text_lines.specs.Forms.{section_at}
use Rattle.text_lines.specs.Reading.{◌>>=◌, Cursor, Fails, AllFrom}
use Rattle.text_lines.proofs.DueLaws.{bind_fails}
use Rattle.text_lines.proofs.TextLaws.{along_from}
use Rattle.publication.specs.RulesLists.{AreLists}
use Rattle.publication.specs.RulesReading.{paper_of, reviewer_of, pair_of, lists_at}
use Rattle.publication.specs.RulesText.{paper_line, reviewer_line, pair_line}
use Rattle.publication.proofs.PaperLaws.{FitsPaper, paper_spells, papers_are}
use Rattle.publication.proofs.ReviewerLaws.{FitsReviewer, reviewer_spells, reviewers_are}
use Rattle.publication.proofs.PairLaws.{FitsPair, pair_spells, pairs_are}

abbrev papers_at : Cursor → Result (List RulePaper × Cursor) TextFault
papers_at at = section_at (codes "papers") 0 1500 paper_of at

abbrev reviewers_at : Cursor → Result (List RuleReviewer × Cursor) TextFault
reviewers_at at = section_at (codes "reviewers") 0 1500 reviewer_of at

abbrev pairs_at : ℕ → ℕ → Cursor → Result (List RulePair × Cursor) TextFault
pairs_at papers reviewers at = section_at (codes "pairs") 0 250000 (pair_of papers reviewers) at

pub reviewers_fail : (at a : Cursor) (ps : List RulePaper) (e : ReadError) → papers_at at ≡ Ok (ps, a) → Fails e (reviewers_at a) → Fails e (lists_at at)
unfolding lists_at
reviewers_fail at a ps e first bad =
    rw first (bind_fails e (reviewers_at a) (λ reviewers. pairs_at (length ps) (length reviewers.0) reviewers.1 >>= λ pairs. Ok ((ps, reviewers.0, pairs.0), pairs.1)) bad)

pub pairs_fail : (at a b : Cursor) (ps : List RulePaper) (rs : List RuleReviewer) (papers reviewers : ℕ) (e : ReadError) → papers_at at ≡ Ok (ps, a) → reviewers_at a ≡ Ok (rs, b) → papers ≡ length ps → reviewers ≡ length rs
    → Fails e (pairs_at papers reviewers b) → Fails e (lists_at at)
unfolding lists_at
pairs_fail at a b ps rs papers reviewers e first second n m bad =
    let here : Fails e (pairs_at (length ps) (length rs) b) = rw (← n, ← m) bad in
    rw (first, second) (bind_fails e (pairs_at (length ps) (length rs) b) (λ pairs. Ok ((ps, rs, pairs.0), pairs.1)) here)

pub lists_read : (at a b c : Cursor) (ps : List RulePaper) (rs : List RuleReviewer) (es : List RulePair) (papers reviewers : ℕ) → papers_at at ≡ Ok (ps, a) → reviewers_at a ≡ Ok (rs, b) → papers ≡ length ps → reviewers ≡ length rs
    → pairs_at papers reviewers b ≡ Ok (es, c) → lists_at at ≡ Ok ((ps, rs, es), c)
unfolding lists_at
lists_read at a b c ps rs es papers reviewers first second n m third =
    let here : pairs_at (length ps) (length rs) b ≡ Ok (es, c) = rw (← n, ← m) third in
    rw (first, second, here) refl

-- lists that were read from lines
pub lists_from : (ps : List RulePaper) (rs : List RuleReviewer) (es : List RulePair) (papers reviewers : ℕ) → length ps ≤ 1500 → length rs ≤ 1500 → length es ≤ 250000 → papers ≡ length ps → reviewers ≡ length rs
    → AllFrom paper_of [] ps → AllFrom reviewer_of [] rs → AllFrom (pair_of papers reviewers) [] es → AreLists ps rs es
lists_from ps rs es papers reviewers few fewer some n m from_papers from_reviewers from_pairs =
    let pairs : AllFrom (pair_of (length ps) (length rs)) [] es = rw (← n, ← m) from_pairs in
    record {
      papers = papers_are ps few (along_from paper_of FitsPaper paper_line paper_spells [] ps from_papers);
      reviewers = reviewers_are rs fewer (along_from reviewer_of FitsReviewer reviewer_line reviewer_spells [] rs from_reviewers);
      pairs = pairs_are (length ps) (length rs) es some (along_from (pair_of (length ps) (length rs)) (FitsPair (length ps) (length rs)) pair_line (pair_spells (length ps) (length rs) (omega (arith, few)) (omega (arith, fewer))) [] es pairs);
    }
