-- Rules are read as they are spelled.
use Rattle.std.proofs.Common.{◌≡◌, ℕ, List, [], ◌++◌, length, Ok, refl, sym, ap, subst, ◌∙◌, append_assoc, arith, lit<, lit≤}
use Rattle.std.specs.Prelude.{codes}
use Rattle.std.specs.Fmt.{digits}
use Rattle.match_rules.specs.declared.rules.RulePaper.{RulePaper}
use Rattle.match_rules.specs.declared.rules.RuleReviewer.{RuleReviewer}
use Rattle.match_rules.specs.declared.rules.RulePair.{RulePair}
use Rattle.match_rules.specs.declared.rules.TheConstants.{RULES_TICKETS}
use Rattle.match_rules.specs.Rules.{RulesValue, AreRules, ArePairs, IsLimit, rules_value}
use Rattle.text_lines.specs.declared.fault.TextFault.{TextFault}
use Rattle.text_lines.specs.Fields.{with_spaces}
use Rattle.text_lines.specs.Forms.{fixed, number_after, count_line, section_at, section_text}
use Rattle.text_lines.specs.Reading.{◌>>=◌, Cursor, due, following}
use Rattle.text_lines.specs.Texts.{line_of}
use Rattle.text_lines.proofs.FormLaws.{fixed_spells, number_after_spells, section_takes, section_again}
use Rattle.text_lines.proofs.TextLaws.{IsLine, bind_ok, ok_is, item_takes, item_again}
use Rattle.text_lines.proofs.WordLaws.{IsWord, ascii_word, ascii_line}
use Rattle.publication.specs.RulesLists.{AreLists}
use Rattle.publication.specs.RulesReading.{paper_of, reviewer_of, pair_of, head_at, lists_at, rules_at}
use Rattle.publication.specs.RulesText.{paper_line, reviewer_line, pair_line, head_text, lists_text, rules_text}
use Rattle.publication.proofs.PaperLaws.{FitsPaper, paper_spells, papers_are, papers_along}
use Rattle.publication.proofs.ReviewerLaws.{FitsReviewer, reviewer_spells, reviewers_are, reviewers_along}
use Rattle.publication.proofs.PairLaws.{FitsPair, pair_spells, pairs_are, pairs_along}

-- one text behind another
pub seam : (a b c x y : List ℕ) → a ≡ x ++ b → b ≡ y ++ c → a ≡ (x ++ y) ++ c
seam a b c x y p q = p ∙ ap (λ (t : List ℕ). x ++ t) q ∙ sym (append_assoc x y c)

tickets_line : codes "tickets 10000" ≡ count_line (codes "tickets") RULES_TICKETS
unfolding count_line with_spaces digits
tickets_line = refl

kind_line : IsLine (codes "rules 1")
kind_line = ascii_line (codes "rules 1") refl refl (lit≤ tt)

tickets_is : IsLine (codes "tickets 10000")
tickets_is = ascii_line (codes "tickets 10000") refl refl (lit≤ tt)

end_line : IsLine (codes "end rules")
end_line = ascii_line (codes "end rules") refl refl (lit≤ tt)

limit_word : IsWord (codes "limit")
limit_word = ascii_word (codes "limit") refl refl refl

-- ---- the head

pub head_takes : (at rest : Cursor) (limit : ℕ) → head_at at ≡ Ok (limit, rest) → IsLimit limit × (at.bytes ≡ head_text RULES_TICKETS limit ++ rest.bytes)
unfolding head_at head_text
head_takes at rest limit e =
    let a = bind_ok (due (fixed (codes "rules 1")) at) (λ kind. due (fixed (codes "tickets 10000")) kind.1 >>= λ tickets. due (number_after (codes "limit") 1 1500) tickets.1) (limit, rest) e in
    let b = bind_ok (due (fixed (codes "tickets 10000")) a.0.1) (λ tickets. due (number_after (codes "limit") 1 1500) tickets.1) (limit, rest) a.2 in
    let kind = item_takes _ _ _ (fixed_spells (codes "rules 1") kind_line) [] at a.0.1 a.0.0 a.1 in
    let tickets = item_takes _ _ _ (fixed_spells (codes "tickets 10000") tickets_is) [] a.0.1 b.0.1 b.0.0 b.1 in
    let last = item_takes _ _ _ (number_after_spells (codes "limit") 1 1500 limit_word (lit≤ tt) (lit< tt)) [] b.0.1 rest limit b.2 in
    let second : a.0.1.bytes ≡ line_of (count_line (codes "tickets") RULES_TICKETS) ++ b.0.1.bytes = tickets.1 ∙ ap (λ (t : List ℕ). line_of t ++ b.0.1.bytes) tickets_line in
    (last.0, seam at.bytes a.0.1.bytes rest.bytes (line_of (codes "rules 1")) _ kind.1 (seam a.0.1.bytes b.0.1.bytes rest.bytes (line_of (count_line (codes "tickets") RULES_TICKETS)) _ second last.1))

pub head_again : (limit number : ℕ) (rest : List ℕ) → IsLimit limit → (m : ℕ) × (head_at (record { number = number; bytes = head_text RULES_TICKETS limit ++ rest }) ≡ Ok (limit, record { number = m; bytes = rest }))
unfolding head_at head_text
head_again limit number rest is =
    let limit_text = line_of (count_line (codes "limit") limit) in
    let tickets_text = line_of (codes "tickets 10000") in
    let kind = item_again _ _ _ (fixed_spells (codes "rules 1") kind_line) [] number (tickets_text ++ (limit_text ++ rest)) tt tt in
    let tickets = item_again _ _ _ (fixed_spells (codes "tickets 10000") tickets_is) [] (following number) (limit_text ++ rest) tt tt in
    let last = item_again _ _ _ (number_after_spells (codes "limit") 1 1500 limit_word (lit≤ tt) (lit< tt)) [] (following (following number)) rest limit is in
    let regrouped : (line_of (codes "rules 1") ++ (line_of (count_line (codes "tickets") RULES_TICKETS) ++ limit_text)) ++ rest ≡ line_of (codes "rules 1") ++ (tickets_text ++ (limit_text ++ rest)) =
    append_assoc (line_of (codes "rules 1")) (line_of (count_line (codes "tickets") RULES_TICKETS) ++ limit_text) rest ∙ ap (λ (t : List ℕ). line_of (codes "rules 1") ++ t) (append_assoc (line_of (count_line (codes "tickets") RULES_TICKETS)) limit_text rest ∙ ap (λ (t : List ℕ). line_of t ++ (limit_text ++ rest)) (sym tickets_line)) in
    (following (following (following number)), rw (regrouped, kind, tickets) last)

-- ---- the lists

papers_word : IsWord (codes "papers")
papers_word = ascii_word (codes "papers") refl refl refl

reviewers_word : IsWord (codes "reviewers")
reviewers_word = ascii_word (codes "reviewers") refl refl refl

pairs_word : IsWord (codes "pairs")
pairs_word = ascii_word (codes "pairs") refl refl refl

pub lists_takes : (at rest : Cursor) (ps : List RulePaper) (rs : List RuleReviewer) (es : List RulePair) → lists_at at ≡ Ok ((ps, rs, es), rest) → AreLists ps rs es × (at.bytes ≡ lists_text ps rs es ++ rest.bytes)
unfolding lists_at lists_text
lists_takes at rest ps rs es e =
    let a = bind_ok (section_at (codes "papers") 0 1500 paper_of at) (λ papers. section_at (codes "reviewers") 0 1500 reviewer_of papers.1 >>= λ reviewers. section_at (codes "pairs") 0 250000 (pair_of (length papers.0) (length reviewers.0)) reviewers.1 >>= λ pairs. Ok ((papers.0, reviewers.0, pairs.0), pairs.1)) ((ps, rs, es), rest) e in
    let b = bind_ok (section_at (codes "reviewers") 0 1500 reviewer_of a.0.1) (λ reviewers. section_at (codes "pairs") 0 250000 (pair_of (length a.0.0) (length reviewers.0)) reviewers.1 >>= λ pairs. Ok ((a.0.0, reviewers.0, pairs.0), pairs.1)) ((ps, rs, es), rest) a.2 in
    let c = bind_ok (section_at (codes "pairs") 0 250000 (pair_of (length a.0.0) (length b.0.0)) b.0.1) (λ pairs. Ok ((a.0.0, b.0.0, pairs.0), pairs.1)) ((ps, rs, es), rest) b.2 in
    let papers = section_takes (codes "papers") 0 1500 paper_of FitsPaper paper_line paper_spells (lit< tt) at a.0.1 a.0.0 a.1 in
    let reviewers = section_takes (codes "reviewers") 0 1500 reviewer_of FitsReviewer reviewer_line reviewer_spells (lit< tt) a.0.1 b.0.1 b.0.0 b.1 in
    let pairs = section_takes (codes "pairs") 0 250000 (pair_of (length a.0.0) (length b.0.0)) (FitsPair (length a.0.0) (length b.0.0)) pair_line (pair_spells (length a.0.0) (length b.0.0) (omega (arith, papers.high)) (omega (arith, reviewers.high))) (lit< tt) b.0.1 c.0.1 c.0.0 c.1 in
    let lists : AreLists a.0.0 b.0.0 c.0.0 = record {
      papers = papers_are a.0.0 papers.high papers.along;
      reviewers = reviewers_are b.0.0 reviewers.high reviewers.along;
      pairs = pairs_are (length a.0.0) (length b.0.0) c.0.0 pairs.high pairs.along;
    } in
    let text = seam at.bytes a.0.1.bytes c.0.1.bytes (section_text (codes "papers") paper_line a.0.0) _ papers.parts (seam a.0.1.bytes b.0.1.bytes c.0.1.bytes (section_text (codes "reviewers") reviewer_line b.0.0) _ reviewers.parts pairs.parts) in
    let same = ok_is {E = TextFault} ((a.0.0, b.0.0, c.0.0), c.0.1) ((ps, rs, es), rest) c.2 in
    subst (λ (x : (List RulePaper × List RuleReviewer × List RulePair) × Cursor). AreLists x.0.0 x.0.1 x.0.2 × (at.bytes ≡ (section_text (codes "papers") paper_line x.0.0 ++ (section_text (codes "reviewers") reviewer_line x.0.1 ++ section_text (codes "pairs") pair_line x.0.2)) ++ x.1.bytes)) same (lists, text)

pub lists_again : (ps : List RulePaper) (rs : List RuleReviewer) (es : List RulePair) (number : ℕ) (rest : List ℕ) → AreLists ps rs es → (m : ℕ) × (lists_at (record { number = number; bytes = lists_text ps rs es ++ rest }) ≡ Ok ((ps, rs, es), record { number = m; bytes = rest }))
unfolding lists_at lists_text
lists_again ps rs es number rest are =
    let p = section_text (codes "papers") paper_line ps in
    let r = section_text (codes "reviewers") reviewer_line rs in
    let q = section_text (codes "pairs") pair_line es in
    let few = are.papers.few in
    let fewer = are.reviewers.few in
    let papers = section_again (codes "papers") 0 1500 paper_of FitsPaper paper_line paper_spells papers_word (lit≤ tt) (lit< tt) ps number (r ++ (q ++ rest)) (omega arith) few (papers_along ps are.papers) in
    let reviewers = section_again (codes "reviewers") 0 1500 reviewer_of FitsReviewer reviewer_line reviewer_spells reviewers_word (lit≤ tt) (lit< tt) rs papers.0 (q ++ rest) (omega arith) fewer (reviewers_along rs are.reviewers) in
    let pairs = section_again (codes "pairs") 0 250000 (pair_of (length ps) (length rs)) (FitsPair (length ps) (length rs)) pair_line (pair_spells (length ps) (length rs) (omega (arith, few)) (omega (arith, fewer))) pairs_word (lit≤ tt) (lit< tt) es reviewers.0 rest (omega arith) are.pairs.few (pairs_along (length ps) (length rs) es are.pairs) in
    let regrouped : (p ++ (r ++ q)) ++ rest ≡ p ++ (r ++ (q ++ rest)) = append_assoc p (r ++ q) rest ∙ ap (λ (t : List ℕ). p ++ t) (append_assoc r q rest) in
    (pairs.0, rw (regrouped, papers.1, reviewers.1, pairs.1) refl)

-- ---- the text

pub rules_takes : (at rest : Cursor) (rules : RulesValue) → rules_at at ≡ Ok (rules, rest) → AreRules rules × (at.bytes ≡ rules_text rules ++ rest.bytes)
unfolding rules_at rules_text
rules_takes at rest rules e =
    let a = bind_ok (head_at at) (λ limit. lists_at limit.1 >>= λ lists. due (fixed (codes "end rules")) lists.1 >>= λ end. Ok (rules_value RULES_TICKETS limit.0 lists.0.0 lists.0.1 lists.0.2, end.1)) (rules, rest) e in
    let b = bind_ok (lists_at a.0.1) (λ lists. due (fixed (codes "end rules")) lists.1 >>= λ end. Ok (rules_value RULES_TICKETS a.0.0 lists.0.0 lists.0.1 lists.0.2, end.1)) (rules, rest) a.2 in
    let c = bind_ok (due (fixed (codes "end rules")) b.0.1) (λ end. Ok (rules_value RULES_TICKETS a.0.0 b.0.0.0 b.0.0.1 b.0.0.2, end.1)) (rules, rest) b.2 in
    let head = head_takes at a.0.1 a.0.0 a.1 in
    let lists = lists_takes a.0.1 b.0.1 b.0.0.0 b.0.0.1 b.0.0.2 b.1 in
    let end = item_takes _ _ _ (fixed_spells (codes "end rules") end_line) [] b.0.1 c.0.1 c.0.0 c.1 in
    let made = rules_value RULES_TICKETS a.0.0 b.0.0.0 b.0.0.1 b.0.0.2 in
    let are : AreRules made = record { tickets = refl; limit = head.0; papers = lists.0.papers; reviewers = lists.0.reviewers; pairs = lists.0.pairs } in
    let text = seam at.bytes a.0.1.bytes c.0.1.bytes (head_text RULES_TICKETS a.0.0) _ head.1 (seam a.0.1.bytes b.0.1.bytes c.0.1.bytes (lists_text b.0.0.0 b.0.0.1 b.0.0.2) _ lists.1 end.1) in
    let same = ok_is {E = TextFault} (made, c.0.1) (rules, rest) c.2 in
    subst (λ (x : RulesValue × Cursor). AreRules x.0 × (at.bytes ≡ (head_text x.0.tickets x.0.limit ++ (lists_text x.0.papers x.0.reviewers x.0.pairs ++ line_of (codes "end rules"))) ++ x.1.bytes)) same (are, text)

pub rules_again : (rules : RulesValue) (number : ℕ) (rest : List ℕ) → AreRules rules → (m : ℕ) × (rules_at (record { number = number; bytes = rules_text rules ++ rest }) ≡ Ok (rules, record { number = m; bytes = rest }))
unfolding rules_at rules_text
rules_again rules number rest are =
    let h = head_text RULES_TICKETS rules.limit in
    let l = lists_text rules.papers rules.reviewers rules.pairs in
    let z = line_of (codes "end rules") in
    let pairs : ArePairs RULES_TICKETS (length rules.papers) (length rules.reviewers) rules.pairs =
    subst (λ (tickets : ℕ). ArePairs tickets (length rules.papers) (length rules.reviewers) rules.pairs) are.tickets are.pairs in
    let head = head_again rules.limit number (l ++ (z ++ rest)) are.limit in
    let lists = lists_again rules.papers rules.reviewers rules.pairs head.0 (z ++ rest) (record { papers = are.papers; reviewers = are.reviewers; pairs = pairs }) in
    let end = item_again _ _ _ (fixed_spells (codes "end rules") end_line) [] lists.0 rest tt tt in
    let regrouped : (h ++ (l ++ z)) ++ rest ≡ h ++ (l ++ (z ++ rest)) = append_assoc h (l ++ z) rest ∙ ap (λ (t : List ℕ). h ++ t) (append_assoc l z rest) in
    (following lists.0, rw (are.tickets, regrouped, head.1, lists.1, end) refl)
