-- The lines of the text of rules are read where no code applies to them, and else refused with the first that does.
use Rattle.std.proofs.Common.{◌≡◌, ℕ, suc, ◌+◌, true, false, leb, ltb, eqb, List, [], ◌∷◌, length, None, Some, refl, arith}
use Rattle.std.specs.Prelude.{◌||◌}
use Rattle.std.proofs.lemmas.Bool.{ne_eqb, ltb-true, le-leb}
use Rattle.match_rules.specs.declared.rules.RulePaper.{RulePaper}
use Rattle.match_rules.specs.declared.rules.RuleReviewer.{RuleReviewer}
use Rattle.match_rules.specs.declared.rules.RulePair.{RulePair}
use Rattle.match_rules.specs.Id.{is_id, is_institution}
use Rattle.match_rules.specs.Rules.{demand_total, most_score}
use Rattle.text_lines.specs.declared.fault.LineCode.TheVariants.{Number, Range, Order}
use Rattle.text_lines.specs.Fields.{fields, two_of, three_or_four_of, five_of}
use Rattle.text_lines.specs.Forms.{in_form}
use Rattle.text_lines.specs.LineTests.{first_of, unless}
use Rattle.text_lines.specs.Numbers.{is_canonical, is_canonical_signed, value, size}
use Rattle.text_lines.specs.Reading.{◌>>=◌}
use Rattle.text_lines.proofs.FaultLaws.{Agrees, IsAgreed, by_test}
use Rattle.text_lines.proofs.FormFaults.{agrees_needs, many_parts}
use Rattle.publication.specs.RulesReading.{paper_of, paper_fields, reviewer_of, reviewer_fields, are_numbers, pair_of, pair_fields, pair_with, ranged_of, is_paper_behind, is_reviewer_behind, is_pair_behind}
use Rattle.publication.specs.RulesTests.{paper_tests, paper_parts, paper_from, reviewer_tests, reviewer_parts, reviewer_from, pair_tests, pair_parts, pair_from}

low : (n : ℕ) → leb 0 n ≡ true
low n = le-leb 0 n (omega arith)

-- ---- papers

paper_agreed : (before : List RulePaper) (a b : List ℕ) → IsAgreed (paper_fields before (a, b)) (first_of (paper_parts before (a ∷ b ∷ []))) (paper_from (a ∷ b ∷ []))
paper_agreed before a b =
    by_test (is_canonical b) (λ c. by_test (leb (value b) 100) (λ h. by_test (leb (demand_total before + value b) 4500) (λ s. by_test (is_id a) (λ i.
    by_test (is_paper_behind before a) (λ o. rw (c, h, low (value b), s, i, o) (refl, refl)) (λ o. rw (c, h, low (value b), s, i, o) refl)) (λ i. rw (c, h, low (value b), s, i) refl)) (λ s. rw (c, h, low (value b), s) refl)) (λ h. rw (c, h) refl)) (λ c. rw c refl)

pub papers_agree : (before : List RulePaper) → Agrees (paper_of before) (paper_tests before) (λ line. paper_from (fields line))
unfolding paper_of
papers_agree before line = by (fields line)
  where
    by : (parts : List (List ℕ)) → IsAgreed (in_form (two_of parts) >>= λ p. paper_fields before p) (first_of (paper_parts before parts)) (paper_from parts)
    by [] = refl
    by (a ∷ []) = refl
    by (a ∷ b ∷ []) = paper_agreed before a b
    by (a ∷ b ∷ c ∷ parts) = rw many_parts refl

-- ---- reviewers

reviewer_three : (before : List RuleReviewer) (a b c : List ℕ) → IsAgreed (reviewer_fields before (a, b, c, None)) (first_of (reviewer_parts before (a ∷ b ∷ c ∷ []))) (reviewer_from (a ∷ b ∷ c ∷ []))
reviewer_three before a b c =
    by_test (is_canonical b) (λ l. by_test (is_canonical c) (λ g. by_test (leb (value c) 1500) (λ h. by_test (leb (value b) (value c)) (λ s. by_test (is_id a) (λ i.
    by_test (is_reviewer_behind before a) (λ o. rw (l, g, h, low (value c), s, low (value b), i, o) (refl, refl)) (λ o. rw (l, g, h, low (value c), s, low (value b), i, o) refl)) (λ i. rw (l, g, h, low (value c), s, low (value b), i) refl)) (λ s. rw (l, g, h, low (value c), s) refl)) (λ h. rw (l, g, h) refl)) (λ g. rw (l, g) refl)) (λ l. rw l refl)

reviewer_four : (before : List RuleReviewer) (a b c d : List ℕ) → IsAgreed (reviewer_fields before (a, b, c, Some d)) (first_of (reviewer_parts before (a ∷ b ∷ c ∷ d ∷ []))) (reviewer_from (a ∷ b ∷ c ∷ d ∷ []))
reviewer_four before a b c d =
    by_test (is_canonical b) (λ l. by_test (is_canonical c) (λ g. by_test (leb (value c) 1500) (λ h. by_test (leb (value b) (value c)) (λ s. by_test (is_id a) (λ i. by_test (is_institution d) (λ u.
    by_test (is_reviewer_behind before a) (λ o. rw (l, g, h, low (value c), s, low (value b), i, u, o) (refl, refl)) (λ o. rw (l, g, h, low (value c), s, low (value b), i, u, o) refl)) (λ u. rw (l, g, h, low (value c), s, low (value b), i, u) refl)) (λ i. rw (l, g, h, low (value c), s, low (value b), i) refl)) (λ s. rw (l, g, h, low (value c), s) refl)) (λ h. rw (l, g, h) refl)) (λ g. rw (l, g) refl)) (λ l. rw l refl)

pub reviewers_agree : (before : List RuleReviewer) → Agrees (reviewer_of before) (reviewer_tests before) (λ line. reviewer_from (fields line))
unfolding reviewer_of
reviewers_agree before line = by (fields line)
  where
    five_parts : (n : ℕ) → (eqb (suc (suc (suc (suc (suc n))))) 3 ≡ false) × (eqb (suc (suc (suc (suc (suc n))))) 4 ≡ false)
    five_parts n = (ne_eqb _ 3 (omega arith), ne_eqb _ 4 (omega arith))

    by : (parts : List (List ℕ)) → IsAgreed (in_form (three_or_four_of parts) >>= λ p. reviewer_fields before p) (first_of (reviewer_parts before parts)) (reviewer_from parts)
    by [] = refl
    by (a ∷ []) = refl
    by (a ∷ b ∷ []) = refl
    by (a ∷ b ∷ c ∷ []) = reviewer_three before a b c
    by (a ∷ b ∷ c ∷ d ∷ []) = reviewer_four before a b c d
    by (a ∷ b ∷ c ∷ d ∷ e ∷ parts) = rw ((five_parts (length parts)).0, (five_parts (length parts)).1) refl

-- ---- pairs

abbrev RangedAgree : ℕ → ℕ → List RulePair → List ℕ → List ℕ → List ℕ → List ℕ → List ℕ → Type 0
RangedAgree papers reviewers before a b c d e =
    let parts = a ∷ b ∷ c ∷ d ∷ e ∷ [] in
    IsAgreed (ranged_of papers reviewers (a, b, c, d, e) >>= λ pair. pair_with before pair) (unless (pair_parts papers reviewers before parts).range Range (unless (pair_parts papers reviewers before parts).order Order None)) (pair_from parts)

-- the numbers are spelled canonically
record ArePairNumbers (a b c d e : List ℕ) : Type 0 where
  first : is_canonical a ≡ true
  second : is_canonical b ≡ true
  score : is_canonical_signed c ≡ true
  floor : is_canonical d ≡ true
  cap : is_canonical e ≡ true

below_is : (n count : ℕ) → ltb n count ≡ true → leb n count ≡ true
below_is n count lt = le-leb n count (omega (arith, ltb-true n count lt))

tickets_agreed : (papers reviewers : ℕ) (before : List RulePair) (a b c d e : List ℕ) → ArePairNumbers a b c d e → ltb (value a) papers ≡ true → ltb (value b) reviewers ≡ true → leb (size c) most_score ≡ true → RangedAgree papers reviewers before a b c d e
tickets_agreed papers reviewers before a b c d e n p r s =
    let x = below_is (value a) papers p in
    let y = below_is (value b) reviewers r in
    by_test (leb (value e) 10000) (λ h. by_test (leb (value d) (value e)) (λ l. by_test (eqb (value d) 0 || eqb (value d) 10000) (λ w.
    by_test (is_pair_behind before (pair_from (a ∷ b ∷ c ∷ d ∷ e ∷ []))) (λ o. rw (n.first, x, low (value a), p, n.second, y, low (value b), r, n.score, s, n.cap, h, low (value e), n.floor, l, low (value d), w, o) (refl, refl)) (λ o. rw (n.first, x, low (value a), p, n.second, y, low (value b), r, n.score, s, n.cap, h, low (value e), n.floor, l, low (value d), w, o) refl))
    (λ w. rw (n.first, x, low (value a), p, n.second, y, low (value b), r, n.score, s, n.cap, h, low (value e), n.floor, l, low (value d), w) refl)) (λ l. rw (n.first, x, low (value a), p, n.second, y, low (value b), r, n.score, s, n.cap, h, low (value e), n.floor, l) refl)) (λ h. rw (n.first, x, low (value a), p, n.second, y, low (value b), r, n.score, s, n.cap, h) refl)

ranged_agreed : (papers reviewers : ℕ) (before : List RulePair) (a b c d e : List ℕ) → ArePairNumbers a b c d e → RangedAgree papers reviewers before a b c d e
ranged_agreed papers reviewers before a b c d e n =
    by_test (ltb (value a) papers) (λ p.
    let x = below_is (value a) papers p in
    by_test (ltb (value b) reviewers) (λ r.
    let y = below_is (value b) reviewers r in
    by_test (leb (size c) most_score) (λ s. tickets_agreed papers reviewers before a b c d e n p r s) (λ s. rw (n.first, x, low (value a), p, n.second, y, low (value b), r, n.score, s) refl))
    (λ r. by_test (leb (value b) reviewers) (λ y. rw (n.first, x, low (value a), p, n.second, y, low (value b), r) refl) (λ y. rw (n.first, x, low (value a), p, n.second, y, r) refl)))
    (λ p. by_test (leb (value a) papers) (λ x. rw (n.first, x, low (value a), p) refl) (λ x. rw (n.first, x, p) refl))

pair_agreed : (papers reviewers : ℕ) (before : List RulePair) (a b c d e : List ℕ) → IsAgreed (pair_fields papers reviewers before (a, b, c, d, e)) (first_of (pair_parts papers reviewers before (a ∷ b ∷ c ∷ d ∷ e ∷ []))) (pair_from (a ∷ b ∷ c ∷ d ∷ e ∷ []))
pair_agreed papers reviewers before a b c d e =
    by_test (is_canonical a) (λ p. by_test (is_canonical b) (λ r. by_test (is_canonical_signed c) (λ s. by_test (is_canonical d) (λ f. by_test (is_canonical e) (λ h.
    let ranged = ranged_agreed papers reviewers before a b c d e (record { first = p; second = r; score = s; floor = f; cap = h }) in
    agrees_needs (are_numbers (a, b, c, d, e)) Number (ranged_of papers reviewers (a, b, c, d, e) >>= λ pair. pair_with before pair) (unless (pair_parts papers reviewers before (a ∷ b ∷ c ∷ d ∷ e ∷ [])).range Range (unless (pair_parts papers reviewers before (a ∷ b ∷ c ∷ d ∷ e ∷ [])).order Order None)) (pair_from (a ∷ b ∷ c ∷ d ∷ e ∷ [])) (λ _. ranged))
    (λ h. rw (p, r, s, f, h) refl)) (λ f. rw (p, r, s, f) refl)) (λ s. rw (p, r, s) refl)) (λ r. rw (p, r) refl)) (λ p. rw p refl)

pub pairs_agree : (papers reviewers : ℕ) (before : List RulePair) → Agrees (pair_of papers reviewers before) (pair_tests papers reviewers before) (λ line. pair_from (fields line))
unfolding pair_of
pairs_agree papers reviewers before line = by (fields line)
  where
    six_parts : (n : ℕ) → eqb (suc (suc (suc (suc (suc (suc n)))))) 5 ≡ false
    six_parts n = ne_eqb _ 5 (omega arith)

    by : (parts : List (List ℕ)) → IsAgreed (in_form (five_of parts) >>= λ p. pair_fields papers reviewers before p) (first_of (pair_parts papers reviewers before parts)) (pair_from parts)
    by [] = refl
    by (a ∷ []) = refl
    by (a ∷ b ∷ []) = refl
    by (a ∷ b ∷ c ∷ []) = refl
    by (a ∷ b ∷ c ∷ d ∷ []) = refl
    by (a ∷ b ∷ c ∷ d ∷ e ∷ []) = pair_agreed papers reviewers before a b c d e
    by (a ∷ b ∷ c ∷ d ∷ e ∷ f ∷ parts) = rw (six_parts (length parts)) refl
