-- The lines of the text of an answer are read where no code applies to them, and else refused with the first that does.
use Rattle.std.proofs.Common.{◌≡◌, ℕ, suc, Bool, false, leb, ltb, eqb, List, [], ◌∷◌, map, drop, Option, None, refl, arith}
use Rattle.std.specs.Prelude.{◌&&◌, codes, if◌then◌else◌}
use Rattle.std.specs.List.{list_all}
use Rattle.std.specs.Str.{bytes_eq}
use Rattle.std.proofs.lemmas.Bool.{ne_eqb, le-leb}
use Rattle.match_rules.specs.declared.answer.Side.{Side}
use Rattle.match_rules.specs.declared.answer.Side.TheVariants.{Into, OutOf}
use Rattle.match_rules.specs.declared.lottery.Piece.{Piece}
use Rattle.match_rules.specs.declared.rules.TheConstants.{RULES_TICKETS}
use Rattle.match_rules.specs.Answers.{most_price, most_total}
use Rattle.text_lines.specs.declared.fault.LineCode.TheVariants.{Form, Number, Range}
use Rattle.text_lines.specs.Fields.{fields, one_of, two_of}
use Rattle.text_lines.specs.Forms.{in_form, integer_from, number_from}
use Rattle.text_lines.specs.LineTests.{first_of, part, unless}
use Rattle.text_lines.specs.Numbers.{is_canonical, is_canonical_signed, value, signed_value, size}
use Rattle.text_lines.specs.Reading.{◌>>=◌}
use Rattle.text_lines.proofs.FaultLaws.{Agrees, IsAgreed, by_test}
use Rattle.text_lines.proofs.FormFaults.{agrees_needs, many_parts}
use Rattle.publication.specs.AnswerForms.{kind_of, price_of, share_of, total_of, total_in, piece_of, piece_in, ascends, in_range, stands_behind}
use Rattle.publication.specs.AnswerTests.{kind_tests, kind_from, side_tests, total_tests, total_parts, price_tests, price_parts, share_tests, share_parts, piece_tests, piece_parts, piece_from, marks_tests, marks_parts}
use Rattle.match_rules.specs.declared.answer.Mode.{Mode}
use Rattle.match_rules.specs.declared.answer.Mode.TheVariants.{Whole, Fair}
use Rattle.match_rules.specs.Rules.{most_score}
use Rattle.text_lines.specs.declared.fault.LineCode.{LineCode}
use Rattle.publication.specs.declared.asked_forms.Asked.TheVariants as asked
use Rattle.publication.specs.AnswerTests.{mode_tests, mode_from, has_score, threshold_tests, threshold_from}
use Rattle.publication.specs.AskedForms.{mode_of, score_in, score_of, threshold_of}
use Rattle.publication.specs.CutForms.{side_of, marks_of, marks_in}

-- ---- one word or another

pub kinds_agree : Agrees kind_of kind_tests kind_from
unfolding kind_of
kinds_agree line =
    by_test (bytes_eq line (codes "lottery 1")) (λ e. rw e (refl, refl)) (λ e. by_test (bytes_eq line (codes "infeasible 1")) (λ f. rw (e, f) (refl, refl)) (λ f. rw (e, f) refl))

abbrev pub side_from : List ℕ → Side
side_from line = if bytes_eq line (codes "cut into") then Into else OutOf

pub sides_agree : Agrees side_of side_tests side_from
unfolding side_of
sides_agree line =
    by_test (bytes_eq line (codes "cut into")) (λ e. rw e (refl, refl)) (λ e. by_test (bytes_eq line (codes "cut out-of")) (λ f. rw (e, f) (refl, refl)) (λ f. rw (e, f) refl))

-- ---- the mode and the threshold

pub modes_agree : Agrees mode_of mode_tests mode_from
unfolding mode_of
modes_agree line =
    by_test (bytes_eq line (codes "mode whole")) (λ e. rw e (refl, refl)) (λ e. by_test (bytes_eq line (codes "mode fair")) (λ f. rw (e, f) (refl, refl)) (λ f. rw (e, f) refl))

-- a line of a score, or of another form
abbrev form_alone : Bool → Option LineCode
form_alone test = unless test Form None

scores_agree : (parts : List (List ℕ)) → IsAgreed (in_form (two_of parts) >>= λ p. score_in p) (form_alone (has_score parts)) (asked.At (signed_value (part 1 parts)))
scores_agree [] = refl
scores_agree (a ∷ []) = refl
scores_agree (a ∷ b ∷ []) =
    by_test (bytes_eq a (codes "threshold")) (λ w. by_test (is_canonical_signed b) (λ s. by_test (leb (size b) most_score) (λ r. rw (w, s, r) (refl, refl)) (λ r. rw (w, s, r) refl)) (λ s. rw (w, s) refl)) (λ w. rw w refl)
scores_agree (a ∷ b ∷ c ∷ parts) = rw many_parts refl

pub thresholds_agree : (mode : Mode) → Agrees (threshold_of mode) (threshold_tests mode) (threshold_from mode)
unfolding threshold_of score_of
thresholds_agree Whole line = by_test (bytes_eq line (codes "threshold none")) (λ e. rw e (refl, refl)) (λ e. rw e refl)
thresholds_agree Fair line = by_test (bytes_eq line (codes "threshold free")) (λ e. rw e (refl, refl)) (λ e. rw e (scores_agree (fields line)))

-- ---- numbers

integer_agrees : (most : ℕ) (field : List ℕ) → IsAgreed (integer_from most field) (unless (is_canonical_signed field) Number (unless (leb (size field) most) Range None)) (signed_value field)
integer_agrees most field =
    by_test (is_canonical_signed field) (λ s. by_test (leb (size field) most) (λ r. rw (s, r) (refl, refl)) (λ r. rw (s, r) refl)) (λ s. rw s refl)

two_parts : (n : ℕ) → eqb (suc (suc n)) 1 ≡ false
two_parts n = ne_eqb (suc (suc n)) 1 (omega arith)

pub totals_agree : Agrees total_of total_tests (λ line. signed_value (part 1 (fields line)))
unfolding total_of
totals_agree line = by (fields line)
  where
    by : (parts : List (List ℕ)) → IsAgreed (in_form (two_of parts) >>= λ p. total_in p) (first_of (total_parts parts)) (signed_value (part 1 parts))
    by [] = refl
    by (a ∷ []) = refl
    by (a ∷ b ∷ []) =
        agrees_needs (bytes_eq a (codes "total")) Form (integer_from most_total b) (unless (is_canonical_signed b) Number (unless (leb (size b) most_total) Range None)) (signed_value b) (λ _. integer_agrees most_total b)
    by (a ∷ b ∷ c ∷ parts) = rw many_parts refl

pub prices_agree : Agrees price_of price_tests (λ line. signed_value (part 0 (fields line)))
unfolding price_of
prices_agree line = by (fields line)
  where
    by : (parts : List (List ℕ)) → IsAgreed (in_form (one_of parts) >>= λ field. integer_from most_price field) (first_of (price_parts parts)) (signed_value (part 0 parts))
    by [] = refl
    by (a ∷ []) = integer_agrees most_price a
    by (a ∷ b ∷ parts) = rw two_parts refl

pub shares_agree : Agrees share_of share_tests (λ line. value (part 0 (fields line)))
unfolding share_of
shares_agree line = by (fields line)
  where
    by : (parts : List (List ℕ)) → IsAgreed (in_form (one_of parts) >>= λ field. number_from 0 RULES_TICKETS field) (first_of (share_parts parts)) (value (part 0 parts))
    by [] = refl
    by (a ∷ []) = by_test (is_canonical a) (λ s. by_test (leb (value a) RULES_TICKETS) (λ r. rw (s, r, le-leb 0 (value a) (omega arith)) (refl, refl)) (λ r. rw (s, r) refl)) (λ s. rw s refl)
    by (a ∷ b ∷ parts) = rw two_parts refl

-- ---- places

pub pieces_agree : (pairs : ℕ) (before : List Piece) → Agrees (piece_of pairs before) (piece_tests pairs before) (λ line. piece_from (fields line))
unfolding piece_of
pieces_agree pairs before line = by (fields line)
  where
    by : (parts : List (List ℕ)) → IsAgreed (piece_in pairs before parts) (first_of (piece_parts pairs before parts)) (piece_from parts)
    by [] = refl
    by (w ∷ ps) =
        let places = map value ps in
        by_test (list_all is_canonical (w ∷ ps)) (λ n. by_test (in_range pairs (value w) places) (λ r. by_test (ascends places && stands_behind before places) (λ o. rw (n, r, o) (refl, refl)) (λ o. rw (n, r, o) refl)) (λ r. rw (n, r) refl)) (λ n. rw n refl)

pub marks_agree : (word : List ℕ) (count : ℕ) → Agrees (marks_of word count) (marks_tests word count) (λ line. map value (drop 1 (fields line)))
unfolding marks_of
marks_agree word count line = by (fields line)
  where
    by : (parts : List (List ℕ)) → IsAgreed (marks_in word count parts) (first_of (marks_parts word count parts)) (map value (drop 1 parts))
    by [] = refl
    by (w ∷ ps) =
        let places = map value ps in
        by_test (bytes_eq w word) (λ s. by_test (list_all is_canonical ps) (λ n. by_test (list_all (λ place. ltb place count) places) (λ r. by_test (ascends places) (λ o. rw (s, n, r, o) (refl, refl)) (λ o. rw (s, n, r, o) refl)) (λ r. rw (s, n, r) refl)) (λ n. rw (s, n) refl)) (λ s. rw s refl)
