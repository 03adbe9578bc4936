-- Pairs are read as they are spelled.
use Rattle.std.proofs.Common.{◌≡◌, ℕ, ◌+◌, ◌^◌, ◌<◌, ◌≤◌, ◌⊎◌, true, ◌&&◌, ◌||◌, eqb, ltb, List, [], ◌∷◌, length, Ok, inl, inr, refl, sym, ap, subst, ◌∙◌, arith, lit<}
use Rattle.std.specs.Prelude.{decimal, nat_abs}
use Rattle.std.specs.Fmt.{signed_decimal}
use Rattle.std.proofs.lemmas.Bool.{ltb-true, lt-ltb, eqb-true, eq-eqb, or_cases, or_left, or_right, and_parts, and_from}
use lib.Signed.{mag}
use Rattle.match_rules.specs.declared.rules.RulePair.{RulePair}
use Rattle.match_rules.specs.declared.rules.TheConstants.{RULES_TICKETS}
use Rattle.match_rules.specs.Rules.{ArePairs, IsPair, IsPairBefore, pair_in, no_pair, most_score}
use Rattle.text_lines.specs.declared.fault.LineCode.{LineCode}
use Rattle.text_lines.specs.declared.fault.LineCode.TheVariants.{Number, Range, Order}
use Rattle.text_lines.specs.Fields.{fields, with_spaces, five_of}
use Rattle.text_lines.specs.Forms.{in_form, needs, number_from, integer_from}
use Rattle.text_lines.specs.Reading.{◌>>=◌}
use Rattle.text_lines.specs.Texts.{AllAlong}
use Rattle.text_lines.proofs.FormLaws.{needs_ok, five_fields_spell, number_from_takes, number_from_again, integer_from_takes, integer_from_again}
use Rattle.text_lines.proofs.NumberLaws.{number_again, signed_again, size_abs, within_from, abs_from, mag_from}
use Rattle.text_lines.proofs.TextLaws.{Spells, IsLine, bind_ok, ok_is, along_at, along_from_at}
use Rattle.text_lines.proofs.WordLaws.{AllWords, fields-with_spaces, words_line, number_word, number_short, signed_word, signed_short, length-with_spaces_one, length-with_spaces_more}
use Rattle.publication.specs.RulesReading.{are_numbers, is_before, is_pair_behind, pair_of, pair_fields, pair_with, place_of, places_of, ranged_of, tickets_of}
use Rattle.publication.specs.RulesText.{pair_line}
use Rattle.publication.proofs.LastLaws.{behind_at, behind_each}

-- a pair that may stand behind these
pub record FitsPair (papers reviewers : ℕ) (before : List RulePair) (pair : RulePair) : Type 0 where
  pub is : IsPair RULES_TICKETS papers reviewers pair
  pub order : is_pair_behind before pair ≡ true

place_takes : (count : ℕ) (field : List ℕ) (place : ℕ) → count < 2 ^ 64 → place_of count field ≡ Ok place → (field ≡ decimal place) × (place < count)
place_takes count field place small e =
    let a = bind_ok (number_from 0 count field) (λ p. needs (ltb p count) Range >>= λ _. Ok p) place e in
    let b = needs_ok (ltb a.0 count) Range (Ok a.0) place a.2 in
    let same : a.0 ≡ place = ok_is {E = LineCode} a.0 place b.1 in
    let n = number_from_takes 0 count field a.0 small a.1 in
    subst (λ (p : ℕ). (field ≡ decimal p) × (p < count)) same (n.0, ltb-true a.0 count b.0)

place_again : (count place : ℕ) → count < 2 ^ 64 → place < count → place_of count (decimal place) ≡ Ok place
place_again count place small lt =
    rw (number_from_again 0 count place (omega arith) (omega arith) (omega arith), lt-ltb place count lt) refl

record ArePlaces (papers reviewers : ℕ) (paper reviewer : List ℕ) (places : ℕ × ℕ) : Type 0 where
  paper_text : paper ≡ decimal places.0
  paper_below : places.0 < papers
  reviewer_text : reviewer ≡ decimal places.1
  reviewer_below : places.1 < reviewers

places_take : (papers reviewers : ℕ) (paper reviewer : List ℕ) (places : ℕ × ℕ) → papers < 2 ^ 64 → reviewers < 2 ^ 64 → places_of papers reviewers paper reviewer ≡ Ok places → ArePlaces papers reviewers paper reviewer places
places_take papers reviewers paper reviewer places small few e =
    let a = bind_ok (place_of papers paper) (λ p. place_of reviewers reviewer >>= λ r. Ok (p, r)) places e in
    let b = bind_ok (place_of reviewers reviewer) (λ r. Ok (a.0, r)) places a.2 in
    let p = place_takes papers paper a.0 small a.1 in
    let r = place_takes reviewers reviewer b.0 few b.1 in
    let same : (a.0, b.0) ≡ places = ok_is {E = LineCode} (a.0, b.0) places b.2 in
    subst (λ (q : ℕ × ℕ). ArePlaces papers reviewers paper reviewer q) same (record { paper_text = p.0; paper_below = p.1; reviewer_text = r.0; reviewer_below = r.1 })

places_again : (papers reviewers paper reviewer : ℕ) → papers < 2 ^ 64 → reviewers < 2 ^ 64 → paper < papers → reviewer < reviewers → places_of papers reviewers (decimal paper) (decimal reviewer) ≡ Ok (paper, reviewer)
places_again papers reviewers paper reviewer small few p r = rw (place_again papers paper small p, place_again reviewers reviewer few r) refl

record AreTickets (floor cap : List ℕ) (tickets : ℕ × ℕ) : Type 0 where
  floor_text : floor ≡ decimal tickets.0
  cap_text : cap ≡ decimal tickets.1
  whole : (tickets.0 ≡ 0) ⊎ (tickets.0 ≡ RULES_TICKETS)
  ordered : tickets.0 ≤ tickets.1
  within : tickets.1 ≤ RULES_TICKETS

whole_from : (n : ℕ) → (eqb n 0 || eqb n RULES_TICKETS) ≡ true → (n ≡ 0) ⊎ (n ≡ RULES_TICKETS)
whole_from n e = elim (or_cases (eqb n 0) (eqb n RULES_TICKETS) e) [ inl none ↦ inl (eqb-true n 0 none) | inr all ↦ inr (eqb-true n RULES_TICKETS all) ]

whole_test : (n : ℕ) → (n ≡ 0) ⊎ (n ≡ RULES_TICKETS) → (eqb n 0 || eqb n RULES_TICKETS) ≡ true
whole_test n (inl none) = or_left (eqb n 0) (eqb n RULES_TICKETS) (eq-eqb n 0 none)
whole_test n (inr all) = or_right (eqb n 0) (eqb n RULES_TICKETS) (eq-eqb n RULES_TICKETS all)

tickets_take : (floor cap : List ℕ) (tickets : ℕ × ℕ) → tickets_of floor cap ≡ Ok tickets → AreTickets floor cap tickets
tickets_take floor cap tickets e =
    let a = bind_ok (number_from 0 RULES_TICKETS cap) (λ most. number_from 0 most floor >>= λ least. needs (eqb least 0 || eqb least RULES_TICKETS) Range >>= λ _. Ok (least, most)) tickets e in
    let b = bind_ok (number_from 0 a.0 floor) (λ least. needs (eqb least 0 || eqb least RULES_TICKETS) Range >>= λ _. Ok (least, a.0)) tickets a.2 in
    let c = needs_ok (eqb b.0 0 || eqb b.0 RULES_TICKETS) Range (Ok (b.0, a.0)) tickets b.2 in
    let most = number_from_takes 0 RULES_TICKETS cap a.0 (lit< tt) a.1 in
    let least = number_from_takes 0 a.0 floor b.0 (omega (arith, most.2)) b.1 in
    let same : (b.0, a.0) ≡ tickets = ok_is {E = LineCode} (b.0, a.0) tickets c.1 in
    subst (λ (t : ℕ × ℕ). AreTickets floor cap t) same (record { floor_text = least.0; cap_text = most.0; whole = whole_from b.0 c.0; ordered = least.2; within = most.2 })

tickets_again : (floor cap : ℕ) → (floor ≡ 0) ⊎ (floor ≡ RULES_TICKETS) → floor ≤ cap → cap ≤ RULES_TICKETS → tickets_of (decimal floor) (decimal cap) ≡ Ok (floor, cap)
tickets_again floor cap whole ordered within =
    rw (number_from_again 0 RULES_TICKETS cap (omega arith) (omega arith) within, number_from_again 0 cap floor (omega arith) (omega arith) ordered, whole_test floor whole) refl

spelled_five : (line a b c d e p q r s t : List ℕ) → line ≡ with_spaces (a ∷ b ∷ c ∷ d ∷ e ∷ []) → a ≡ p → b ≡ q → c ≡ r → d ≡ s → e ≡ t → line ≡ with_spaces (p ∷ q ∷ r ∷ s ∷ t ∷ [])
spelled_five line a b c d e p q r s t h u v w x y = h ∙ rw (u, v, w, x, y) refl

abbrev words_of : RulePair → List (List ℕ)
words_of pair = decimal pair.paper ∷ decimal pair.reviewer ∷ signed_decimal pair.score ∷ decimal pair.floor ∷ decimal pair.cap ∷ []

-- a pair of five fields
record IsRanged (papers reviewers : ℕ) (f : List ℕ × List ℕ × List ℕ × List ℕ × List ℕ) (pair : RulePair) : Type 0 where
  is : IsPair RULES_TICKETS papers reviewers pair
  texts : (f.0 ≡ decimal pair.paper) × (f.1 ≡ decimal pair.reviewer) × (f.2 ≡ signed_decimal pair.score) × (f.3 ≡ decimal pair.floor) × (f.4 ≡ decimal pair.cap)

ranged_takes : (papers reviewers : ℕ) (f : List ℕ × List ℕ × List ℕ × List ℕ × List ℕ) (pair : RulePair) → papers < 2 ^ 64 → reviewers < 2 ^ 64 → ranged_of papers reviewers f ≡ Ok pair → IsRanged papers reviewers f pair
ranged_takes papers reviewers f pair small few e =
    let a = bind_ok (places_of papers reviewers f.0 f.1) (λ places. integer_from most_score f.2 >>= λ score. tickets_of f.3 f.4 >>= λ tickets. Ok (record { paper = places.0; reviewer = places.1; score = score; floor = tickets.0; cap = tickets.1 })) pair e in
    let b = bind_ok (integer_from most_score f.2) (λ score. tickets_of f.3 f.4 >>= λ tickets. Ok (record { paper = a.0.0; reviewer = a.0.1; score = score; floor = tickets.0; cap = tickets.1 })) pair a.2 in
    let c = bind_ok (tickets_of f.3 f.4) (λ tickets. Ok (record { paper = a.0.0; reviewer = a.0.1; score = b.0; floor = tickets.0; cap = tickets.1 })) pair b.2 in
    let places = places_take papers reviewers f.0 f.1 a.0 small few a.1 in
    let score = integer_from_takes most_score f.2 b.0 (lit< tt) b.1 in
    let tickets = tickets_take f.3 f.4 c.0 c.1 in
    let made : RulePair = record { paper = a.0.0; reviewer = a.0.1; score = b.0; floor = c.0.0; cap = c.0.1 } in
    let same : made ≡ pair = ok_is {E = LineCode} made pair c.2 in
    let bounds = within_from b.0 most_score (omega (arith, size_abs f.2, ap nat_abs score.2, score.1)) in
    let good : IsRanged papers reviewers f made = record {
      is = record { paper = places.paper_below; reviewer = places.reviewer_below; low = bounds.0; high = bounds.1; whole = tickets.whole; ordered = tickets.ordered; within = tickets.within };
      texts = (places.paper_text, places.reviewer_text, score.0, tickets.floor_text, tickets.cap_text);
    } in
    subst (λ (p : RulePair). IsRanged papers reviewers f p) same good

pair_sound : (papers reviewers : ℕ) → papers < 2 ^ 64 → reviewers < 2 ^ 64 → (before : List RulePair) (line : List ℕ) (pair : RulePair) → pair_of papers reviewers before line ≡ Ok pair → FitsPair papers reviewers before pair × (line ≡ pair_line pair)
unfolding pair_of pair_line
pair_sound papers reviewers small few before line pair e =
    let a = bind_ok (in_form (five_of (fields line))) (λ f. pair_fields papers reviewers before f) pair e in
    let b = needs_ok (are_numbers a.0) Number (ranged_of papers reviewers a.0 >>= λ p. pair_with before p) pair a.2 in
    let c = bind_ok (ranged_of papers reviewers a.0) (λ p. pair_with before p) pair b.1 in
    let d = needs_ok (is_pair_behind before c.0) Order (Ok c.0) pair c.2 in
    let r = ranged_takes papers reviewers a.0 c.0 small few c.1 in
    let t = r.texts in
    let same : c.0 ≡ pair = ok_is {E = LineCode} c.0 pair d.1 in
    let fits : FitsPair papers reviewers before c.0 = record { is = r.is; order = d.0 } in
    let text : line ≡ with_spaces (words_of c.0) = spelled_five line a.0.0 a.0.1 a.0.2 a.0.3 a.0.4 (decimal c.0.paper) (decimal c.0.reviewer) (signed_decimal c.0.score) (decimal c.0.floor) (decimal c.0.cap) (five_fields_spell line a.0 a.1) t.0 t.1 t.2 t.3 t.4 in
    subst (λ (p : RulePair). FitsPair papers reviewers before p × (line ≡ with_spaces (words_of p))) same (fits, text)

-- how small the numbers of a pair are
record IsSmall (pair : RulePair) : Type 0 where
  paper : pair.paper < 2 ^ 64
  reviewer : pair.reviewer < 2 ^ 64
  score : mag pair.score < 2 ^ 63
  magnitude : nat_abs pair.score ≤ most_score
  floor : pair.floor < 2 ^ 64
  cap : pair.cap < 2 ^ 64

is_small : (papers reviewers : ℕ) (pair : RulePair) → papers < 2 ^ 64 → reviewers < 2 ^ 64 → IsPair RULES_TICKETS papers reviewers pair → IsSmall pair
is_small papers reviewers pair small few is =
    let abs = abs_from pair.score most_score is.low is.high in
    record {
      paper = omega (arith, is.paper);
      reviewer = omega (arith, is.reviewer);
      score = mag_from pair.score most_score abs (lit< tt);
      magnitude = abs;
      floor = omega (arith, is.ordered, is.within);
      cap = omega (arith, is.within);
    }

pair_words : (pair : RulePair) → IsSmall pair → AllWords (words_of pair)
pair_words pair s = (number_word pair.paper s.paper, (number_word pair.reviewer s.reviewer, (signed_word pair.score s.score, (number_word pair.floor s.floor, (number_word pair.cap s.cap, tt)))))

numbers_are : (pair : RulePair) → IsSmall pair → are_numbers (decimal pair.paper, decimal pair.reviewer, signed_decimal pair.score, decimal pair.floor, decimal pair.cap) ≡ true
numbers_are pair s =
    rw ((number_again pair.paper s.paper).0, (number_again pair.reviewer s.reviewer).0, (signed_again pair.score s.score).0, (number_again pair.floor s.floor).0, (number_again pair.cap s.cap).0) refl

pair_complete : (papers reviewers : ℕ) → papers < 2 ^ 64 → reviewers < 2 ^ 64 → (before : List RulePair) (pair : RulePair) → FitsPair papers reviewers before pair → pair_of papers reviewers before (pair_line pair) ≡ Ok pair
unfolding pair_of pair_line
pair_complete papers reviewers small few before pair fits =
    let is = fits.is in
    let s = is_small papers reviewers pair small few is in
    let ranged : ranged_of papers reviewers (decimal pair.paper, decimal pair.reviewer, signed_decimal pair.score, decimal pair.floor, decimal pair.cap) ≡ Ok pair =
    rw (places_again papers reviewers pair.paper pair.reviewer small few is.paper is.reviewer, integer_from_again most_score pair.score (lit< tt) s.magnitude s.score, tickets_again pair.floor pair.cap is.whole is.ordered is.within) refl in
    rw (fields-with_spaces (decimal pair.paper) (decimal pair.reviewer ∷ signed_decimal pair.score ∷ decimal pair.floor ∷ decimal pair.cap ∷ []) (pair_words pair s), ranged, fits.order, numbers_are pair s) refl

pair_is_line : (papers reviewers : ℕ) → papers < 2 ^ 64 → reviewers < 2 ^ 64 → (before : List RulePair) (pair : RulePair) → FitsPair papers reviewers before pair → IsLine (pair_line pair)
unfolding pair_line
pair_is_line papers reviewers small few before pair fits =
    let s = is_small papers reviewers pair small few fits.is in
    words_line (words_of pair) (pair_words pair s)
    (omega (
      arith,
      number_short pair.paper s.paper,
      number_short pair.reviewer s.reviewer,
      signed_short pair.score s.score,
      number_short pair.floor s.floor,
      number_short pair.cap s.cap,
      length-with_spaces_more (decimal pair.paper) (decimal pair.reviewer) (signed_decimal pair.score ∷ decimal pair.floor ∷ decimal pair.cap ∷ []),
      length-with_spaces_more (decimal pair.reviewer) (signed_decimal pair.score) (decimal pair.floor ∷ decimal pair.cap ∷ []),
      length-with_spaces_more (signed_decimal pair.score) (decimal pair.floor) (decimal pair.cap ∷ []),
      length-with_spaces_more (decimal pair.floor) (decimal pair.cap) [],
      length-with_spaces_one (decimal pair.cap),
    ))

pub pair_spells : (papers reviewers : ℕ) → papers < 2 ^ 64 → reviewers < 2 ^ 64 → Spells (pair_of papers reviewers) (FitsPair papers reviewers) pair_line
pair_spells papers reviewers small few = record { sound = pair_sound papers reviewers small few; complete = pair_complete papers reviewers small few; lines = pair_is_line papers reviewers small few }

-- ---- pairs one behind the other, and the conditions of rules

before_from : (a b : RulePair) → is_before a b ≡ true → IsPairBefore a b
before_from a b e = elim (or_cases (ltb a.paper b.paper) (eqb a.paper b.paper && ltb a.reviewer b.reviewer) e) [
  | inl less ↦ inl (ltb-true a.paper b.paper less)
  | inr same ↦ let p = and_parts (eqb a.paper b.paper) (ltb a.reviewer b.reviewer) same in inr (eqb-true a.paper b.paper p.0, ltb-true a.reviewer b.reviewer p.1)
]

before_test : (a b : RulePair) → IsPairBefore a b → is_before a b ≡ true
before_test a b (inl less) = or_left (ltb a.paper b.paper) (eqb a.paper b.paper && ltb a.reviewer b.reviewer) (lt-ltb a.paper b.paper less)
before_test a b (inr same) = or_right (ltb a.paper b.paper) (eqb a.paper b.paper && ltb a.reviewer b.reviewer) (and_from (eqb a.paper b.paper) (ltb a.reviewer b.reviewer) (eq-eqb a.paper b.paper same.0) (lt-ltb a.reviewer b.reviewer same.1))

pub pairs_are : (papers reviewers : ℕ) (pairs : List RulePair) → length pairs ≤ 250000 → AllAlong (FitsPair papers reviewers) [] pairs → ArePairs RULES_TICKETS papers reviewers pairs
pairs_are papers reviewers pairs few all =
    let at = along_at (FitsPair papers reviewers) [] pairs no_pair in
    record {
      few = few;
      each = λ e lt. (at e all lt).is;
      ascending = λ e lt. before_from (pair_in pairs e) (pair_in pairs (e + 1)) (sym (behind_at is_before pairs e no_pair (omega arith)) ∙ (at (e + 1) all lt).order);
    }

pub pairs_along : (papers reviewers : ℕ) (pairs : List RulePair) → ArePairs RULES_TICKETS papers reviewers pairs → AllAlong (FitsPair papers reviewers) [] pairs
pairs_along papers reviewers pairs are = along_from_at (FitsPair papers reviewers) [] pairs no_pair (λ k lt. record {
  is = are.each k lt;
  order = behind_each is_before pairs no_pair (λ j less. before_test (pair_in pairs j) (pair_in pairs (j + 1)) (are.ascending j less)) k lt;
})
