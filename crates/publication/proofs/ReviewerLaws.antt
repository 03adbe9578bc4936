-- Reviewers are read as they are spelled.
use Rattle.std.proofs.Common.{◌≡◌, ℕ, ◌+◌, ◌^◌, ◌<◌, ◌≤◌, Bool, true, List, [], ◌∷◌, length, Option, Ok, refl, sym, ap, subst, ◌∙◌, arith, lit<}
use Rattle.std.specs.Prelude.{decimal, option_to_list}
use Rattle.std.specs.Ordering.{is_lt}
use Rattle.match_rules.specs.declared.rules.RuleReviewer.{RuleReviewer}
use Rattle.match_rules.specs.Id.{is_id}
use Rattle.match_rules.specs.Rules.{AreReviewers, no_reviewer, id_cmp}
use Rattle.text_lines.specs.declared.fault.LineCode.{LineCode}
use Rattle.text_lines.specs.declared.fault.LineCode.TheVariants.{Number, Order}
use Rattle.text_lines.specs.Fields.{fields, with_spaces, three_or_four_of}
use Rattle.text_lines.specs.Forms.{in_form, needs, number_from}
use Rattle.text_lines.specs.Numbers.{is_canonical}
use Rattle.text_lines.specs.Reading.{◌>>=◌}
use Rattle.text_lines.specs.Texts.{AllAlong}
use Rattle.text_lines.proofs.FormLaws.{needs_ok, three_or_four_fields_spell, three_or_four_of_again, number_from_takes, number_from_again}
use Rattle.text_lines.proofs.NumberLaws.{number_again}
use Rattle.text_lines.proofs.TextLaws.{Spells, IsLine, bind_ok, ok_is, along_at, along_from_at}
use Rattle.text_lines.proofs.WordLaws.{AllWords, fields-with_spaces, words_line, number_word, number_short, length-with_spaces_more}
use Rattle.publication.specs.RulesReading.{id_of, institution_of, loads_of, reviewer_of, reviewer_fields, reviewer_with, is_reviewer_behind}
use Rattle.publication.specs.RulesText.{reviewer_line}
use Rattle.publication.proofs.IdLaws.{IsHome, id_word, id_short, id_of_takes, institution_takes, institution_again, home_words, home_short}
use Rattle.publication.proofs.LastLaws.{behind_at, behind_each, less_is}

-- a reviewer that may stand behind these
pub record FitsReviewer (before : List RuleReviewer) (reviewer : RuleReviewer) : Type 0 where
  pub id : is_id reviewer.id ≡ true
  pub home : IsHome reviewer.institution
  pub loads : reviewer.least ≤ reviewer.greatest
  pub most : reviewer.greatest ≤ 1500
  pub order : is_reviewer_behind before reviewer.id ≡ true

-- two loads that were read
record AreLoads (least greatest : List ℕ) (loads : ℕ × ℕ) : Type 0 where
  least_text : least ≡ decimal loads.0
  greatest_text : greatest ≡ decimal loads.1
  ordered : loads.0 ≤ loads.1
  within : loads.1 ≤ 1500

loads_take : (least greatest : List ℕ) (loads : ℕ × ℕ) → loads_of least greatest ≡ Ok loads → AreLoads least greatest loads
loads_take least greatest loads e =
    let a = needs_ok (is_canonical least) Number (number_from 0 1500 greatest >>= λ most. number_from 0 most least >>= λ fewest. Ok (fewest, most)) loads e in
    let b = bind_ok (number_from 0 1500 greatest) (λ most. number_from 0 most least >>= λ fewest. Ok (fewest, most)) loads a.1 in
    let c = bind_ok (number_from 0 b.0 least) (λ fewest. Ok (fewest, b.0)) loads b.2 in
    let g = number_from_takes 0 1500 greatest b.0 (lit< tt) b.1 in
    let l = number_from_takes 0 b.0 least c.0 (omega (arith, g.2)) c.1 in
    let same : (c.0, b.0) ≡ loads = ok_is {E = LineCode} (c.0, b.0) loads c.2 in
    subst (λ (p : ℕ × ℕ). AreLoads least greatest p) same (record { least_text = l.0; greatest_text = g.0; ordered = l.2; within = g.2 })

loads_again : (least greatest : ℕ) → least ≤ greatest → greatest ≤ 1500 → loads_of (decimal least) (decimal greatest) ≡ Ok (least, greatest)
loads_again least greatest ordered within =
    rw (number_from_again 0 1500 greatest (omega arith) (omega arith) within, number_from_again 0 greatest least (omega arith) (omega arith) ordered, (number_again least (omega arith)).0) refl

abbrev spelled_in : List ℕ → List ℕ → List ℕ → Option (List ℕ) → List ℕ
spelled_in id least greatest home = with_spaces (id ∷ least ∷ greatest ∷ option_to_list home)

spelled_same : (line a b c x y z : List ℕ) (d home : Option (List ℕ)) → line ≡ spelled_in a b c d → a ≡ x → b ≡ y → c ≡ z → d ≡ home → line ≡ spelled_in x y z home
spelled_same line a b c x y z d home e p q r t = e ∙ rw (p, q, r, t) refl

abbrev spelled : RuleReviewer → List ℕ
spelled r = spelled_in r.id (decimal r.least) (decimal r.greatest) r.institution

reviewer_sound : (before : List RuleReviewer) (line : List ℕ) (reviewer : RuleReviewer) → reviewer_of before line ≡ Ok reviewer → FitsReviewer before reviewer × (line ≡ reviewer_line reviewer)
unfolding reviewer_of reviewer_line
reviewer_sound before line reviewer e =
    let a = bind_ok (in_form (three_or_four_of (fields line))) (λ f. reviewer_fields before f) reviewer e in
    let b = bind_ok (loads_of a.0.1 a.0.2) (λ loads. reviewer_with before a.0.0 a.0.3 loads) reviewer a.2 in
    let l = loads_take a.0.1 a.0.2 b.0 b.1 in
    let d = bind_ok (id_of a.0.0) (λ name. institution_of a.0.3 >>= λ home. needs (is_reviewer_behind before name) Order >>= λ _. Ok (record { id = name; institution = home; least = b.0.0; greatest = b.0.1 })) reviewer b.2 in
    let i = id_of_takes a.0.0 d.0 d.1 in
    let h = bind_ok (institution_of a.0.3) (λ home. needs (is_reviewer_behind before d.0) Order >>= λ _. Ok (record { id = d.0; institution = home; least = b.0.0; greatest = b.0.1 })) reviewer d.2 in
    let t = institution_takes a.0.3 h.0 h.1 in
    let made : RuleReviewer = record { id = d.0; institution = h.0; least = b.0.0; greatest = b.0.1 } in
    let o = needs_ok (is_reviewer_behind before d.0) Order (Ok made) reviewer h.2 in
    let same : made ≡ reviewer = ok_is {E = LineCode} made reviewer o.1 in
    let fits : FitsReviewer before made = record { id = i.0; home = t.0; loads = l.ordered; most = l.within; order = o.0 } in
    let text : line ≡ spelled made = spelled_same line a.0.0 a.0.1 a.0.2 d.0 (decimal b.0.0) (decimal b.0.1) a.0.3 h.0 (three_or_four_fields_spell line a.0 a.1) i.1 l.least_text l.greatest_text t.1 in
    subst (λ (r : RuleReviewer). FitsReviewer before r × (line ≡ spelled r)) same (fits, text)

reviewer_words : (before : List RuleReviewer) (reviewer : RuleReviewer) → FitsReviewer before reviewer → AllWords (reviewer.id ∷ decimal reviewer.least ∷ decimal reviewer.greatest ∷ option_to_list reviewer.institution)
reviewer_words before reviewer fits =
    (id_word reviewer.id fits.id, (number_word reviewer.least (omega (arith, fits.loads, fits.most)), (number_word reviewer.greatest (omega (arith, fits.most)), home_words reviewer.institution fits.home)))

reviewer_complete : (before : List RuleReviewer) (reviewer : RuleReviewer) → FitsReviewer before reviewer → reviewer_of before (reviewer_line reviewer) ≡ Ok reviewer
unfolding reviewer_of reviewer_line
reviewer_complete before reviewer fits =
    rw (
      fields-with_spaces reviewer.id (decimal reviewer.least ∷ decimal reviewer.greatest ∷ option_to_list reviewer.institution) (reviewer_words before reviewer fits),
      three_or_four_of_again reviewer.id (decimal reviewer.least) (decimal reviewer.greatest) reviewer.institution,
      loads_again reviewer.least reviewer.greatest fits.loads fits.most,
      fits.id,
      institution_again reviewer.institution fits.home,
      fits.order,
    ) refl

reviewer_is_line : (before : List RuleReviewer) (reviewer : RuleReviewer) → FitsReviewer before reviewer → IsLine (reviewer_line reviewer)
unfolding reviewer_line
reviewer_is_line before reviewer fits =
    let low : reviewer.least < 2 ^ 64 = omega (arith, fits.loads, fits.most) in
    let high : reviewer.greatest < 2 ^ 64 = omega (arith, fits.most) in
    words_line (reviewer.id ∷ decimal reviewer.least ∷ decimal reviewer.greatest ∷ option_to_list reviewer.institution) (reviewer_words before reviewer fits)
    (omega (arith, id_short reviewer.id fits.id, number_short reviewer.least low, number_short reviewer.greatest high, length-with_spaces_more reviewer.id (decimal reviewer.least) (decimal reviewer.greatest ∷ option_to_list reviewer.institution), length-with_spaces_more (decimal reviewer.least) (decimal reviewer.greatest) (option_to_list reviewer.institution), home_short (decimal reviewer.greatest) reviewer.institution fits.home))

pub reviewer_spells : Spells reviewer_of FitsReviewer reviewer_line
reviewer_spells = record { sound = reviewer_sound; complete = reviewer_complete; lines = reviewer_is_line }

-- ---- reviewers one behind the other, and the conditions of rules

abbrev id_test : RuleReviewer → RuleReviewer → Bool
id_test a b = is_lt (id_cmp a.id b.id)

pub reviewers_are : (reviewers : List RuleReviewer) → length reviewers ≤ 1500 → AllAlong FitsReviewer [] reviewers → AreReviewers reviewers
reviewers_are reviewers few all =
    let at = along_at FitsReviewer [] reviewers no_reviewer in
    record {
      few = few;
      ids = λ r lt. (at r all lt).id;
      ascending = λ r lt. less_is _ (sym (behind_at id_test reviewers r no_reviewer (omega arith)) ∙ (at (r + 1) all lt).order);
      loads = λ r lt. ((at r all lt).loads, (at r all lt).most);
      institutions = λ r name lt is. (at r all lt).home name is;
    }

pub reviewers_along : (reviewers : List RuleReviewer) → AreReviewers reviewers → AllAlong FitsReviewer [] reviewers
reviewers_along reviewers are = along_from_at FitsReviewer [] reviewers no_reviewer (λ k lt. record {
  id = are.ids k lt;
  home = λ name is. are.institutions k name lt is;
  loads = (are.loads k lt).0;
  most = (are.loads k lt).1;
  order = behind_each id_test reviewers no_reviewer (λ j less. ap is_lt (are.ascending j less)) k lt;
})
