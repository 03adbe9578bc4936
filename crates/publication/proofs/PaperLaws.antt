-- Papers are read as they are spelled.
use Rattle.std.proofs.Common.{◌≡◌, ℕ, ◌+◌, ◌^◌, ◌<◌, ◌≤◌, Bool, true, List, [], ◌∷◌, ◌++◌, length, Ok, refl, sym, ap, subst, ◌∙◌, append_assoc, arith, lit<}
use Rattle.std.proofs.lemmas.List.{append-nil}
use Rattle.std.specs.Prelude.{decimal, nat_le}
use Rattle.std.specs.Ordering.{is_lt}
use Rattle.std.proofs.lemmas.Bool.{leb-true, le-leb}
use Rattle.match_rules.specs.declared.rules.RulePaper.{RulePaper}
use Rattle.match_rules.specs.Id.{is_id}
use Rattle.match_rules.specs.Rules.{ArePapers, demand_total, no_paper, id_cmp}
use Rattle.text_lines.specs.declared.fault.LineCode.{LineCode}
use Rattle.text_lines.specs.declared.fault.LineCode.TheVariants.{Range, Order}
use Rattle.text_lines.specs.Fields.{fields, with_spaces, two_of}
use Rattle.text_lines.specs.Forms.{in_form, needs, number_from}
use Rattle.text_lines.specs.Reading.{◌>>=◌}
use Rattle.text_lines.specs.Texts.{AllAlong}
use Rattle.text_lines.proofs.FormLaws.{needs_ok, two_fields_spell, number_from_takes, number_from_again}
use Rattle.text_lines.proofs.TextLaws.{Spells, IsLine, bind_ok, ok_is, along_at, along_from_at}
use Rattle.text_lines.proofs.WordLaws.{fields-with_spaces, words_line, number_word, number_short, length-with_spaces_one, length-with_spaces_more}
use Rattle.publication.specs.RulesReading.{id_of, paper_of, paper_fields, paper_with, is_paper_behind}
use Rattle.publication.specs.RulesText.{paper_line}
use Rattle.publication.proofs.Demands.{demand_total_push, demand_total_within}
use Rattle.publication.proofs.LastLaws.{behind_at, behind_each, less_is}
use Rattle.publication.proofs.IdLaws.{id_word, id_short, id_of_takes}

-- a paper that may stand behind these
pub record FitsPaper (before : List RulePaper) (paper : RulePaper) : Type 0 where
  pub id : is_id paper.id ≡ true
  pub demand : paper.demand ≤ 100
  pub in_all : demand_total before + paper.demand ≤ 4500
  pub order : is_paper_behind before paper.id ≡ true

spelled_two : (line a b c d : List ℕ) → line ≡ with_spaces (a ∷ b ∷ []) → a ≡ c → b ≡ d → line ≡ with_spaces (c ∷ d ∷ [])
spelled_two line a b c d e p q = e ∙ rw (p, q) refl

paper_sound : (before : List RulePaper) (line : List ℕ) (paper : RulePaper) → paper_of before line ≡ Ok paper → FitsPaper before paper × (line ≡ paper_line paper)
unfolding paper_of paper_line
paper_sound before line paper e =
    let a = bind_ok (in_form (two_of (fields line))) (λ f. paper_fields before f) paper e in
    let b = bind_ok (number_from 0 100 a.0.1) (λ demand. paper_with before a.0.0 demand) paper a.2 in
    let n = number_from_takes 0 100 a.0.1 b.0 (lit< tt) b.1 in
    let c = needs_ok (nat_le (demand_total before + b.0) 4500) Range (id_of a.0.0 >>= λ name. needs (is_paper_behind before name) Order >>= λ _. Ok (record { id = name; demand = b.0 })) paper b.2 in
    let d = bind_ok (id_of a.0.0) (λ name. needs (is_paper_behind before name) Order >>= λ _. Ok (record { id = name; demand = b.0 })) paper c.1 in
    let i = id_of_takes a.0.0 d.0 d.1 in
    let made : RulePaper = record { id = d.0; demand = b.0 } in
    let o = needs_ok (is_paper_behind before d.0) Order (Ok made) paper d.2 in
    let same : made ≡ paper = ok_is {E = LineCode} made paper o.1 in
    let fits : FitsPaper before made = record { id = i.0; demand = n.2; in_all = leb-true _ _ c.0; order = o.0 } in
    let spelled : line ≡ with_spaces (made.id ∷ decimal made.demand ∷ []) = spelled_two line a.0.0 a.0.1 d.0 (decimal b.0) (two_fields_spell line a.0 a.1) i.1 n.0 in
    subst (λ (p : RulePaper). FitsPaper before p × (line ≡ with_spaces (p.id ∷ decimal p.demand ∷ []))) same (fits, spelled)

paper_complete : (before : List RulePaper) (paper : RulePaper) → FitsPaper before paper → paper_of before (paper_line paper) ≡ Ok paper
unfolding paper_of paper_line
paper_complete before paper fits =
    let small : paper.demand < 2 ^ 64 = omega (arith, fits.demand) in
    rw (
      fields-with_spaces paper.id (decimal paper.demand ∷ []) (id_word paper.id fits.id, (number_word paper.demand small, tt)),
      number_from_again 0 100 paper.demand small (omega arith) fits.demand,
      le-leb (demand_total before + paper.demand) 4500 fits.in_all,
      fits.id,
      fits.order,
    ) refl

paper_is_line : (before : List RulePaper) (paper : RulePaper) → FitsPaper before paper → IsLine (paper_line paper)
unfolding paper_line
paper_is_line before paper fits =
    let small : paper.demand < 2 ^ 64 = omega (arith, fits.demand) in
    words_line (paper.id ∷ decimal paper.demand ∷ []) (id_word paper.id fits.id, (number_word paper.demand small, tt))
    (omega (arith, id_short paper.id fits.id, number_short paper.demand small, length-with_spaces_more paper.id (decimal paper.demand) [], length-with_spaces_one (decimal paper.demand)))

pub paper_spells : Spells paper_of FitsPaper paper_line
paper_spells = record { sound = paper_sound; complete = paper_complete; lines = paper_is_line }

-- ---- papers one behind the other, and the conditions of rules

demands_along : (before papers : List RulePaper) → AllAlong FitsPaper before papers → demand_total before ≤ 4500 → demand_total (before ++ papers) ≤ 4500
demands_along before [] all small = subst (λ (ps : List RulePaper). demand_total ps ≤ 4500) (sym (append-nil before)) small
demands_along before (paper ∷ papers) all small =
    let next : demand_total (before ++ paper ∷ []) ≤ 4500 = omega (arith, demand_total_push before paper, all.0.in_all) in
    subst (λ (ps : List RulePaper). demand_total ps ≤ 4500) (append_assoc before (paper ∷ []) papers) (demands_along (before ++ paper ∷ []) papers all.1 next)

abbrev id_test : RulePaper → RulePaper → Bool
id_test a b = is_lt (id_cmp a.id b.id)

pub papers_are : (papers : List RulePaper) → length papers ≤ 1500 → AllAlong FitsPaper [] papers → ArePapers papers
papers_are papers few all =
    let at = along_at FitsPaper [] papers no_paper in
    record {
      few = few;
      ids = λ p lt. (at p all lt).id;
      ascending = λ p lt. less_is _ (sym (behind_at id_test papers p no_paper (omega arith)) ∙ (at (p + 1) all lt).order);
      demands = λ p lt. (at p all lt).demand;
      in_all = demands_along [] papers all (omega arith);
    }

pub papers_along : (papers : List RulePaper) → ArePapers papers → AllAlong FitsPaper [] papers
papers_along papers are = along_from_at FitsPaper [] papers no_paper (λ k lt. record {
  id = are.ids k lt;
  demand = are.demands k lt;
  in_all = omega (arith, demand_total_within papers k lt, are.in_all);
  order = behind_each id_test papers no_paper (λ j less. ap is_lt (are.ascending j less)) k lt;
})
