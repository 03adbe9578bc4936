-- The lines of a cut together are read as they are spelled.
use Rattle.std.proofs.Common.{◌≡◌, ℕ, ◌≤◌, List, [], ◌++◌, Ok, refl, ap, ◌∙◌, subst, append_assoc, lit≤}
use Rattle.std.specs.Prelude.{codes}
use Rattle.match_rules.specs.declared.answer.Cut.{Cut}
use Rattle.match_rules.specs.declared.sizes.Sizes.{Sizes}
use Rattle.text_lines.specs.declared.fault.TextFault.{TextFault}
use Rattle.text_lines.specs.Reading.{◌>>=◌, Cursor, due, following}
use Rattle.text_lines.specs.Texts.{line_of}
use Rattle.text_lines.proofs.TextLaws.{Spells, bind_ok, ok_is, item_takes, item_again}
use Rattle.text_lines.proofs.WordLaws.{ascii_word}
use Rattle.publication.specs.Certificates.{AreMarked}
use Rattle.publication.specs.CutForms.{side_of, side_line, marks_of, marks_line}
use Rattle.publication.specs.InfeasibleReading.{marked_at, cut_at, cut_of}
use Rattle.publication.specs.InfeasibleText.{marked_text, cut_text}
use Rattle.publication.proofs.CutLaws.{FitsMarks, side_spells, marks_spells, marks_are, marks_fit}
use Rattle.publication.proofs.RulesLaws.{seam}

-- how large the numbers of papers, groups, reviewers and pairs may be
pub record AreSmall (sizes : Sizes) : Type 0 where
  pub papers : sizes.papers ≤ 250000
  pub of_groups : sizes.groups ≤ 250000
  pub reviewers : sizes.reviewers ≤ 250000
  pub pairs : sizes.pairs ≤ 250000

-- ---- the marked places

papers_spell : (sizes : Sizes) → AreSmall sizes → Spells {A = List ℕ} (λ before. marks_of (codes "marked-papers") sizes.papers) (λ before places. FitsMarks sizes.papers places) (marks_line (codes "marked-papers"))
papers_spell sizes small = marks_spells (codes "marked-papers") sizes.papers (ascii_word (codes "marked-papers") refl refl refl) (lit≤ tt) small.papers

groups_spell : (sizes : Sizes) → AreSmall sizes → Spells {A = List ℕ} (λ before. marks_of (codes "marked-groups") sizes.groups) (λ before places. FitsMarks sizes.groups places) (marks_line (codes "marked-groups"))
groups_spell sizes small = marks_spells (codes "marked-groups") sizes.groups (ascii_word (codes "marked-groups") refl refl refl) (lit≤ tt) small.of_groups

reviewers_spell : (sizes : Sizes) → AreSmall sizes → Spells {A = List ℕ} (λ before. marks_of (codes "marked-reviewers") sizes.reviewers) (λ before places. FitsMarks sizes.reviewers places) (marks_line (codes "marked-reviewers"))
reviewers_spell sizes small = marks_spells (codes "marked-reviewers") sizes.reviewers (ascii_word (codes "marked-reviewers") refl refl refl) (lit≤ tt) small.reviewers

marked_takes : (sizes : Sizes) (at rest : Cursor) (marked : List ℕ × List ℕ × List ℕ) → AreSmall sizes → marked_at sizes at ≡ Ok (marked, rest)
    → AreMarked sizes marked.0 marked.1 marked.2 × (at.bytes ≡ marked_text marked.0 marked.1 marked.2 ++ rest.bytes)
unfolding marked_at marked_text
marked_takes sizes at rest marked small e =
    let a = bind_ok (due (marks_of (codes "marked-papers") sizes.papers) at) (λ papers. due (marks_of (codes "marked-groups") sizes.groups) papers.1 >>= λ groups. due (marks_of (codes "marked-reviewers") sizes.reviewers) groups.1 >>= λ reviewers. Ok ((papers.0, groups.0, reviewers.0), reviewers.1)) (marked, rest) e in
    let b = bind_ok (due (marks_of (codes "marked-groups") sizes.groups) a.0.1) (λ groups. due (marks_of (codes "marked-reviewers") sizes.reviewers) groups.1 >>= λ reviewers. Ok ((a.0.0, groups.0, reviewers.0), reviewers.1)) (marked, rest) a.2 in
    let c = bind_ok (due (marks_of (codes "marked-reviewers") sizes.reviewers) b.0.1) (λ reviewers. Ok ((a.0.0, b.0.0, reviewers.0), reviewers.1)) (marked, rest) b.2 in
    let first = item_takes _ _ _ (papers_spell sizes small) [] at a.0.1 a.0.0 a.1 in
    let second = item_takes _ _ _ (groups_spell sizes small) [] a.0.1 b.0.1 b.0.0 b.1 in
    let third = item_takes _ _ _ (reviewers_spell sizes small) [] b.0.1 c.0.1 c.0.0 c.1 in
    let are : AreMarked sizes a.0.0 b.0.0 c.0.0 = record { of_papers = marks_are sizes.papers a.0.0 first.0; of_groups = marks_are sizes.groups b.0.0 second.0; of_reviewers = marks_are sizes.reviewers c.0.0 third.0 } in
    let text = seam at.bytes a.0.1.bytes c.0.1.bytes (line_of (marks_line (codes "marked-papers") a.0.0)) _ first.1 (seam a.0.1.bytes b.0.1.bytes c.0.1.bytes (line_of (marks_line (codes "marked-groups") b.0.0)) _ second.1 third.1) in
    let same = ok_is {E = TextFault} ((a.0.0, b.0.0, c.0.0), c.0.1) (marked, rest) c.2 in
    subst (λ (x : (List ℕ × List ℕ × List ℕ) × Cursor). AreMarked sizes x.0.0 x.0.1 x.0.2 × (at.bytes ≡ (line_of (marks_line (codes "marked-papers") x.0.0) ++ (line_of (marks_line (codes "marked-groups") x.0.1) ++ line_of (marks_line (codes "marked-reviewers") x.0.2))) ++ x.1.bytes)) same (are, text)

marked_again : (sizes : Sizes) (number : ℕ) (papers groups reviewers rest : List ℕ) → AreSmall sizes → AreMarked sizes papers groups reviewers
    → (m : ℕ) × (marked_at sizes (record { number = number; bytes = marked_text papers groups reviewers ++ rest }) ≡ Ok ((papers, groups, reviewers), record { number = m; bytes = rest }))
unfolding marked_at marked_text
marked_again sizes number papers groups reviewers rest small are =
    let p = line_of (marks_line (codes "marked-papers") papers) in
    let g = line_of (marks_line (codes "marked-groups") groups) in
    let r = line_of (marks_line (codes "marked-reviewers") reviewers) in
    let first = item_again _ _ _ (papers_spell sizes small) [] number (g ++ (r ++ rest)) papers (marks_fit sizes.papers papers are.of_papers) in
    let second = item_again _ _ _ (groups_spell sizes small) [] (following number) (r ++ rest) groups (marks_fit sizes.groups groups are.of_groups) in
    let third = item_again _ _ _ (reviewers_spell sizes small) [] (following (following number)) rest reviewers (marks_fit sizes.reviewers reviewers are.of_reviewers) in
    let regrouped : (p ++ (g ++ r)) ++ rest ≡ p ++ (g ++ (r ++ rest)) = append_assoc p (g ++ r) rest ∙ ap (λ (t : List ℕ). p ++ t) (append_assoc g r rest) in
    (following (following (following number)), rw (regrouped, first, second, third) refl)

-- ---- the cut

pub cut_takes : (sizes : Sizes) (at rest : Cursor) (cut : Cut) → AreSmall sizes → cut_at sizes at ≡ Ok (cut, rest) → AreMarked sizes cut.papers cut.groups cut.reviewers × (at.bytes ≡ cut_text cut ++ rest.bytes)
unfolding cut_at cut_text
cut_takes sizes at rest cut small e =
    let a = bind_ok (due side_of at) (λ side. marked_at sizes side.1 >>= λ marked. Ok (cut_of side.0 marked.0, marked.1)) (cut, rest) e in
    let b = bind_ok (marked_at sizes a.0.1) (λ marked. Ok (cut_of a.0.0 marked.0, marked.1)) (cut, rest) a.2 in
    let side = item_takes _ _ _ side_spells [] at a.0.1 a.0.0 a.1 in
    let marked = marked_takes sizes a.0.1 b.0.1 b.0.0 small b.1 in
    let text = seam at.bytes a.0.1.bytes b.0.1.bytes (line_of (side_line a.0.0)) _ side.1 marked.1 in
    let same = ok_is {E = TextFault} (cut_of a.0.0 b.0.0, b.0.1) (cut, rest) b.2 in
    subst (λ (x : Cut × Cursor). AreMarked sizes x.0.papers x.0.groups x.0.reviewers × (at.bytes ≡ (line_of (side_line x.0.side) ++ marked_text x.0.papers x.0.groups x.0.reviewers) ++ x.1.bytes)) same (marked.0, text)

pub cut_again : (sizes : Sizes) (number : ℕ) (cut : Cut) (rest : List ℕ) → AreSmall sizes → AreMarked sizes cut.papers cut.groups cut.reviewers
    → (m : ℕ) × (cut_at sizes (record { number = number; bytes = cut_text cut ++ rest }) ≡ Ok (cut, record { number = m; bytes = rest }))
unfolding cut_at cut_text
cut_again sizes number cut rest small are =
    let s = line_of (side_line cut.side) in
    let t = marked_text cut.papers cut.groups cut.reviewers in
    let first = item_again _ _ _ side_spells [] number (t ++ rest) cut.side tt in
    let second = marked_again sizes (following number) cut.papers cut.groups cut.reviewers rest small are in
    (second.0, rw (append_assoc s t rest, first, second.1) refl)
