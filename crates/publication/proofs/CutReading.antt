-- The marked places of a cut, line by line.
use Rattle.std.proofs.Common.{◌≡◌, ℕ, List, Ok, refl}
use Rattle.std.specs.Prelude.{codes}
use Rattle.text_lines.specs.declared.fault.ReadError.{ReadError}
use Rattle.text_lines.specs.Reading.{◌>>=◌, Cursor, Fails, due}
use Rattle.text_lines.proofs.DueLaws.{bind_fails}
use Rattle.match_rules.specs.declared.sizes.Sizes.{Sizes}
use Rattle.publication.specs.CutForms.{marks_of}
use Rattle.publication.specs.InfeasibleReading.{marked_at}

pub second_marks_fail : (sizes : Sizes) (at a : Cursor) (first : List ℕ) (e : ReadError) → due (marks_of (codes "marked-papers") sizes.papers) at ≡ Ok (first, a)
    → Fails e (due (marks_of (codes "marked-groups") sizes.groups) a) → Fails e (marked_at sizes at)
unfolding marked_at
second_marks_fail sizes at a first e p bad =
    rw p (bind_fails e (due (marks_of (codes "marked-groups") sizes.groups) a) (λ groups. due (marks_of (codes "marked-reviewers") sizes.reviewers) groups.1 >>= λ reviewers. Ok ((first, groups.0, reviewers.0), reviewers.1)) bad)

pub third_marks_fail : (sizes : Sizes) (at a b : Cursor) (first second : List ℕ) (e : ReadError) → due (marks_of (codes "marked-papers") sizes.papers) at ≡ Ok (first, a) → due (marks_of (codes "marked-groups") sizes.groups) a ≡ Ok (second, b)
    → Fails e (due (marks_of (codes "marked-reviewers") sizes.reviewers) b) → Fails e (marked_at sizes at)
unfolding marked_at
third_marks_fail sizes at a b first second e p q bad =
    rw (p, q) (bind_fails e (due (marks_of (codes "marked-reviewers") sizes.reviewers) b) (λ reviewers. Ok ((first, second, reviewers.0), reviewers.1)) bad)

pub marked_read : (sizes : Sizes) (at a b c : Cursor) (first second third : List ℕ) → due (marks_of (codes "marked-papers") sizes.papers) at ≡ Ok (first, a) → due (marks_of (codes "marked-groups") sizes.groups) a ≡ Ok (second, b)
    → due (marks_of (codes "marked-reviewers") sizes.reviewers) b ≡ Ok (third, c) → marked_at sizes at ≡ Ok ((first, second, third), c)
unfolding marked_at
marked_read sizes at a b c first second third p q r = rw (p, q, r) refl
