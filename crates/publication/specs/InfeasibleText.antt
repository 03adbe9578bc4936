-- The text of an answer without a lottery, and of the cut of any answer.
use Rattle.std.specs.Prelude.{ℕ, List, ◌++◌, codes}
use Rattle.match_rules.specs.declared.answer.Blocked.{Blocked}
use Rattle.match_rules.specs.declared.answer.Cut.{Cut}
use Rattle.match_rules.specs.declared.answer.Mode.{Mode}
use Rattle.text_lines.specs.Forms.{count_line}
use Rattle.text_lines.specs.Texts.{line_of}
use Rattle.publication.specs.AskedForms.{mode_line}
use Rattle.publication.specs.CutForms.{side_line, marks_line}

-- the kind of text and the mode
unfoldable pub infeasible_head_text : Mode → List ℕ
infeasible_head_text mode = line_of (codes "infeasible 1") ++ line_of (mode_line mode)

-- the marked papers, groups and reviewers
unfoldable pub marked_text : List ℕ → List ℕ → List ℕ → List ℕ
marked_text papers groups reviewers =
    line_of (marks_line (codes "marked-papers") papers) ++ (line_of (marks_line (codes "marked-groups") groups) ++ line_of (marks_line (codes "marked-reviewers") reviewers))

unfoldable pub cut_text : Cut → List ℕ
cut_text cut = line_of (side_line cut.side) ++ marked_text cut.papers cut.groups cut.reviewers

-- what has to pass the cut and what may
unfoldable pub sums_text : ℕ → ℕ → List ℕ
sums_text need room = line_of (count_line (codes "need") need) ++ (line_of (count_line (codes "room") room) ++ line_of (codes "end infeasible"))

-- all of it
unfoldable pub infeasible_text : Blocked → List ℕ
infeasible_text blocked = infeasible_head_text blocked.mode ++ (cut_text blocked.cut ++ sums_text blocked.need blocked.room)
