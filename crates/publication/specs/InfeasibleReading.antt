-- Reading the text of an answer without a lottery, behind its first line, and the cut of any answer.
use Rattle.std.specs.Prelude.{ℕ, List, Result, Ok, codes}
use Rattle.match_rules.specs.declared.answer.Blocked.{Blocked}
use Rattle.match_rules.specs.declared.answer.Cut.{Cut}
use Rattle.match_rules.specs.declared.answer.Mode.{Mode}
use Rattle.match_rules.specs.declared.answer.Side.{Side}
use Rattle.text_lines.specs.declared.fault.TextFault.{TextFault}
use Rattle.text_lines.specs.declared.number.TheConstants.{MOST_AMOUNT}
use Rattle.text_lines.specs.Forms.{fixed, number_after}
use Rattle.text_lines.specs.Reading.{◌>>=◌, Cursor, due}
use Rattle.match_rules.specs.declared.sizes.Sizes.{Sizes}
use Rattle.publication.specs.AskedForms.{mode_of}
use Rattle.publication.specs.CutForms.{side_of, marks_of}

-- the marked papers, groups and reviewers
unfoldable pub marked_at : Sizes → Cursor → Result ((List ℕ × List ℕ × List ℕ) × Cursor) TextFault
marked_at sizes at = do
  papers ← due (marks_of (codes "marked-papers") sizes.papers) at
  groups ← due (marks_of (codes "marked-groups") sizes.groups) papers.1
  reviewers ← due (marks_of (codes "marked-reviewers") sizes.reviewers) groups.1
  Ok ((papers.0, groups.0, reviewers.0), reviewers.1)

abbrev pub cut_of : Side → List ℕ × List ℕ × List ℕ → Cut
cut_of side marked = record { side = side; papers = marked.0; groups = marked.1; reviewers = marked.2 }

unfoldable pub cut_at : Sizes → Cursor → Result (Cut × Cursor) TextFault
cut_at sizes at = do
  side ← due side_of at
  marked ← marked_at sizes side.1
  Ok (cut_of side.0 marked.0, marked.1)

-- what has to pass the cut and what may
unfoldable pub sums_at : Cursor → Result ((ℕ × ℕ) × Cursor) TextFault
sums_at at = do
  need ← due (number_after (codes "need") 0 MOST_AMOUNT) at
  room ← due (number_after (codes "room") 0 MOST_AMOUNT) need.1
  end ← due (fixed (codes "end infeasible")) room.1
  Ok ((need.0, room.0), end.1)

-- an answer of a mode
abbrev pub blocked_of : Mode → Cut → ℕ × ℕ → Blocked
blocked_of mode cut sums = record { mode = mode; cut = cut; need = sums.0; room = sums.1 }

unfoldable pub infeasible_at : Sizes → Cursor → Result (Blocked × Cursor) TextFault
infeasible_at sizes at = do
  mode ← due mode_of at
  cut ← cut_at sizes mode.1
  sums ← sums_at cut.1
  Ok (blocked_of mode.0 cut.0 sums.0, sums.1)
