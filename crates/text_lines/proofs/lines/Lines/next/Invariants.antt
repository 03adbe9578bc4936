use Rattle.std.proofs.Common.{◌≡◌, ◌-◌, ◌≤◌, ◌++◌, length}
use Rattle.std.specs.Prelude.{IsSome}
use Rattle.edge_io.specs.Told.{told, TellsNoMore}
use Rattle.text_lines.specs.declared.lines.TheConstants.{LONGEST_LINE}
use Rattle.text_lines.proofs.LineLaws.{IsPlain}
use Rattle.text_lines.proofs.lines.Lines.next.Given as goal

abbrev pub invariant-loop-self : goal.invariant-loop-self
invariant-loop-self g l = record {
  number : l.self.number ≡ l.fn.self.number;
  plain : IsPlain l.self.line;
  fits : length l.self.line ≤ LONGEST_LINE;
  all : IsSome (g.S.Source.left l.source) → l.self.line ++ (l.self.unread ++ told (g.S.Source.left l.source)) ≡ l.fn.self.unread ++ told (g.S.Source.left l.fn.source);
  untold : TellsNoMore (g.S.Source.left l.fn.source) (g.S.Source.left l.source);
  later : g.S.Source.faults l.fn.source ≤ g.S.Source.faults l.source;
}

abbrev pub decreases-loop-self : goal.decreases-loop-self
decreases-loop-self g l = LONGEST_LINE - length l.self.line
