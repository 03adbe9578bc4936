use Rattle.std.proofs.Common.{◌≡◌, ◌-◌, ◌≤◌, [], length}
use Rattle.std.specs.Prelude.{IsSome}
use Rattle.edge_io.specs.Told.{TellsNoMore}
use Rattle.text_lines.specs.Reading.{AllFrom, cursor, items_at}
use Rattle.text_lines.proofs.form.read_items.Given as goal

abbrev pub invariant-loop : goal.invariant-loop
invariant-loop g l = record {
  ready : g.F.LineForm.ready l.form l.items.items;
  same : g.F.LineForm.reads l.form ≡ g.F.LineForm.reads l.fn.form;
  count : length l.items.items ≡ l.counter;
  all_read : AllFrom (g.F.LineForm.reads l.fn.form) [] l.items.items;
  goes_on : IsSome (g.S.Source.left l.source) → items_at (g.F.LineForm.reads l.fn.form) l.fn.count [] (cursor l.fn.lines (g.S.Source.left l.fn.source)) ≡ items_at (g.F.LineForm.reads l.fn.form) (l.fn.count - l.counter) l.items.items (cursor l.lines (g.S.Source.left l.source));
  untold : TellsNoMore (g.S.Source.left l.fn.source) (g.S.Source.left l.source);
  later : g.S.Source.faults l.fn.source ≤ g.S.Source.faults l.source;
}
