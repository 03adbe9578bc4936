use Rattle.std.proofs.Common.{◌≤◌, length, arith, subst, sym}
use Rattle.desk_history.specs.Courses.{full, history_of}
use Rattle.desk_history.specs.Histories.{History}
use Rattle.desk_history.specs.Tables.{AreTables}
use Rattle.desk_history.proofs.TableLaws.{full_bound}
use Rattle.desk_history.proofs.benches.note_take.Goals as goal

pub returns-clause-kept : goal.returns-clause-kept
returns-clause-kept c =
    let made : AreTables (history_of c.push.new.entries) c.note_take.new.self =
    subst (λ (h : History). AreTables h c.note_take.new.self) (sym c.push.ensures.entry) (c.note_take.ensures (history_of c.args.entries.now) c.requires.kept.are) in
    let few : full c.note_take.new.self.benches ≤ length c.note_take.new.self.benches = full_bound c.note_take.new.self.benches in
    record {
      are = made;
      room = omega (arith, made.bench_count, few, c.push.ensures.len, c.push.ensures.capacity, c.requires.room);
    }
