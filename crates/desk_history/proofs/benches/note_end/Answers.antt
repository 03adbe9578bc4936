use Rattle.std.proofs.Common.{◌≡◌, ◌+◌, None, set, arith, subst, sym, rules}
use Rattle.std.proofs.lemmas.List.{length-reverse}
use Rattle.desk_history.specs.Courses.{full, history_of}
use Rattle.desk_history.specs.Histories.{History}
use Rattle.desk_history.specs.Tables.{AreTables}
use Rattle.desk_history.proofs.TableLaws.{full_none}
use Rattle.desk_history.proofs.BenchLaws.{kept_less}
use Rattle.desk_history.proofs.benches.note_end.Goals as goal

pub returns-clause-kept : goal.returns-clause-kept
returns-clause-kept c =
    kept_less c.args.tables.now c.note_end.new.self c.args.entries.now c.push.new.entries c.args.bench
    (subst (λ (h : History). AreTables h c.note_end.new.self) (sym c.push.ensures.entry) (c.note_end.ensures.tables (history_of c.args.entries.now) (search (rules, length-reverse, c.len.ensures)) c.requires.kept.are))
    c.note_end.ensures.benches c.requires.full c.requires.kept.room c.push.ensures.len c.push.ensures.capacity

pub push-requires : goal.push-requires
push-requires c =
    let less : full (set c.args.tables.now.benches c.args.bench None) + 1 ≡ full c.args.tables.now.benches = full_none c.args.tables.now.benches c.args.bench c.requires.full in
    omega (arith, less, c.requires.kept.room)
