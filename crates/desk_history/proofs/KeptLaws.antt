-- A history is kept with its tables where there is room for the ends of all benches.
use Rattle.std.proofs.Common.{◌≡◌, ◌+◌, ◌≤◌, Vec, length, vec_capacity, vec_len, arith, subst, sym}
use Rattle.std.specs.declared.alloc.Global.{Global}
use Rattle.desk_history.specs.declared.entries.Entry.{Entry}
use Rattle.desk_history.specs.declared.tables.Tables.{Tables}
use Rattle.desk_history.specs.Courses.{AreKept, full, history_of}
use Rattle.desk_history.specs.Histories.{History}
use Rattle.desk_history.specs.Tables.{AreTables}
use Rattle.desk_history.proofs.TableLaws.{full_bound}

pub kept_with_room : (H : History) (entries : Vec Entry Global) (tables : Tables) → history_of entries ≡ H → AreTables H tables → vec_len entries + 16 ≤ vec_capacity entries → AreKept entries tables
kept_with_room H entries tables same are room =
    let few : full tables.benches ≤ length tables.benches = full_bound tables.benches in
    record { are = subst (λ (h : History). AreTables h tables) (sym same) are; room = omega (arith, are.bench_count, few, room) }
