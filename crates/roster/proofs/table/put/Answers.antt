-- A key that is there has a place and one that isn't has a gap.
use Rattle.std.proofs.Common.{◌<◌, refl, ap, arith, length}
use Rattle.roster.specs.declared.table.TheConstants.{MOST_ROWS}
use Rattle.roster.specs.Table.{IsAt, IsGap, row_of}
use Rattle.roster.proofs.Tables.{found_row, missing, missing-known, length-put_some, few-after}
use Rattle.roster.proofs.table.put.Given.{Over}
use Rattle.roster.proofs.table.put.Goals as goal
use Rattle.roster.proofs.table.put.Goals.{In-Ok, In-Err}

at : (g : Over) (c : In-Ok g) → IsAt g.R.Row.key (g.R.Row.key c.args.row) c.args.rows.now.items c.in-Ok.place
at g c = rw (← c.key.ensures, ← c.as_slice.ensures.value) c.in-Ok.ensures

gap : (g : Over) (c : In-Err g) → IsGap g.R.Row.key (g.R.Row.key c.args.row) c.args.rows.now.items c.in-Err.place
gap g c = rw (← c.key.ensures, ← c.as_slice.ensures.value) c.in-Err.ensures

pub returns-in-Ok-clause-full : goal.returns-in-Ok-clause-full
returns-in-Ok-clause-full g c =
    let here = at g ((goal.at.returns-in-Ok-clause-full g c).In-Ok) in
    let read = found_row g.R.Row.key (g.R.Row.key c.args.row) c.args.rows.now.items c.in-Ok.place c.args.row here in
    (λ e. absurd (cc), λ h. absurd (let none = h.0 in let some = read.1 in cc))

pub returns-in-Ok-clause-few : goal.returns-in-Ok-clause-few
returns-in-Ok-clause-few g c =
    let here = at g ((goal.at.returns-in-Ok-clause-few g c).In-Ok) in
    let same = length-put_some g.R.Row.key c.args.row c.args.rows.now.items c.in-Ok.place here in
    omega (arith, ap length c.replace.ensures, same, c.requires.few)

pub returns-then-len-clause-full : goal.returns-then-len-clause-full
returns-then-len-clause-full g c =
    let open_gap = gap g ((goal.at.returns-then-len-clause-full g c).In-Err) in
    let none = missing g.R.Row.key (g.R.Row.key c.args.row) c.args.rows.now.items c.in-Err.place open_gap in
    (λ e. (none.1, omega (arith, c.requires.few, c.args.rows.now.ok.0)), λ h. refl)

pub returns-else-len-clause-few : goal.returns-else-len-clause-few
returns-else-len-clause-few g c =
    let open_gap = gap g ((goal.at.returns-else-len-clause-few g c).In-Err) in
    let room : length c.args.rows.now.items < MOST_ROWS = omega (arith, c.args.rows.now.ok.0) in
    few-after g.R.Row.key c.add.result c.args.row c.args.rows.now.items c.add.new.rows.items c.in-Err.place c.add.ensures.put c.add.ensures.kept open_gap room

pub returns-then-len-clause-known : goal.returns-then-len-clause-known
returns-then-len-clause-known g c =
    let open_gap = gap g ((goal.at.returns-then-len-clause-known g c).In-Err) in
    let none = (missing g.R.Row.key (g.R.Row.key c.args.row) c.args.rows.now.items c.in-Err.place open_gap).1 in
    λ some. absurd (missing-known (row_of g.R.Row.key (g.R.Row.key c.args.row) c.args.rows.now.items) none some)

pub returns-else-len-clause-known : goal.returns-else-len-clause-known
returns-else-len-clause-known g c =
    let open_gap = gap g ((goal.at.returns-else-len-clause-known g c).In-Err) in
    let none = (missing g.R.Row.key (g.R.Row.key c.args.row) c.args.rows.now.items c.in-Err.place open_gap).1 in
    λ some. absurd (missing-known (row_of g.R.Row.key (g.R.Row.key c.args.row) c.args.rows.now.items) none some)
