use Rattle.std.proofs.Common.{◌∙◌, Some, None}
use Rattle.csv.specs.Records.{fields_of}
use Rattle.bid_import.specs.Kinds.{columns_of}
use Rattle.bid_import.proofs.Streams.{first-is}
use Rattle.bid_import.proofs.first.first_row.Goals as goal

pub returns-in-Some : goal.returns-in-Some
returns-in-Some c =
    let found = rw c.in-Some.is at (c.in_ok-raw.ensures {u = tt}) in
    c.number_of.ensures ∙ first-is (columns_of c.args.file) c.args.bytes.now (Some (fields_of c.in-Some.raw)) found

pub returns-in-None : goal.returns-in-None
returns-in-None c =
    let none = rw c.in-None.is at (c.in_ok-raw.ensures {u = tt}) in
    first-is (columns_of c.args.file) c.args.bytes.now None none
