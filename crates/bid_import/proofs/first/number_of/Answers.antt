use Rattle.std.proofs.Common.{◌≡◌, false, refl}
use Rattle.csv.specs.Records.{fields_of}
use Rattle.bid_import.specs.Files.{is_header}
use Rattle.bid_import.specs.Kinds.{columns_of}
use Rattle.bid_import.proofs.ColumnTexts.{columns_of-text}
use Rattle.bid_import.proofs.Progress.{no-header}
use Rattle.bid_import.proofs.first.number_of.Goals as goal

pub returns-in_default : goal.returns-in_default
returns-in_default c =
    let other : is_header (columns_of c.args.file) (fields_of c.args.raw) ≡ false = no-header (columns_of c.args.file) (fields_of c.args.raw) (columns_of-text c.args.file) c.in_default.ensures in
    rw other refl
