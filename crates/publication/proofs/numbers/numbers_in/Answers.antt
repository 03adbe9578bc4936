use Rattle.std.proofs.Common.{sym}
use Rattle.publication.proofs.ScanLaws.{scan-fields}
use Rattle.publication.proofs.numbers.numbers_in.Goals as goal

pub returns : goal.returns
returns c = rw (sym (scan-fields c.args.line.now)) c.scanned.ensures
