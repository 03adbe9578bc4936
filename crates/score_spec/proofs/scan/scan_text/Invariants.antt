use Rattle.std.proofs.Common.{◌≡◌, drop}
use Rattle.score_spec.specs.Scanning.{IsSmall, scan_all, unwritten_scan}
use Rattle.score_spec.proofs.scan.scan_text.Given as goal

abbrev pub invariant-loop-place : goal.invariant-loop-place
invariant-loop-place l = record {
  small : IsSmall l.scan;
  reads : scan_all 0 unwritten_scan l.bytes ≡ scan_all l.place l.scan (drop l.place l.bytes);
}
