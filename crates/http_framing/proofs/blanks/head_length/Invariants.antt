use Rattle.std.proofs.Common.{◌≡◌, drop}
use Rattle.http_framing.specs.Heads.{head_length}
use Rattle.http_framing.proofs.HeadLaws.{past}
use Rattle.http_framing.proofs.blanks.head_length.Given as goal

abbrev pub invariant-loop-place : goal.invariant-loop-place
invariant-loop-place l = head_length l.bytes ≡ past l.place (head_length (drop l.place l.bytes))
