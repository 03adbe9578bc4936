use Rattle.std.proofs.Common.{[], false, refl}
use Rattle.http_stream.specs.declared.intake.TheConstants.{MOST_STREAM_BYTES}
use Rattle.http_stream.proofs.ReadingLaws.{added_none}
use Rattle.http_stream.proofs.TurnLaws.{memory_ends}
use Rattle.http_stream.proofs.stream.serve_stream.Goals as goal

pub returns-in-Err-clause-stream : goal.returns-in-Err-clause-stream
returns-in-Err-clause-stream g c =
    let out = c.close.ensures.out in
    ([], refl, [], out.0, false, added_none, out.1, (λ e. absurd (cc)), memory_ends MOST_STREAM_BYTES c.close.result out.0 out.2)

pub returns-in-Err-clause-read_fault : goal.returns-in-Err-clause-read_fault
returns-in-Err-clause-read_fault g c = λ e. absurd (let same = c.close.ensures.read e in cc)
