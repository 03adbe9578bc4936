use Rattle.matcher_cli.proofs.MakingLaws.{verdict_holds}
use Rattle.matcher_cli.proofs.making.tell_verdict.Goals as goal

pub unreachable-requires : goal.unreachable-requires
unreachable-requires g c =
    absurd
    (cc (c.in-Some.ensures.only (rw c.rules-rules.ensures (verdict_holds c.args.verdict.now.rules c.args.verdict.now.mode c.answer-answer.result.now c.answer-answer.ensures.verdict))))
