use Rattle.text_lines.specs.declared.fault.TextFault.TheVariants.{BadLine}
use Rattle.matcher_cli.proofs.RefusalLaws.{fault_told}
use Rattle.matcher_cli.proofs.text_refusals.tell_refusal.Goals as goal

pub returns-in-BadLine-clause-told : goal.returns-in-BadLine-clause-told
returns-in-BadLine-clause-told g c =
    fault_told c.refuse_text-in-BadLine.result c.args.refusal (BadLine c.in-BadLine.number c.in-BadLine.code) _ _ c.in-BadLine.is
    c.refuse_text-in-BadLine.ensures.status c.refuse_text-in-BadLine.ensures.written c.refuse_text-in-BadLine.ensures.front
