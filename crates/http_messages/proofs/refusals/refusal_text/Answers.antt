use Rattle.http_messages.proofs.RefusalLaws.{refusal_is}
use Rattle.http_messages.proofs.refusals.refusal_text.Goals as goal

pub returns : goal.returns
returns c =
    rw (c.push-7.ensures, c.push-6.ensures, c.as_bytes.ensures.value, c.push-5.ensures, c.push-4.ensures, c.push-3.ensures, c.close_line.ensures.text, c.push-2.ensures, c.push_number.ensures.text, c.push.ensures, c.status_lines-text.ensures.text)
    (refusal_is c.args.status c.args.word.now c.args.closes)
