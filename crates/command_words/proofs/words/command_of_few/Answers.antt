use Rattle.std.proofs.Common.{sym, arith}
use Rattle.command_words.proofs.MakingLaws.{many_ask_nothing}
use Rattle.command_words.proofs.words.command_of_few.Goals as goal

pub returns-in_default : goal.returns-in_default
returns-in_default c = sym (many_ask_nothing c.args.word.now c.args.others.now (omega (arith, c.in_default.len_at_least)))
