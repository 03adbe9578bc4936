use Rattle.std.proofs.Common.{None, rules}
use Rattle.command_index.proofs.MapLaws.{changed_numbers}
use Rattle.command_index.proofs.index.CommandIndex.remove.Goals as goal

pub returns-in-Some : goal.returns-in-Some
returns-in-Some c =
    let after = c.drop_number.new.numbers in
    rw c.as_str.ensures at (changed_numbers c.as_str.result.now c.args.number None c.args.self.now.callers (c.get_mut.follows.lender after) c.in-Some.numbers.now after
    c.in-Some.ensures.value ((c.get_mut.follows.holds after).3 (search rules)) c.drop_number.ensures)
