use Rattle.std.proofs.Common.{Some, subst, rules}
use Rattle.command_index.proofs.MapLaws.{changed_numbers, on_err, on_ok, same_numbers}
use Rattle.command_index.proofs.index.CommandIndex.add.Goals as goal

pub returns-in-Some-clause-put : goal.returns-in-Some-clause-put
returns-in-Some-clause-put c =
    let after = c.put_number.new.numbers in
    on_ok c.put_number.result
    (λ change. rw c.as_str.ensures at (changed_numbers c.as_str.result.now c.args.number (Some c.args.place) c.args.self.now.callers (c.get_mut.follows.lender after) c.in-Some.numbers.now after
    c.in-Some.ensures.value ((c.get_mut.follows.holds after).3 (search rules)) change))
    c.put_number.ensures.put

pub returns-in-Some-clause-kept : goal.returns-in-Some-clause-kept
returns-in-Some-clause-kept c =
    let after = c.put_number.new.numbers in
    on_err c.put_number.result
    (λ change. same_numbers c.as_str.result.now c.args.self.now.callers (c.get_mut.follows.lender after) c.in-Some.numbers.now after
    c.in-Some.ensures.value ((c.get_mut.follows.holds after).3 (search rules)) change)
    c.put_number.ensures.kept
