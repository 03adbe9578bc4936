use Rattle.std.proofs.Common.{◌∙◌, cond, ap, bytes_eq}
use Rattle.std.specs.BTreeMap.{get}
use Rattle.std.specs.Ordering.{nat_cmp}
use Rattle.std.specs.String.{string_bytes}
use Rattle.command_index.specs.Maps.{place_at}
use Rattle.command_index.proofs.MapLaws.{put_numbers}
use Rattle.command_index.proofs.index.CommandIndex.add_caller.Goals as goal

pub returns-clause-put : goal.returns-clause-put
returns-clause-put c = λ by its.
    put_numbers (string_bytes c.in_ok-caller.caller) c.args.self.now.callers c.insert.new.self c.in_ok-numbers.numbers c.in_ok-insert.ensures.updates by its
    ∙ ap (λ name. cond (bytes_eq name by) (get nat_cmp c.in_ok-numbers.numbers its) (place_at c.args.self.now by its)) (c.in_ok-caller.ensures.ok ∙ c.as_str.ensures)
    ∙ ap (λ found. cond (bytes_eq c.args.caller.now by) found (place_at c.args.self.now by its)) (c.in_ok-numbers.ensures its)
