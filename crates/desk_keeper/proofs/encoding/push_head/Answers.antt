use Rattle.std.proofs.Common.{◌≡◌, ◌∷◌, ◌++◌}
use Rattle.desk_keeper.specs.Rows.{command_word, head_of}
use Rattle.desk_keeper.proofs.WritingLaws.{head_put}
use Rattle.desk_keeper.proofs.encoding.push_head.Goals as goal

pub returns-clause-text : goal.returns-clause-text
unfolding head_of
returns-clause-text c =
    let word : c.extend_from_slice.new.self.items ≡ c.args.row.now.items ++ command_word c.args.named.now.command = cc (c.in_ok-extend_from_slice.ensures.items, c.as_bytes.ensures.value, c.command_word.ensures) in
    let caller : c.push_field.new.row.items ≡ c.extend_from_slice.new.self.items ++ 32 ∷ c.args.named.now.caller = cc (c.in_ok-push_field.ensures, c.as_bytes-2.ensures.value, c.as_str.ensures) in
    head_put _ _ _ _ _ _ _ _ _ word caller c.in_ok-push_number.ensures c.in_ok-push_own.ensures.text
