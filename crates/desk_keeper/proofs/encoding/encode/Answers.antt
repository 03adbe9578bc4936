use Rattle.std.proofs.Common.{◌≡◌, ◌++◌}
use Rattle.desk_keeper.specs.Rows.{body_of, head_of, row_of}
use Rattle.desk_keeper.proofs.WritingLaws.{row_put}
use Rattle.desk_keeper.proofs.encoding.encode.Goals as goal

pub returns : goal.returns
unfolding row_of
returns c =
    let head : c.push_head.new.row.items ≡ head_of c.args.named.now c.args.lottery.now = cc (c.in_ok-push_head.ensures.text, c.new-row.ensures.items) in
    let body : c.extend_from_slice.new.self.items ≡ c.push.new.self.items ++ body_of c.args.named.now.command c.args.lottery.now = cc (c.in_ok-extend_from_slice.ensures.items, c.body_of.ensures) in
    record { kept = c.requires; number = c.in_ok-push_head.ensures.number; small = c.in_ok-push_head.ensures.small; text = row_put _ _ _ _ _ head c.in_ok-push.ensures.items body }
