use Rattle.std.proofs.Common.{◌≡◌, take}
use Rattle.std.proofs.lemmas.List.{take_all}
use Rattle.made_conference.specs.Tables.{bids_text}
use Rattle.made_conference.proofs.tables.bids_text.Goals as goal

pub returns : goal.returns
unfolding bids_text
returns c =
    let whole : take c.loop-pair.pair-index c.args.pairs.now ≡ c.args.pairs.now = take_all _ _ c.loop-pair-test.false in
    rw whole at c.loop-pair.invariant
