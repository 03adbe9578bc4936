use Rattle.std.proofs.Common.{ap, ◌∙◌, arith}
use Rattle.std.specs.Prelude.{ok_or}
use Rattle.bid_import.specs.declared.fault.Key.TheVariants.{Bids}
use Rattle.bid_import.proofs.BidWords.{too_many, few}
use Rattle.bid_import.proofs.words.words_of.Goals as goal

pub returns-then-len-gt32-clause-same : goal.returns-then-len-gt32-clause-same
returns-then-len-gt32-clause-same c =
    let found = rw c.in_ok-table.ensures.ok_part at c.as_table.ensures in
    ap (λ o. ok_or o Bids) (too_many _ c.in_ok-table.table.now.entries found (omega (arith, c.len.ensures.len, c.if-len-gt32.true)))

pub returns-clause-same : goal.returns-clause-same
returns-clause-same c =
    let found = rw c.in_ok-table.ensures.ok_part at c.as_table.ensures in
    ap (λ o. ok_or o Bids) (few _ c.in_ok-table.table.now.entries found (omega (arith, c.len.ensures.len, c.if-len-gt32.false))) ∙ rw c.from_vec.ensures c.in_ok-all_words.ensures.same
