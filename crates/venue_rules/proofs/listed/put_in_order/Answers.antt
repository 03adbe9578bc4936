use Rattle.std.proofs.lemmas.List.Filters.{dedup_is}
use Rattle.std.proofs.lemmas.List.Kept.{Contains-dedup_nat, Contains-from_dedup}
use Rattle.std.proofs.lemmas.List.Sorted.{Contains-permutation, IsPermutation-sym}
use Rattle.std.proofs.lemmas.Map.Keys.{IsStrictlyIncreasing-dedup}
use Rattle.venue_rules.proofs.listed.put_in_order.Goals as goal

pub returns : goal.returns
returns c =
    let is = dedup_is _ _ _ c.dedup.ensures.filtered in
    let moved = c.sort.ensures.permutation in
    record {
      ascend = rw is (IsStrictlyIncreasing-dedup _ c.in_ok-sort.ensures.sorted);
      same = λ place. (
        λ h. Contains-permutation _ _ place (IsPermutation-sym _ _ moved) (Contains-from_dedup _ _ place (rw is at h)),
        λ h. rw is (Contains-dedup_nat _ place (Contains-permutation _ _ place moved h)),
      );
    }
