-- What a broken clause of the check gives at a place, and what a clause that holds gives.
use Rattle.std.proofs.Common.{◌≡◌, ℕ, ◌<◌, ◌≢◌, ◌⊎◌, inl, inr, Bool, true, false, List, get_or, Some, None, refl, sym, ◌∙◌}
use Rattle.std.proofs.lemmas.Bool.{ne_eqb, lt-leb, and_left, and_right}
use Rattle.match_rules.specs.declared.breaks.Break.{Break}
use Rattle.match_rules.specs.declared.breaks.Break.TheVariants.{Demand, Load, Share, Cap}
use Rattle.match_rules.specs.Rules.{RulesValue, paper_at, reviewer_at, pair_at}
use Rattle.match_rules.specs.Assignments.{paper_count, reviewer_count}
use Rattle.match_rules.specs.Breaks.{unless, is_load, demand_break, load_break}
use Rattle.match_rules.specs.Sound.{share_counted, cap_counted}

pub unless-false : (test : Bool) (broken : Break) → test ≡ false → unless test broken ≡ Some broken
unless-false test broken e = rw e refl

pub unless-true : (test : Bool) (broken : Break) → test ≡ true → unless test broken ≡ None
unless-true test broken e = rw e refl

pub demand-found : (rules : RulesValue) (k p count : ℕ) (places : List ℕ) → count ≡ paper_count rules places p → count ≢ (paper_at rules p).demand → demand_break rules k places p ≡ Some (Demand k p count)
demand-found rules k p count places counted differs =
    rw counted (unless-false _ _ (ne_eqb _ _ (λ e. differs (counted ∙ e))))

-- a load outside its bounds
load-outside : (rules : RulesValue) (r count : ℕ) → (count < (reviewer_at rules r).least) ⊎ ((reviewer_at rules r).greatest < count) → is_load rules r count ≡ false
load-outside rules r count (inl low) = and_left _ _ (lt-leb _ _ low)
load-outside rules r count (inr high) = and_right _ _ (lt-leb _ _ high)

pub load-found : (rules : RulesValue) (k r count : ℕ) (places : List ℕ) → count ≡ reviewer_count rules places r → (count < (reviewer_at rules r).least) ⊎ ((reviewer_at rules r).greatest < count) → load_break rules k places r ≡ Some (Load k r count)
load-found rules k r count places counted outside =
    rw counted (unless-false _ _ (load-outside rules r (reviewer_count rules places r) (rw counted at outside)))

pub share-found : (shares counts : List ℕ) (e printed counted : ℕ) → printed ≡ get_or shares e 0 → counted ≡ get_or counts e 0 → counted ≢ printed → share_counted shares counts e ≡ Some (Share e printed counted)
share-found shares counts e printed counted is_share is_count differs =
    rw (is_share, is_count) (unless-false _ _ (ne_eqb _ _ (λ same. differs (is_count ∙ same ∙ sym is_share))))

pub cap-found : (rules : RulesValue) (counts : List ℕ) (e : ℕ) → (pair_at rules e).cap < get_or counts e 0 → cap_counted rules counts e ≡ Some (Cap e)
cap-found rules counts e above = unless-false _ _ (lt-leb _ _ above)
