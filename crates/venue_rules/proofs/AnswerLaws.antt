-- What the tests of a venue's demand say of its rules.
use Rattle.std.proofs.Common.{◌≡◌, ℕ, ◌<◌, ◌≤◌, true, false, Err, refl, sym, ap, arith}
use Rattle.std.specs.Prelude.{nat_lt}
use Rattle.std.proofs.lemmas.Bool.Decides.{nat_tests}
use Rattle.venue_rules.specs.declared.fault.LimitFault.TheVariants.{TooMuchDemand}
use Rattle.venue_rules.specs.Venues.{VenueValue}
use Rattle.venue_rules.specs.VenueRules.{demand_sum, forbidden_in, if_no_lock, rules_of}

is_above : (n : ℕ) → 4500 < n → nat_lt 4500 n ≡ true
is_above n lt = grind (arith, nat_tests)

is_within : (n : ℕ) → n ≤ 4500 → nat_lt 4500 n ≡ false
is_within n le = grind (arith, nat_tests)

pub too_much : (venue : VenueValue) (sum : ℕ) → sum ≡ demand_sum venue venue.papers → 4500 < sum → rules_of venue ≡ Err (TooMuchDemand sum)
unfolding rules_of
too_much venue sum is lt =
    let test : nat_lt 4500 (demand_sum venue venue.papers) ≡ true = is_above (demand_sum venue venue.papers) (omega (arith, is)) in
    rw test (ap (λ n. Err (TooMuchDemand n)) (sym is))

pub not_too_much : (venue : VenueValue) → demand_sum venue venue.papers ≤ 4500 → rules_of venue ≡ if_no_lock venue (forbidden_in venue venue.marks)
unfolding rules_of
not_too_much venue le = let test = is_within (demand_sum venue venue.papers) le in rw test refl
