-- Sums that a loop over the pairs adds up, one amount at a time.
use Rattle.std.proofs.Common.{◌≡◌, ℕ, suc, ◌+◌, ◌^◌, ◌<◌, ◌≤◌, Bool, true, false, List, ◌++◌, append_assoc, length, get_or, set, replicate, refl, sym, ap, ◌∙◌, arith, inl, inr, get_or-set_other, get_or-set_same}
use Rattle.std.specs.Prelude.{◌==◌, slice_index}
use Rattle.std.proofs.Math.ListN.{length-set}
use Rattle.std.proofs.lemmas.Bool.{cases_eq, eq-eqb, ne_eqb}
use Rattle.std.proofs.lemmas.Grind.{same_number_lists}
use Rattle.std.proofs.lemmas.List.{append-nil, get_or-replicate, length-replicate}
use Rattle.match_rules.specs.Rules.{RulesValue}
use Rattle.match_rules.specs.declared.rules.TheConstants.{MOST_PAIRS}
use Rattle.match_rules.specs.Sums.{count_below, when}
use Rattle.bounded_network.specs.declared.network.TheConstants.{MAX_ROOM}
use Rattle.bounded_network.specs.declared.totals.Totals.{Totals}
use Rattle.bounded_network.specs.Compile.{listed, flow_of}
use Rattle.bounded_network.specs.Totals.{AreSums}
use Rattle.bounded_network.proofs.Sums.{count_below-at_most}
use Rattle.bounded_network.proofs.Parts.{length-listed, listed-at}

-- the amounts below n that pass the test of each place below the count
pub record IsTally (count : ℕ) (test : ℕ → ℕ → Bool) (amount : ℕ → ℕ) (n : ℕ) (totals : List ℕ) : Type 0 where
  pub long : length totals ≡ count
  pub sums : (v : ℕ) → v < count → slice_index totals v ≡ count_below n (λ e. when (test v e) (amount e))

pub tally-none : (count : ℕ) (test : ℕ → ℕ → Bool) (amount : ℕ → ℕ) (totals : List ℕ) → totals ≡ replicate count 0 → IsTally count test amount 0 totals
tally-none count test amount totals e = record {
  long = ap length e ∙ length-replicate count 0;
  sums = λ v lt. ap (λ xs. slice_index xs v) e ∙ get_or-replicate count v 0 0 lt;
}

when-small : (b : Bool) (x : ℕ) → x < 2 ^ 32 → when b x ≤ 4294967296
when-small true x h = omega arith
when-small false x h = omega arith

-- a sum of up to 250,000 amounts of 32 bits
pub tally-small : (count : ℕ) (test : ℕ → ℕ → Bool) (amount : ℕ → ℕ) (n : ℕ) (totals : List ℕ) (v : ℕ) → IsTally count test amount n totals
    → ((e : ℕ) → amount e < 2 ^ 32) → n ≤ MOST_PAIRS → v < count → slice_index totals v ≤ MAX_ROOM
tally-small count test amount n totals v tally words few lt =
    let most = count_below-at_most n (λ e. when (test v e) (amount e)) 4294967296 (λ e b. when-small (test v e) (amount e) (words e)) in
    omega (arith, most, tally.sums v lt)

-- one more amount, at its place
pub tally-more : (count : ℕ) (test : ℕ → ℕ → Bool) (amount : ℕ → ℕ) (n : ℕ) (totals : List ℕ) (a x : ℕ) → IsTally count test amount n totals
    → a < count → ((v : ℕ) → test v n ≡ (a == v)) → x ≡ slice_index totals a + amount n
    → IsTally count test amount (n + 1) (set totals a x)
tally-more count test amount n totals a x tally lt here sum = record {
  long = length-set totals a x ∙ tally.long;
  sums = λ v b.
      let next : n + 1 ≡ suc n = omega arith in
      rw (next, here v) (elim (cases_eq a v) [
        | inl e ↦
            let within : v < length totals = omega (arith, tally.long) in
            let at : get_or (set totals v x) v 0 ≡ x = get_or-set_same totals v x 0 within in
            let old : slice_index totals v ≡ count_below n (λ e. when (test v e) (amount e)) = tally.sums v b in
            let from : x ≡ slice_index totals v + amount n = rw e at sum in
            rw (e, eq-eqb v v refl) (omega (arith, at, old, from))
        | inr ne ↦
            let other : v ≡ a → ⊥ = λ q. ne (sym q) in
            rw (ne_eqb a v ne) (omega (arith, get_or-set_other totals a v x 0 other, tally.sums v b))
      ]);
}

-- one amount more, at no place
pub tally-skip : (count : ℕ) (test : ℕ → ℕ → Bool) (amount : ℕ → ℕ) (n : ℕ) (totals : List ℕ) → IsTally count test amount n totals
    → ((v : ℕ) → test v n ≡ false) → IsTally count test amount (n + 1) totals
tally-skip count test amount n totals tally none = record {
  long = tally.long;
  sums = λ v b.
      let next : n + 1 ≡ suc n = omega arith in
      rw (next, none v) (omega (arith, tally.sums v b));
}

-- all amounts
pub tally-all : (count : ℕ) (test : ℕ → ℕ → Bool) (amount : ℕ → ℕ) (n : ℕ) (totals : List ℕ) → IsTally count test amount n totals
    → totals ≡ listed count (λ v. count_below n (λ e. when (test v e) (amount e)))
tally-all count test amount n totals tally =
    let f : ℕ → ℕ = λ v. count_below n (λ e. when (test v e) (amount e)) in
    same_number_lists totals (listed count f) (tally.long ∙ sym (length-listed count f))
    (λ v lt. let b : v < count = omega (arith, tally.long) in tally.sums v b ∙ sym (listed-at count v f 0 b))

-- the shares of all pairs, by their places
shares-listed : (n : ℕ) (shares : List ℕ) → length shares ≡ n → shares ≡ listed n (slice_index shares)
shares-listed n shares long =
    same_number_lists shares (listed n (slice_index shares)) (long ∙ sym (length-listed n (slice_index shares)))
    (λ e lt. sym (listed-at n e (slice_index shares) 0 (omega arith)))

-- the shares and their sums, joined, are the flow of the shares
pub joined-flow : (rules : RulesValue) (shares : List ℕ) (totals : Totals) (amounts : List ℕ) → length shares ≡ length rules.pairs → AreSums rules shares totals
    → amounts ≡ ((shares ++ totals.papers.items) ++ totals.of_groups.items) ++ totals.reviewers.items
    → amounts ≡ flow_of rules shares
joined-flow rules shares totals amounts long sums joined =
    let pairs = shares-listed (length rules.pairs) shares long in
    let parts : (List ℕ) → List ℕ = λ front. ((front ++ totals.papers.items) ++ totals.of_groups.items) ++ totals.reviewers.items in
    let whole : parts (listed (length rules.pairs) (slice_index shares)) ≡ flow_of rules shares = rw (sums.papers, sums.of_groups, sums.reviewers) (simp (append_assoc, append-nil)) in
    joined ∙ ap parts pairs ∙ whole
