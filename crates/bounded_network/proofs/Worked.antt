-- What runs of the calls on the worked examples rest on.
use Rattle.std.proofs.Common.{◌≡◌, ℕ, zero, suc, ◌*◌, ◌<◌, ◌≤◌, Bool, true, false, List, [], ◌∷◌, refl, arith, lit<, lit≤}
use Rattle.std.specs.Prelude.{ℤ, pos, neg_ℤ, slice_index}
use Rattle.std.proofs.lemmas.Int.{ints}
use Rattle.match_rules.specs.declared.answer.Sieve.TheVariants.{All as EveryPair}
use Rattle.match_rules.specs.Rules.{AreRules, pair_at, paper_at, reviewer_at}
use Rattle.match_rules.specs.Groups.{groups, group_of, group_count}
use Rattle.match_rules.specs.Assignments.{cap_under}
use Rattle.match_rules.specs.Answers.{IsWithin}
use Rattle.match_rules.specs.Examples.{small, one_house}
use Rattle.match_rules.specs.SharesFit.{SharesFit, paper_shares, group_shares, reviewer_shares}
use Rattle.bounded_network.specs.Back.{AreWithinCosts}
use Rattle.bounded_network.specs.Compile.{node_count, flow_of}
use Rattle.bounded_network.specs.Examples.{network}
use Rattle.bounded_network.specs.Network.{AreViolated, IsCirculation, potential_at}
use Rattle.bounded_network.proofs.Fitting.{are-shares}

-- the first of five nodes
abbrev pub first_marked : List Bool
first_marked = true ∷ (false ∷ (false ∷ (false ∷ (false ∷ []))))

pub low-nodes : node_count (small 4000) ≡ 5
unfolding groups
low-nodes = refl

pub low-violated : AreViolated (network (small 4000)) first_marked
unfolding groups group_of
low-violated = lit< tt

pub house-nodes : node_count one_house ≡ 5
unfolding groups
house-nodes = refl

pub house-violated : AreViolated (network one_house) first_marked
unfolding groups group_of
house-violated = lit< tt

-- half of the tickets for each of four pairs
abbrev pub half : List ℕ
half = 5000 ∷ (5000 ∷ (5000 ∷ (5000 ∷ [])))

abbrev pub half_flow : List ℕ
half_flow = 5000 ∷ (5000 ∷ (5000 ∷ (5000 ∷ (10000 ∷ (10000 ∷ (10000 ∷ (10000 ∷ [])))))))

half-papers : (p : ℕ) → p < 2 → paper_shares (small 5000) half p ≡ 10000 * (paper_at (small 5000) p).demand
half-papers zero lt = refl
half-papers (suc zero) lt = refl
half-papers (suc (suc p)) lt = absurd (omega arith)

half-groups : (g : ℕ) → g < group_count (small 5000) → group_shares (small 5000) half g ≤ 10000 * 1500
unfolding groups
half-groups g lt = let none : g < 0 = lt in absurd (omega arith)

half-least : (r : ℕ) → r < 2 → 10000 * (reviewer_at (small 5000) r).least ≤ reviewer_shares (small 5000) half r
half-least zero lt = lit≤ tt
half-least (suc zero) lt = lit≤ tt
half-least (suc (suc r)) lt = absurd (omega arith)

half-greatest : (r : ℕ) → r < 2 → reviewer_shares (small 5000) half r ≤ 10000 * (reviewer_at (small 5000) r).greatest
half-greatest zero lt = lit≤ tt
half-greatest (suc zero) lt = lit≤ tt
half-greatest (suc (suc r)) lt = absurd (omega arith)

half-floors : (e : ℕ) → e < 4 → (pair_at (small 5000) e).floor ≤ slice_index half e
half-floors zero lt = lit≤ tt
half-floors (suc zero) lt = lit≤ tt
half-floors (suc (suc zero)) lt = lit≤ tt
half-floors (suc (suc (suc zero))) lt = lit≤ tt
half-floors (suc (suc (suc (suc e)))) lt = absurd (omega arith)

half-caps : (e : ℕ) → e < 4 → slice_index half e ≤ cap_under (small 5000) EveryPair e
half-caps zero lt = lit≤ tt
half-caps (suc zero) lt = lit≤ tt
half-caps (suc (suc zero)) lt = lit≤ tt
half-caps (suc (suc (suc zero))) lt = lit≤ tt
half-caps (suc (suc (suc (suc e)))) lt = absurd (omega arith)

half-fits : SharesFit (small 5000) EveryPair half
half-fits = record {
  long = refl;
  papers = half-papers;
  of_groups = half-groups;
  least = half-least;
  greatest = half-greatest;
  floors = half-floors;
  caps = half-caps;
}

half-flows : flow_of (small 5000) half ≡ half_flow
unfolding groups group_of
half-flows = refl

pub half-circulates : AreRules (small 5000) → IsCirculation (network (small 5000)) half_flow
half-circulates are = rw half-flows at ((are-shares (small 5000) EveryPair are).all half half-fits)

-- potentials at which the prices meet the total with caps of 0.7
abbrev pub seven_potentials : List ℤ
seven_potentials = pos 200000 ∷ (pos 700000 ∷ (neg_ℤ (pos 100000) ∷ (pos 200000 ∷ (pos 200000 ∷ []))))

pub seven-nodes : node_count (small 7000) ≡ 5
unfolding groups
seven-nodes = refl

near : (v : ℕ) → IsWithin 40000000000 (potential_at seven_potentials v)
near zero = (omega (arith, ints), omega (arith, ints))
near (suc zero) = (omega (arith, ints), omega (arith, ints))
near (suc (suc zero)) = (omega (arith, ints), omega (arith, ints))
near (suc (suc (suc zero))) = (omega (arith, ints), omega (arith, ints))
near (suc (suc (suc (suc zero)))) = (omega (arith, ints), omega (arith, ints))
near (suc (suc (suc (suc (suc v))))) = (omega (arith, ints), omega (arith, ints))

pub seven-within : AreWithinCosts (small 7000) seven_potentials
seven-within = rw seven-nodes near
