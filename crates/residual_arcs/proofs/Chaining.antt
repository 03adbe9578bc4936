-- The chains of arcs at each node, as they are made.
use Rattle.std.proofs.Common.{◌≡◌, ◌≢◌, ℕ, ◌+◌, ◌-◌, ◌<◌, ◌⊎◌, List, [], ◌∷◌, ◌++◌, length, get_or-set_same, get_or-set_other, refl, sym, ◌∙◌, arith, inl, inr}
use Rattle.std.specs.Prelude.{slice_index, slice_set}
use Rattle.std.proofs.lemmas.Bool.{cases_eq}
use Rattle.std.proofs.lemmas.List.{length-set, get_or_push, get_or_append_left, length_push}
use Rattle.bounded_network.specs.Network.{NetworkValue, IsNetwork, arc_at}
use Rattle.residual_arcs.specs.Chains.{IsBound}

-- the bounds over the arcs below a place
pub record AreChainsTo (net : NetworkValue) (i : ℕ) (last tails heads : List ℕ) : Type 0 where
  pub last_long : length last ≡ net.nodes
  pub tails_long : length tails ≡ i
  pub heads_long : length heads ≡ i
  pub lasts : (v : ℕ) → v < net.nodes → IsBound net v i (slice_index last v)
  pub before_tail : (a : ℕ) → a < i → IsBound net (arc_at net a).tail a (slice_index tails a)
  pub before_head : (a : ℕ) → a < i → IsBound net (arc_at net a).head a (slice_index heads a)

-- the bound of a node once the arc at i is there
IsBound-more : (net : NetworkValue) (i v bound : ℕ) → IsBound net v i bound → (arc_at net i).tail ≢ v → (arc_at net i).head ≢ v → IsBound net v (i + 1) bound
IsBound-more net i v bound old not_tail not_head = record {
  below = omega (arith, old.below);
  none_between = λ a b lt. elim (cases_eq a i) [
    | inl e ↦ rw e (not_tail, not_head)
    | inr ne ↦ old.none_between a b (omega arith)
  ];
  at = old.at;
}

IsBound-here : (net : NetworkValue) (i v : ℕ) → ((arc_at net i).tail ≡ v) ⊎ ((arc_at net i).head ≡ v) → IsBound net v (i + 1) (i + 1)
IsBound-here net i v at = record {
  below = omega arith;
  none_between = λ a b lt. absurd (omega arith);
  at = λ _. let e : (i + 1) - 1 ≡ i = omega arith in rw e at;
}

pub AreChainsTo-more : (net : NetworkValue) (i : ℕ) (last tails heads : List ℕ) → IsNetwork net → i < length net.arcs → AreChainsTo net i last tails heads
    → AreChainsTo net (i + 1) (slice_set (slice_set last (arc_at net i).tail (i + 1)) (arc_at net i).head (i + 1)) (tails ++ slice_index last (arc_at net i).tail ∷ []) (heads ++ slice_index last (arc_at net i).head ∷ [])
AreChainsTo-more net i last tails heads good i_in old =
    let t : ℕ = (arc_at net i).tail in
    let h : ℕ = (arc_at net i).head in
    let t_in : t < net.nodes = (good.each i i_in).tail in
    let h_in : h < net.nodes = (good.each i i_in).head in
    let once : List ℕ = slice_set last t (i + 1) in
    let once_long : length once ≡ net.nodes = length-set last t (i + 1) ∙ old.last_long in
    record {
      last_long = length-set once h (i + 1) ∙ once_long;
      tails_long = omega (arith, length_push tails (slice_index last t), old.tails_long);
      heads_long = omega (arith, length_push heads (slice_index last h), old.heads_long);
      lasts = λ v b. elim (cases_eq v h) [
        | inl e ↦ rw (e, get_or-set_same once h (i + 1) 0 (omega (arith, once_long))) (IsBound-here net i h (inr refl))
        | inr off_head ↦ rw get_or-set_other (elim (cases_eq v t) [
          | inl e ↦ rw (e, get_or-set_same last t (i + 1) 0 (omega (arith, old.last_long))) (IsBound-here net i t (inl refl))
          | inr off_tail ↦ rw get_or-set_other (IsBound-more net i v (slice_index last v) (old.lasts v b) (λ q. off_tail (sym q)) (λ q. off_head (sym q)))
        ])
      ];
      before_tail = λ a b. elim (cases_eq a i) [
        | inl e ↦ rw (e, get_or_push tails (slice_index last t) 0 i old.tails_long) (old.lasts t t_in)
        | inr ne ↦ rw (get_or_append_left tails (slice_index last t ∷ []) 0 a (omega (arith, old.tails_long))) (old.before_tail a (omega arith))
      ];
      before_head = λ a b. elim (cases_eq a i) [
        | inl e ↦ rw (e, get_or_push heads (slice_index last h) 0 i old.heads_long) (old.lasts h h_in)
        | inr ne ↦ rw (get_or_append_left heads (slice_index last h ∷ []) 0 a (omega (arith, old.heads_long))) (old.before_head a (omega arith))
      ];
    }
