-- What is left of the shares, by what stands: it is the rest that a standing assignment has, and a piece takes its tickets off.
use Rattle.std.proofs.Common.{◌≡◌, ℕ, ◌+◌, ◌*◌, ◌<◌, ◌≤◌, List, length, sym, ◌∙◌, subst, arith, inl, inr}
use Rattle.std.specs.Prelude.{slice_index}
use Rattle.std.proofs.lemmas.Bool.{eq-eqb, ne_eqb}
use Rattle.std.proofs.lemmas.Grind.{same_number_lists}
use Rattle.std.proofs.lemmas.List.{length-take-le}
use Rattle.match_rules.specs.Rules.{RulesValue}
use Rattle.bounded_network.specs.declared.network.Arc.{Arc}
use Rattle.bounded_network.specs.Compile.{amounts_in, flow_of, place_count}
use Rattle.bounded_network.specs.Network.{NetworkValue, arc_at}
use Rattle.bounded_network.proofs.Compiled.{amount-in, flow-length, flow-of_pair}
use Rattle.bounded_network.proofs.Parts.{length-listed, listed-at}
use Rattle.lottery_peel.specs.declared.standing.Standing.{Standing}
use Rattle.lottery_peel.specs.Peeling.{AreLess, IsNext, IsWeight}
use Rattle.lottery_peel.specs.Standing.{IsLine, IsStanding, IsNextStanding, amount_by, rest_of}
use Rattle.lottery_peel.proofs.FlowSteps.{next-enough}
use Rattle.lottery_peel.proofs.LineLaws.{floor_or_more}
use Rattle.lottery_peel.proofs.StandingLaws.{next-standing}

-- a line has one amount
line-amount : (all left : ℕ) (arc : Arc) (count due amount : ℕ) → IsLine all left arc count due amount → amount_by all left arc count due ≡ amount
line-amount all left arc count due amount line = elim (floor_or_more arc.floor arc.room count line.narrow line.above line.below) [
  | inl same ↦ let had = line.down same in rw (eq-eqb count arc.floor same) (omega arith)
  | inr more ↦ let had = line.up more.0 in rw (ne_eqb count arc.floor (λ same. absurd (let up = more.0 in omega arith))) (omega arith)
]

-- and what is left of it after some tickets lies on the line of those that are left then
line-less : (all next weight : ℕ) (arc : Arc) (count due amount : ℕ) → IsLine all (next + weight) arc count due amount → weight * count ≤ amount → amount_by all next arc count due + weight * count ≡ amount
line-less all next weight arc count due amount line enough = elim (floor_or_more arc.floor arc.room count line.narrow line.above line.below) [
  | inl same ↦
      let f : ℕ = arc.floor in
      let had : due + amount ≡ all + (next + weight) * f = line.down same in
      let taken : weight * f ≤ amount = rw same at enough in
      rw (eq-eqb count arc.floor same) (rw same (omega arith))
  | inr more ↦
      let f : ℕ = arc.floor in
      let had : due + ((next + weight) * f + (next + weight)) ≡ all + amount = line.up more.0 in
      let taken : weight * (f + 1) ≤ amount = rw (more.0) at enough in
      rw (ne_eqb count arc.floor (λ same. absurd (let up = more.0 in omega arith))) (rw (more.0) (omega arith))
]

pub rest-long : (rules : RulesValue) (left : ℕ) (s : Standing) → length (rest_of rules left s) ≡ length rules.pairs
unfolding rest_of
rest-long rules left s = length-listed (length rules.pairs) _

rest-at : (rules : RulesValue) (left : ℕ) (s : Standing) (e : ℕ) → e < length rules.pairs
    → slice_index (rest_of rules left s) e ≡ amount_by rules.tickets left (arc_at s.net e) (slice_index s.counts.items e) (slice_index s.dues.items e)
unfolding rest_of
rest-at rules left s e lt = listed-at (length rules.pairs) e _ 0 lt

line-of_pair : (rules : RulesValue) (left : ℕ) (rest : List ℕ) (s : Standing) (e : ℕ) → IsStanding rules left rest s → e < length rules.pairs
    → IsLine rules.tickets left (arc_at s.net e) (slice_index s.counts.items e) (slice_index s.dues.items e) (slice_index rest e)
line-of_pair rules left rest s e stands lt =
    subst (λ amount. IsLine rules.tickets left (arc_at s.net e) (slice_index s.counts.items e) (slice_index s.dues.items e) amount) (flow-of_pair rules rest e lt)
    (stands.lines e (let size = stands.passes.size in omega arith))

-- what is left is determined by what stands
pub rest-is : (rules : RulesValue) (left : ℕ) (rest : List ℕ) (s : Standing) → IsStanding rules left rest s → length rest ≡ length rules.pairs → rest_of rules left s ≡ rest
rest-is rules left rest s stands long =
    same_number_lists (rest_of rules left s) rest (rest-long rules left s ∙ sym long)
    (λ e lt.
    let pair : e < length rules.pairs = (let size = rest-long rules left s in omega arith) in
    rest-at rules left s e pair
    ∙ line-amount rules.tickets left (arc_at s.net e) (slice_index s.counts.items e) (slice_index s.dues.items e) (slice_index rest e) (line-of_pair rules left rest s e stands pair))

pub own-rest : (rules : RulesValue) (left : ℕ) (rest : List ℕ) (s : Standing) → IsStanding rules left rest s → length rest ≡ length rules.pairs → IsStanding rules left (rest_of rules left s) s
own-rest rules left rest s stands long = subst (λ xs. IsStanding rules left xs s) (sym (rest-is rules left rest s stands long)) stands

-- so it stays where an assignment changes that stands for the same rest
pub rest-kept : (rules : RulesValue) (left : ℕ) (old new : Standing) → IsStanding rules left (rest_of rules left old) new → rest_of rules left new ≡ rest_of rules left old
rest-kept rules left old new stands = rest-is rules left (rest_of rules left old) new stands (rest-long rules left old)

-- a next assignment has a count for each pair
pub chosen-length : (rules : RulesValue) (rest : List ℕ) (left : ℕ) (counts : List ℕ) → IsNext rules rest left counts → length (amounts_in rules counts) ≡ length rules.pairs
chosen-length rules rest left counts next =
    let size = flow-length rules rest in
    let long = next.rounds.long in
    length-take-le (length rules.pairs) counts (omega arith)

-- and so has any flow of a network of the rules
pub size-of_chosen : (rules : RulesValue) (net : NetworkValue) (counts : List ℕ) → length net.arcs ≡ place_count rules → length counts ≡ length net.arcs → length (amounts_in rules counts) ≡ length rules.pairs
size-of_chosen rules net counts size long = length-take-le (length rules.pairs) counts (omega arith)

-- what a piece takes is taken off, though nothing is written
pub rest-less : (rules : RulesValue) (left : ℕ) (s : Standing) (weight next : ℕ) → IsNextStanding rules left (rest_of rules left s) s → 1 ≤ left
    → IsWeight left (flow_of rules (rest_of rules left s)) s.counts.items (length (flow_of rules (rest_of rules left s))) weight → next + weight ≡ left
    → AreLess (rest_of rules left s) (amounts_in rules s.counts.items) (rest_of rules next s) weight
rest-less rules left s weight next was some weighs tickets =
    let rest : List ℕ = rest_of rules left s in
    let long = rest-long rules left s in
    let is : IsNext rules rest left s.counts.items = next-standing rules left rest s was some in
    record {
      long = rest-long rules next s ∙ sym long;
      same = chosen-length rules rest left s.counts.items is ∙ sym long;
      each = λ e lt.
          let pair : e < length rules.pairs = omega arith in
          let count : ℕ = slice_index s.counts.items e in
          let here = amount-in rules s.counts.items e pair in
          let enough : weight * count ≤ slice_index rest e = rw here at (next-enough rules rest left s.counts.items weight long is weighs e lt) in
          let line = line-of_pair rules left rest s e was.stands pair in
          let less = line-less rules.tickets next weight (arc_at s.net e) count (slice_index s.dues.items e) (slice_index rest e)
          (subst (λ n. IsLine rules.tickets n (arc_at s.net e) count (slice_index s.dues.items e) (slice_index rest e)) (sym tickets) line) enough in
          rw (here, rest-at rules next s e pair) less;
    }
