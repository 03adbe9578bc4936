use Rattle.std.proofs.Common.{◌≡◌, ℕ, ◌+◌, ◌-◌, ◌≤◌, List, length, sym, ◌∙◌, subst, arith}
use Rattle.match_rules.specs.declared.lottery.Piece.{Piece}
use Rattle.match_rules.specs.Chosen.{chosen_places}
use Rattle.match_rules.specs.Rules.{RulesValue}
use Rattle.bounded_network.specs.Compile.{amounts_in, flow_of}
use Rattle.lottery_peel.specs.declared.standing.Standing.{Standing}
use Rattle.lottery_peel.specs.Peeling.{AreLess, IsStepTo, IsWeight}
use Rattle.lottery_peel.specs.Remainder.{RemainderValue}
use Rattle.lottery_peel.specs.Standing.{IsNextStanding, IsStanding, rest_of}
use Rattle.lottery_peel.proofs.RestLaws.{own-rest, rest-kept, rest-less, rest-long}
use Rattle.lottery_peel.proofs.StandingLaws.{next-standing, standing-given, ready-given}
use Rattle.lottery_peel.proofs.remainder.Remainder.next.Goals as goal

pub weight_of-weight-requires-clause-next : goal.weight_of-weight-requires-clause-next
weight_of-weight-requires-clause-next c =
    let some : 1 ≤ c.self.inside.left = subst (λ (r : RemainderValue). 1 ≤ r.left) (sym c.self.view_is) c.requires.some in
    record { stands = c.self.invariant.stands; tight = c.self.invariant.tight some }

pub go_on-requires-clause-stands : goal.go_on-requires-clause-stands
go_on-requires-clause-stands c =
    let all : RulesValue = c.self.inside.rules.now in
    let left : ℕ = c.self.inside.left in
    let s : Standing = c.self.inside.standing in
    let weight : ℕ = c.weight_of-weight.result in
    let some : 1 ≤ left = subst (λ (r : RemainderValue). 1 ≤ r.left) (sym c.self.view_is) c.requires.some in
    let was : IsNextStanding all left (rest_of all left s) s = record { stands = c.self.invariant.stands; tight = c.self.invariant.tight some } in
    let weighs = c.weight_of-weight.ensures.weighs in
    let after : (left - weight) + weight ≡ left = omega (arith, weighs.most) in
    standing-given all left (rest_of all left s) s weight (left - weight) (rest_of all (left - weight) s) was c.self.invariant.fewer (rest-long all left s)
    (rest-less all left s weight (left - weight) was some weighs after) after c.weight_of-weight.ensures.least

pub go_on-requires-clause-ready : goal.go_on-requires-clause-ready
go_on-requires-clause-ready c = λ positive.
    let all : RulesValue = c.self.inside.rules.now in
    let left : ℕ = c.self.inside.left in
    let s : Standing = c.self.inside.standing in
    let weight : ℕ = c.weight_of-weight.result in
    let some : 1 ≤ left = subst (λ (r : RemainderValue). 1 ≤ r.left) (sym c.self.view_is) c.requires.some in
    let was : IsNextStanding all left (rest_of all left s) s = record { stands = c.self.invariant.stands; tight = c.self.invariant.tight some } in
    let most = c.weight_of-weight.ensures.weighs.most in
    ready-given all left (rest_of all left s) s weight (left - weight) was c.self.invariant.fewer (omega (arith, most)) c.weight_of-weight.ensures.least

pub returns-clause-step : goal.returns-clause-step
returns-clause-step c =
    let all : RulesValue = c.self.inside.rules.now in
    let left : ℕ = c.self.inside.left in
    let s : Standing = c.self.inside.standing in
    let rest : List ℕ = rest_of all left s in
    let counts : List ℕ = s.counts.items in
    let weight : ℕ = c.weight_of-weight.result in
    let next : ℕ = left - weight in
    let some : 1 ≤ left = subst (λ (r : RemainderValue). 1 ≤ r.left) (sym c.self.view_is) c.requires.some in
    let was : IsNextStanding all left rest s = record { stands = c.self.invariant.stands; tight = c.self.invariant.tight some } in
    let weighs : IsWeight left (flow_of all rest) counts (length (flow_of all rest)) weight = c.weight_of-weight.ensures.weighs in
    let after : next + weight ≡ left = omega (arith, weighs.most) in
    let places : c.from_vec.result ≡ chosen_places (amounts_in all counts) =
    c.from_vec.ensures ∙ c.in_ok-places.ensures.items ∙ c.as_slice.ensures.value ∙ was.stands.chosen in
    let new : List ℕ = rest_of all next c.go_on.new.standing in
    let takes : AreLess rest (amounts_in all counts) new weight =
    subst (λ xs. AreLess rest (amounts_in all counts) xs weight) (sym (rest-kept all next s c.go_on.new.standing c.in_ok-go_on.ensures.stands)) (rest-less all left s weight next was some weighs after) in
    let piece : Piece = record { weight = weight; pairs = c.from_vec.result } in
    let step : IsStepTo all left rest counts piece next new = record { assigns = next-standing all left rest s was some; weighs = weighs; takes = takes; places = places; after = after } in
    subst (λ (r : RemainderValue). IsStepTo r.rules r.left r.rest r.counts piece next new) c.self.view_is step

pub invariant_of-remainder : goal.invariant_of-remainder
invariant_of-remainder c =
    let all : RulesValue = c.self.inside.rules.now in
    let left : ℕ = c.self.inside.left in
    let next : ℕ = left - c.weight_of-weight.result in
    let s : Standing = c.self.inside.standing in
    let stands : IsStanding all next (rest_of all next s) c.go_on.new.standing = c.in_ok-go_on.ensures.stands in
    record {
      fewer = omega (arith, c.self.invariant.fewer);
      stands = own-rest all next (rest_of all next s) c.go_on.new.standing stands (rest-long all next s);
      tight = λ positive. (c.in_ok-go_on.ensures.next positive).tight;
    }
