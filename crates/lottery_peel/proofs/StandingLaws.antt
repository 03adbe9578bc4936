-- Counts that stand: what they are between pieces, while tickets are given, where they are turned and where they are settled.
use Rattle.std.proofs.Common.{◌≡◌, ◌≢◌, ℕ, zero, suc, ◌+◌, ◌-◌, ◌<◌, ◌≤◌, ◌⊎◌, Bool, true, false, List, length, ltb, refl, sym, ◌∙◌, subst, arith, inl, inr}
use Rattle.std.specs.Prelude.{slice_index}
use Rattle.std.proofs.lemmas.Bool.{cases_eq, cases_lt, lt-ltb, le-ltb}
use Rattle.match_rules.specs.Rules.{RulesValue, AreRules}
use Rattle.bounded_network.specs.declared.network.Arc.{Arc}
use Rattle.bounded_network.specs.Compile.{amounts_in, flow_of, network_of}
use Rattle.bounded_network.specs.Network.{NetworkValue, IsNetwork, IsCirculation, AreViolated, arc_at, with_bounds}
use Rattle.bounded_network.specs.Scaled.{IsScaled}
use Rattle.bounded_network.specs.Spans.{rounded, rounded_spans}
use Rattle.bounded_network.proofs.Compiled.{each_arc, flow-length, flow-of_pair, flow-of_paper, flow-of_group, flow-of_reviewer}
use Rattle.bounded_network.proofs.Rebounds.{bounded-at, bounded-other}
use Rattle.residual_arcs.specs.declared.step.Step.{Step}
use Rattle.residual_arcs.specs.Step.{left_on, carried}
use Rattle.unit_turns.specs.Fixed.{with_fixed}
use Rattle.unit_turns.specs.Steps.{AreFree, AreTaken, step_at}
use Rattle.lottery_peel.specs.declared.standing.Standing.{Standing}
use Rattle.lottery_peel.specs.Peeling.{limit, AreLess, IsNext, IsWeight}
use Rattle.lottery_peel.specs.Standing.{IsLine, IsTight, IsMultiple, IsLeastDue, AreFirstDues, AreTurned, HasRounded, PassesOn, IsStanding, IsNextStanding, TightAt}
use Rattle.unit_turns.proofs.Narrowing.{AreLinksOver-narrowed}
use Rattle.lottery_peel.proofs.FlowSteps.{flow-less}
use Rattle.lottery_peel.proofs.GoodSteps.{some-tickets}
use Rattle.lottery_peel.proofs.LineLaws.{IsRoundedLine, line-next, line-turned, line-dues, line-settled, line-rounded, line-first, due-choice, due-other}
use Rattle.lottery_peel.proofs.NetLaws.{each-held, held-long, narrower-held, circulation-held, none-held, passes-narrower}
use Rattle.lottery_peel.proofs.Weighing.{limit-some}

-- ---- between pieces

flow-size : (rules : RulesValue) (left : ℕ) (rest : List ℕ) (s : Standing) → IsStanding rules left rest s → length (flow_of rules rest) ≡ length s.net.arcs
flow-size rules left rest s stands = flow-length rules rest ∙ sym stands.passes.size

-- each amount is rounded
pub rounded-at : (rules : RulesValue) (left : ℕ) (rest : List ℕ) (s : Standing) → IsNextStanding rules left rest s → 1 ≤ left → (a : ℕ) → a < length (flow_of rules rest)
    → IsRoundedLine rules.tickets left (arc_at s.net a) (slice_index s.counts.items a) (slice_index s.dues.items a) (slice_index (flow_of rules rest) a)
rounded-at rules left rest s next some a lt =
    let a_in : a < length s.net.arcs = omega (arith, lt, flow-size rules left rest s next.stands) in
    line-rounded rules.tickets left (arc_at s.net a) (slice_index s.counts.items a) (slice_index s.dues.items a) (slice_index (flow_of rules rest) a) (next.stands.lines a a_in) some (next.tight a a_in)

-- the counts are a next assignment
pub next-standing : (rules : RulesValue) (left : ℕ) (rest : List ℕ) (s : Standing) → IsNextStanding rules left rest s → 1 ≤ left → IsNext rules rest left s.counts.items
next-standing rules left rest s next some = record {
  rounds = record {
    long = next.stands.circulates.long ∙ sym (flow-size rules left rest s next.stands);
    each = λ a lt.
        let is = rounded-at rules left rest s next some a lt in
        let a_in : a < length s.net.arcs = omega (arith, lt, flow-size rules left rest s next.stands) in
        let line = next.stands.lines a a_in in
        (omega (arith, is.floor, line.above), omega (arith, is.room, line.below));
  };
  flows = next.stands.passes.only s.counts.items next.stands.circulates;
}

-- they may stand until the first of them is due
pub weight-standing : (rules : RulesValue) (left : ℕ) (rest : List ℕ) (s : Standing) (ticket : ℕ) → IsNextStanding rules left rest s → 1 ≤ left → left ≤ rules.tickets
    → IsLeastDue rules.tickets s.dues.items ticket → IsWeight left (flow_of rules rest) s.counts.items (length (flow_of rules rest)) (ticket - (rules.tickets - left))
weight-standing rules left rest s ticket next some fewer least =
    let all : ℕ = rules.tickets in
    let size : length s.dues.items ≡ length (flow_of rules rest) = next.stands.long ∙ sym (flow-size rules left rest s next.stands) in
    let limits : (a : ℕ) → a < length (flow_of rules rest) → slice_index s.dues.items a + left ≡ all + limit left (slice_index (flow_of rules rest) a) (slice_index s.counts.items a) =
    λ a lt. (rounded-at rules left rest s next some a lt).limits in
    record {
      some = elim least.reached [
        | inl last ↦ omega (arith, last, some, fewer)
        | inr at ↦ omega (arith, at.1.1, limits at.0 (omega (arith, at.1.0, size)), limit-some left (slice_index (flow_of rules rest) at.0) (slice_index s.counts.items at.0) some, fewer)
      ];
      most = omega (arith, least.most, fewer);
      within = λ a lt. omega (arith, least.within a (omega (arith, lt, size)), limits a lt, fewer);
      reached = elim least.reached [
        | inl last ↦ inl (omega (arith, last, fewer))
        | inr at ↦
            let lt : at.0 < length (flow_of rules rest) = omega (arith, at.1.0, size) in
            inr (at.0, (lt, omega (arith, at.1.1, limits at.0 lt, fewer)))
      ];
    }

-- and none of them is due before
pub due-after : (rules : RulesValue) (left : ℕ) (rest : List ℕ) (s : Standing) → IsNextStanding rules left rest s → 1 ≤ left → left ≤ rules.tickets
    → (a : ℕ) → a < length s.dues.items → rules.tickets - left < slice_index s.dues.items a
due-after rules left rest s next some fewer a lt =
    let a_in : a < length (flow_of rules rest) = omega (arith, lt, next.stands.long, flow-size rules left rest s next.stands) in
    let limits = (rounded-at rules left rest s next some a a_in).limits in
    let least = limit-some left (slice_index (flow_of rules rest) a) (slice_index s.counts.items a) some in
    omega (arith, limits, least, fewer)

-- ---- tickets are given

pub standing-given : (rules : RulesValue) (left : ℕ) (rest : List ℕ) (s : Standing) (weight next : ℕ) (new : List ℕ) → IsNextStanding rules left rest s → left ≤ rules.tickets
    → length rest ≡ length rules.pairs → AreLess rest (amounts_in rules s.counts.items) new weight → next + weight ≡ left
    → IsLeastDue rules.tickets s.dues.items (rules.tickets - left + weight) → IsStanding rules next new s
standing-given rules left rest s weight next new was fewer long less tickets least =
    let given : AreLess (flow_of rules rest) s.counts.items (flow_of rules new) weight =
    flow-less rules rest s.counts.items new weight long (was.stands.passes.only s.counts.items was.stands.circulates) less in
    let size = flow-size rules left rest s was.stands in
    record {
      passes = was.stands.passes;
      links = was.stands.links;
      circulates = was.stands.circulates;
      long = was.stands.long;
      lines = λ a lt.
          let late = least.within a (omega (arith, lt, was.stands.long)) in
          line-next rules.tickets left (arc_at s.net a) (slice_index s.counts.items a) (slice_index s.dues.items a) (slice_index (flow_of rules rest) a) weight next (slice_index (flow_of rules new) a)
          (was.stands.lines a lt) tickets (given.each a (omega (arith, lt, size))) (omega (arith, late, tickets, fewer));
      chosen = was.stands.chosen;
      ahead = was.stands.ahead;
      behind = was.stands.behind;
      waiting = was.stands.waiting;
    }

tight-given : (all left : ℕ) (arc : Arc) (due weight next : ℕ) → IsTight all left arc due → left ≤ all → next + weight ≡ left → (all - left + weight) ≤ due
    → IsTight all next arc due ⊎ (due + next ≡ all)
tight-given all left arc due weight next (inl whole) fewer tickets late = inl (inl whole)
tight-given all left arc due weight next (inr between) fewer tickets late = elim (cases_eq (due + next) all) [
  | inl now ↦ inr now
  | inr other ↦ inl (inr (omega (arith, other, late, tickets, fewer), between.1))
]

pub ready-given : (rules : RulesValue) (left : ℕ) (rest : List ℕ) (s : Standing) (weight next : ℕ) → IsNextStanding rules left rest s → left ≤ rules.tickets → next + weight ≡ left
    → IsLeastDue rules.tickets s.dues.items (rules.tickets - left + weight)
    → (a : ℕ) → a < length s.net.arcs → TightAt rules.tickets next s a ⊎ (slice_index s.dues.items a + next ≡ rules.tickets)
ready-given rules left rest s weight next was fewer tickets least a lt =
    tight-given rules.tickets left (arc_at s.net a) (slice_index s.dues.items a) weight next (was.tight a lt) fewer tickets (least.within a (omega (arith, lt, was.stands.long)))

-- ---- a count is turned

-- the amounts lie between the bounds times the tickets that are left
pub scaled-standing : (rules : RulesValue) (left : ℕ) (rest : List ℕ) (s : Standing) → IsStanding rules left rest s → IsScaled s.net left (flow_of rules rest)
scaled-standing rules left rest s stands = record {
  floors = λ a lt. (stands.lines a lt).least;
  rooms = λ a lt. (stands.lines a lt).most;
  balanced = stands.passes.balanced rest;
}

carried-other : (floor room count : ℕ) (forward : Bool) → room ≡ floor + 1 → floor ≤ count → count ≤ room → ((count < room) × (forward ≡ true)) ⊎ ((room ≤ count) × (forward ≡ false))
    → carried count forward 1 + count ≡ floor + room
carried-other floor room count forward wide low high (inl up) = rw (up.1) (let less = up.0 in omega arith)
carried-other floor room count forward wide low high (inr down) = rw (down.1) (let least = down.0 in omega arith)

left-other : (arc : Arc) (count : ℕ) (forward : Bool) → arc.room ≡ arc.floor + 1 → arc.floor ≤ count → count ≤ arc.room → ((count < arc.room) × (forward ≡ true)) ⊎ ((arc.room ≤ count) × (forward ≡ false))
    → 0 < left_on arc count forward
left-other arc count forward wide low high (inl up) = rw (up.1) (let less = up.0 in omega arith)
left-other arc count forward wide low high (inr down) = rw (down.1) (let least = down.0 in omega arith)

-- the way in which a count is turned: up where it is below the room
abbrev pub IsOtherWay : Arc → ℕ → Bool → Type 0
IsOtherWay arc count forward = ((count < arc.room) × (forward ≡ true)) ⊎ ((arc.room ≤ count) × (forward ≡ false))

pub due-left : (rules : RulesValue) (left : ℕ) (rest : List ℕ) (s : Standing) (a : ℕ) (forward : Bool) → IsStanding rules left rest s → 1 ≤ left → a < length s.net.arcs
    → slice_index s.dues.items a + left ≡ rules.tickets → IsOtherWay (arc_at s.net a) (slice_index s.counts.items a) forward → 0 < left_on (arc_at s.net a) (slice_index s.counts.items a) forward
due-left rules left rest s a forward stands some lt now way =
    let line = stands.lines a lt in
    left-other (arc_at s.net a) (slice_index s.counts.items a) forward (due-choice rules.tickets left (arc_at s.net a) (slice_index s.counts.items a) (slice_index s.dues.items a) (slice_index (flow_of rules rest) a) line some now) line.above line.below way

-- the amounts show that it may be turned
pub due-possible : (rules : RulesValue) (left : ℕ) (rest : List ℕ) (s : Standing) (a : ℕ) (forward : Bool) → IsNetwork s.net → IsStanding rules left rest s → 1 ≤ left → a < length s.net.arcs
    → slice_index s.dues.items a + left ≡ rules.tickets → IsOtherWay (arc_at s.net a) (slice_index s.counts.items a) forward
    → (marks : List Bool) → AreViolated (with_fixed s.net a (carried (slice_index s.counts.items a) forward 1)) marks → ⊥
due-possible rules left rest s a forward good stands some lt now way =
    let arc : Arc = arc_at s.net a in
    let count : ℕ = slice_index s.counts.items a in
    let line = stands.lines a lt in
    let wide = due-choice rules.tickets left arc count (slice_index s.dues.items a) (slice_index (flow_of rules rest) a) line some now in
    let sum = carried-other arc.floor arc.room count forward wide line.above line.below way in
    let whole = due-other rules.tickets left arc count (slice_index s.dues.items a) (slice_index (flow_of rules rest) a) (carried count forward 1) line some now sum in
    none-held s.net a (carried count forward 1) left (flow_of rules rest) good lt (omega (arith, sum, line.below)) (omega (arith, sum, line.above)) some (scaled-standing rules left rest s stands) whole

-- a place is among the arcs of the first steps or not
find-step : (steps : List Step) (a count : ℕ) → ((i : ℕ) × ((i < count) × ((step_at steps i).arc ≡ a))) ⊎ ((i : ℕ) → i < count → (step_at steps i).arc ≢ a)
find-step steps a zero = inr (λ i lt. absurd (omega arith))
find-step steps a (suc n) = elim (cases_eq (step_at steps n).arc a) [
  | inl same ↦ inl (n, (omega arith, same))
  | inr other ↦ elim (find-step steps a n) [
    | inl found ↦ inl (found.0, (let lt = found.1.0 in omega arith, found.1.1))
    | inr none ↦ inr (λ i lt. elim (cases_eq i n) [
      | inl last ↦ subst (λ k. (step_at steps k).arc ≢ a) (sym last) other
      | inr before ↦ none i (omega arith)
    ])
  ]
]

by-unit : (arc : Arc) (count : ℕ) (forward : Bool) → 0 < left_on arc count forward → count ≤ arc.room → (carried count forward 1 ≡ count + 1) ⊎ (count ≡ carried count forward 1 + 1)
by-unit arc count true some high = inl refl
by-unit arc count false some high = inr (omega arith)

-- all amounts lie as they did
pub lines-turned : (all ticket left : ℕ) (net : NetworkValue) (counts new dues again amounts : List ℕ) (steps : List Step) → ticket + left ≡ all
    → ((a : ℕ) → a < length net.arcs → IsLine all left (arc_at net a) (slice_index counts a) (slice_index dues a) (slice_index amounts a))
    → AreFree net counts steps → AreTaken net counts new steps → IsCirculation net new → AreTurned all ticket steps (length steps) dues again
    → (a : ℕ) → a < length net.arcs → IsLine all left (arc_at net a) (slice_index new a) (slice_index again a) (slice_index amounts a)
lines-turned all ticket left net counts new dues again amounts steps used lines free taken round turned a lt =
    elim (find-step steps a (length steps)) [
      | inl found ↦
          let i : ℕ = found.0 in
          let here : (step_at steps i).arc ≡ a = found.1.1 in
          let forward : Bool = (step_at steps i).forward in
          let some : 0 < left_on (arc_at net a) (slice_index counts a) forward = subst (λ n. 0 < left_on (arc_at net n) (slice_index counts n) forward) here (free.left i found.1.0) in
          let moved : slice_index new a ≡ carried (slice_index counts a) forward 1 = subst (λ n. slice_index new n ≡ carried (slice_index counts n) forward 1) here (taken.moved i found.1.0) in
          let dated : slice_index again a + slice_index dues a ≡ ticket + all = subst (λ n. slice_index again n + slice_index dues n ≡ ticket + all) here (turned.moved i found.1.0) in
          let unit : (slice_index new a ≡ slice_index counts a + 1) ⊎ (slice_index counts a ≡ slice_index new a + 1) =
          subst (λ n. (n ≡ slice_index counts a + 1) ⊎ (slice_index counts a ≡ n + 1)) (sym moved) (by-unit (arc_at net a) (slice_index counts a) forward some (lines a lt).below) in
          line-turned all left (arc_at net a) (slice_index counts a) (slice_index dues a) (slice_index amounts a) (slice_index new a) (slice_index again a) (lines a lt) (round.floors a lt) (round.rooms a lt) unit
          (omega (arith, dated, used))
      | inr none ↦
          let same = taken.stay a none in
          let stays = turned.stay a none in
          subst (λ n. IsLine all left (arc_at net a) n (slice_index again a) (slice_index amounts a)) (sym same)
          (subst (λ n. IsLine all left (arc_at net a) (slice_index counts a) n (slice_index amounts a)) (sym stays) (lines a lt))
    ]

tight-by : (all ticket left : ℕ) (arc : Arc) (due again : ℕ) → ticket + left ≡ all → again + due ≡ ticket + all → IsTight all left arc due → IsTight all left arc again
tight-by all ticket left arc due again used sum (inl whole) = inl whole
tight-by all ticket left arc due again used sum (inr between) = inr (omega (arith, used, sum, between.1), omega (arith, used, sum, between.0))

multiple-by : (all ticket left due again : ℕ) → ticket + left ≡ all → again + due ≡ ticket + all → IsMultiple all left due → IsMultiple all left again
multiple-by all ticket left due again used sum (inl now) = inr (omega (arith, used, sum, now))
multiple-by all ticket left due again used sum (inr last) = inl (omega (arith, used, sum, last))

pub tight-turned : (all ticket left : ℕ) (net : NetworkValue) (dues again : List ℕ) (steps : List Step) → ticket + left ≡ all → AreTurned all ticket steps (length steps) dues again
    → (a : ℕ) → IsTight all left (arc_at net a) (slice_index dues a) → IsTight all left (arc_at net a) (slice_index again a)
tight-turned all ticket left net dues again steps used turned a tight = elim (find-step steps a (length steps)) [
  | inl found ↦
      let dated : slice_index again a + slice_index dues a ≡ ticket + all = subst (λ n. slice_index again n + slice_index dues n ≡ ticket + all) found.1.1 (turned.moved found.0 found.1.0) in
      tight-by all ticket left (arc_at net a) (slice_index dues a) (slice_index again a) used dated tight
  | inr none ↦ subst (λ n. IsTight all left (arc_at net a) n) (sym (turned.stay a none)) tight
]

pub multiple-turned : (all ticket left : ℕ) (dues again : List ℕ) (steps : List Step) → ticket + left ≡ all → AreTurned all ticket steps (length steps) dues again
    → (a : ℕ) → IsMultiple all left (slice_index dues a) → IsMultiple all left (slice_index again a)
multiple-turned all ticket left dues again steps used turned a multiple = elim (find-step steps a (length steps)) [
  | inl found ↦
      let dated : slice_index again a + slice_index dues a ≡ ticket + all = subst (λ n. slice_index again n + slice_index dues n ≡ ticket + all) found.1.1 (turned.moved found.0 found.1.0) in
      multiple-by all ticket left (slice_index dues a) (slice_index again a) used dated multiple
  | inr none ↦ subst (λ n. IsMultiple all left n) (sym (turned.stay a none)) multiple
]

-- the arc of the first step is due with all tickets
pub first-turned : (all ticket left : ℕ) (dues again : List ℕ) (steps : List Step) (step : Step) → ticket + left ≡ all → AreTurned all ticket steps (length steps) dues again
    → 0 < length steps → step_at steps 0 ≡ step → slice_index dues step.arc + left ≡ all → slice_index again step.arc ≡ all
first-turned all ticket left dues again steps step used turned some first now =
    let dated : slice_index again step.arc + slice_index dues step.arc ≡ ticket + all = subst (λ (s : Step). slice_index again s.arc + slice_index dues s.arc ≡ ticket + all) first (turned.moved 0 some) in
    omega (arith, dated, used, now)

-- ---- a count is settled

pub lines-held : (all left : ℕ) (net : NetworkValue) (a : ℕ) (counts dues amounts : List ℕ) → a < length net.arcs → slice_index dues a ≡ all
    → ((k : ℕ) → k < length net.arcs → IsLine all left (arc_at net k) (slice_index counts k) (slice_index dues k) (slice_index amounts k))
    → (k : ℕ) → k < length (with_bounds net a (slice_index counts a) (slice_index counts a)).arcs
    → IsLine all left (arc_at (with_bounds net a (slice_index counts a) (slice_index counts a)) k) (slice_index counts k) (slice_index dues k) (slice_index amounts k)
lines-held all left net a counts dues amounts lt last lines k k_in =
    let count : ℕ = slice_index counts a in
    let held : Arc = record (arc_at net a) { floor = count; room = count } in
    each-held net a count (λ (arc : Arc) n. IsLine all left arc (slice_index counts n) (slice_index dues n) (slice_index amounts n)) lt
    (line-settled all left (arc_at net a) held count (slice_index dues a) (slice_index amounts a) (lines a lt) last refl refl)
    (λ n n_in other. lines n n_in) k (omega (arith, k_in, held-long net a count))

pub tight-held : (all left : ℕ) (net : NetworkValue) (a amount due : ℕ) → a < length net.arcs → IsTight all left (arc_at (with_bounds net a amount amount) a) due
tight-held all left net a amount due lt = subst (λ (arc : Arc). IsTight all left arc due) (sym (bounded-at net a amount amount lt)) (inl refl)

pub tight-others : (all left : ℕ) (net : NetworkValue) (a amount : ℕ) (dues : List ℕ) → a < length net.arcs → (k : ℕ) → IsTight all left (arc_at net k) (slice_index dues k)
    → IsTight all left (arc_at (with_bounds net a amount amount) k) (slice_index dues k)
tight-others all left net a amount dues lt k tight = elim (cases_eq k a) [
  | inl same ↦ subst (λ n. IsTight all left (arc_at (with_bounds net a amount amount) n) (slice_index dues n)) (sym same) (tight-held all left net a amount (slice_index dues a) lt)
  | inr other ↦ subst (λ (arc : Arc). IsTight all left arc (slice_index dues k)) (sym (bounded-other net a amount amount k other)) tight
]

pub standing-held : (rules : RulesValue) (left : ℕ) (rest : List ℕ) (s : Standing) (a : ℕ) → IsStanding rules left rest s → a < length s.net.arcs → slice_index s.dues.items a ≡ rules.tickets
    → IsStanding rules left rest (record s { net = with_bounds s.net a (slice_index s.counts.items a) (slice_index s.counts.items a) })
standing-held rules left rest s a stands lt last =
    let count : ℕ = slice_index s.counts.items a in
    let held : NetworkValue = with_bounds s.net a count count in
    let narrower = narrower-held s.net a count lt (stands.circulates.floors a lt) (stands.circulates.rooms a lt) in
    record {
      passes = passes-narrower rules s.net held narrower stands.passes;
      links = AreLinksOver-narrowed s.net held s.links narrower stands.links;
      circulates = circulation-held s.net a count s.counts.items lt stands.circulates refl;
      long = stands.long ∙ sym (held-long s.net a count);
      lines = lines-held rules.tickets left s.net a s.counts.items s.dues.items (flow_of rules rest) lt last stands.lines;
      chosen = stands.chosen;
      ahead = record { none = stands.ahead.none; long = stands.ahead.long; unplaced = stands.ahead.unplaced };
      behind = record { none = stands.behind.none; long = stands.behind.long; unplaced = stands.behind.unplaced };
      waiting = stands.waiting;
    }

-- ---- while all tickets are left

pub rounded-network : (rules : RulesValue) (shares : List ℕ) (left : ℕ) → HasRounded left (flow_of rules shares) (network_of rules (rounded_spans rules shares left))
rounded-network rules shares left = record {
  floors = each_arc rules (rounded_spans rules shares left) (λ (arc : Arc) a. arc.floor ≡ (rounded left (slice_index (flow_of rules shares) a)).floor)
      (λ e lt. rw (flow-of_pair rules shares e lt) refl)
      (λ p lt. rw (flow-of_paper rules shares p lt) refl)
      (λ g lt. rw (flow-of_group rules shares g lt) refl)
      (λ r lt. rw (flow-of_reviewer rules shares r lt) refl);
  rooms = each_arc rules (rounded_spans rules shares left) (λ (arc : Arc) a. arc.room ≡ (rounded left (slice_index (flow_of rules shares) a)).room)
      (λ e lt. rw (flow-of_pair rules shares e lt) refl)
      (λ p lt. rw (flow-of_paper rules shares p lt) refl)
      (λ g lt. rw (flow-of_group rules shares g lt) refl)
      (λ r lt. rw (flow-of_reviewer rules shares r lt) refl);
}

pub first-at : (rules : RulesValue) (shares : List ℕ) (net : NetworkValue) (counts dues : List ℕ) → AreRules rules → PassesOn rules net → HasRounded rules.tickets (flow_of rules shares) net
    → IsCirculation net counts → AreFirstDues rules.tickets (flow_of rules shares) counts dues → (a : ℕ) → a < length net.arcs
    → IsLine rules.tickets rules.tickets (arc_at net a) (slice_index counts a) (slice_index dues a) (slice_index (flow_of rules shares) a) × IsTight rules.tickets rules.tickets (arc_at net a) (slice_index dues a)
first-at rules shares net counts dues are passes rounds round first a lt =
    let amount_in : a < length (flow_of rules shares) = omega (arith, lt, passes.size, flow-length rules shares) in
    line-first rules.tickets (arc_at net a) (slice_index counts a) (slice_index dues a) (slice_index (flow_of rules shares) a) (some-tickets rules are) (rounds.floors a lt) (rounds.rooms a lt) (round.floors a lt) (round.rooms a lt) (first.each a amount_in)

-- every count is due after the tickets that are used and before all are
pub dues-between : (rules : RulesValue) (left : ℕ) (rest : List ℕ) (s : Standing) → IsStanding rules left rest s → (a : ℕ) → a < length s.net.arcs
    → (slice_index s.dues.items a ≤ rules.tickets) × (rules.tickets ≤ slice_index s.dues.items a + left)
dues-between rules left rest s stands a lt =
    line-dues rules.tickets left (arc_at s.net a) (slice_index s.counts.items a) (slice_index s.dues.items a) (slice_index (flow_of rules rest) a) (stands.lines a lt)

pub other-way : (arc : Arc) (count : ℕ) → IsOtherWay arc count (ltb count arc.room)
other-way arc count = elim (cases_lt count arc.room) [
  | inl less ↦ inl (less, lt-ltb count arc.room less)
  | inr most ↦ inr (most, le-ltb count arc.room most)
]
