-- Counts of a next assignment that stand from piece to piece, each until the ticket at which it is due. Tickets are counted
-- from the first piece on: those that are not left are used.
use Rattle.std.specs.Prelude.{◌≡◌, ◌≢◌, ℕ, ◌+◌, ◌*◌, ◌<◌, ◌≤◌, ◌⊎◌, ◌-◌, ◌==◌, if◌then◌else◌, List, [], length, slice_index, slice_index_or, Contains, pos}
use Rattle.match_rules.specs.Chosen.{chosen_places}
use Rattle.match_rules.specs.Rules.{RulesValue}
use Rattle.bounded_network.specs.declared.network.Arc.{Arc}
use Rattle.bounded_network.specs.Compile.{amounts_in, flow_of, listed, place_count}
use Rattle.bounded_network.specs.Network.{NetworkValue, IsCirculation, arc_at, entering, leaving}
use Rattle.bounded_network.specs.Spans.{rounded}
use Rattle.residual_arcs.specs.declared.step.Step.{Step}
use Rattle.unit_turns.specs.Over.{AreLinksOver}
use Rattle.unit_turns.specs.Side.{IsBlank}
use Rattle.unit_turns.specs.Steps.{step_at}
use Rattle.lottery_peel.specs.declared.standing.Standing.{Standing}
use Rattle.lottery_peel.specs.Peeling.{limit}

-- What is left of an amount, the bounds of its arc, its count, and the ticket at which the count is due. The bounds times the
-- tickets that are left hold the amount. A count that is the floor may stand until the tickets that are left are as many as
-- the amount is over the floor times these, and one that is a unit more for as many tickets.
pub record IsLine (all left : ℕ) (arc : Arc) (count due amount : ℕ) : Type 0 where
  pub narrow : arc.room ≤ arc.floor + 1
  pub above : arc.floor ≤ count
  pub below : count ≤ arc.room
  pub least : left * arc.floor ≤ amount
  pub most : amount ≤ left * arc.room
  pub down : count ≡ arc.floor → due + amount ≡ all + left * arc.floor
  pub up : count ≡ arc.floor + 1 → due + (left * arc.floor + left) ≡ all + amount

-- the amount that lies on such a line: the bounds, the count and its ticket leave no other
abbrev pub amount_by : ℕ → ℕ → Arc → ℕ → ℕ → ℕ
amount_by all left arc count due =
    if count == arc.floor then ((all + left * arc.floor) - due) else ((due + (left * arc.floor + left)) - all)

-- an arc on which an amount is rounded down to the floor or up to a unit more
abbrev pub unit_arc : ℕ → Arc
unit_arc floor = record { tail = 0; head = 1; floor = floor; room = floor + 1; cost = pos 0 }

-- the bounds of an arc leave no choice, or its count is due between the tickets that are used and all
abbrev pub IsTight : ℕ → ℕ → Arc → ℕ → Type 0
IsTight all left arc due = (arc.room ≡ arc.floor) ⊎ ((all < due + left) × (due < all))

-- a count is due now, or with all tickets: the amount is a multiple of the tickets that are left
abbrev pub IsMultiple : ℕ → ℕ → ℕ → Type 0
IsMultiple all left due = (due + left ≡ all) ⊎ (due ≡ all)

-- a network through which flows of amounts pass, as through the network of the rules, whatever its bounds
pub record PassesOn (rules : RulesValue) (net : NetworkValue) : Type 0 where
  pub size : length net.arcs ≡ place_count rules
  pub ends : (a : ℕ) → a < length net.arcs → (arc_at net a).tail ≢ (arc_at net a).head
  pub balanced : (amounts : List ℕ) (v : ℕ) → v < net.nodes → entering net (flow_of rules amounts) v ≡ leaving net (flow_of rules amounts) v
  pub only : (flow : List ℕ) → IsCirculation net flow → flow ≡ flow_of rules (amounts_in rules flow)

-- the bounds of each arc are its amount divided by the tickets that are left, rounded down and up
pub record HasRounded (left : ℕ) (amounts : List ℕ) (net : NetworkValue) : Type 0 where
  pub floors : (a : ℕ) → a < length net.arcs → (arc_at net a).floor ≡ (rounded left (slice_index amounts a)).floor
  pub rooms : (a : ℕ) → a < length net.arcs → (arc_at net a).room ≡ (rounded left (slice_index amounts a)).room

-- a due ticket for each amount, where all tickets are left
pub record AreFirstDues (all : ℕ) (amounts counts dues : List ℕ) : Type 0 where
  pub long : length dues ≡ length amounts
  pub each : (a : ℕ) → a < length amounts → slice_index dues a ≡ limit all (slice_index amounts a) (slice_index counts a)

-- the least of the due tickets, and all tickets where none is before
pub record IsLeastDue (all : ℕ) (dues : List ℕ) (ticket : ℕ) : Type 0 where
  pub most : ticket ≤ all
  pub within : (a : ℕ) → a < length dues → ticket ≤ slice_index dues a
  pub reached : (ticket ≡ all) ⊎ ((a : ℕ) × ((a < length dues) × (ticket ≡ slice_index dues a)))

-- the places of the counts that are due at the ticket, each of them and no others
pub record AreDueArcs (dues : List ℕ) (ticket : ℕ) (arcs : List ℕ) : Type 0 where
  pub each : (j : ℕ) → j < length arcs → (slice_index arcs j < length dues) × (slice_index dues (slice_index arcs j) ≡ ticket)
  pub whole : (a : ℕ) → a < length dues → slice_index dues a ≡ ticket → (j : ℕ) × ((j < length arcs) × (slice_index arcs j ≡ a))

-- an arc is in the list of a ticket
abbrev pub Waits : List (List ℕ) → ℕ → ℕ → Type 0
Waits lists ticket arc = Contains (slice_index_or lists ticket []) arc

-- each count that is due before all tickets waits in the list of the ticket at which it is due. It may also be left in the
-- lists of tickets at which it was due before it was turned.
pub record AreWaiting (all : ℕ) (dues : List ℕ) (lists : List (List ℕ)) : Type 0 where
  pub long : length lists ≡ all
  pub each : (a : ℕ) → a < length dues → slice_index dues a < all → Waits lists (slice_index dues a) a

-- where steps were taken over arcs, their counts are due as long before all tickets as they were due after this one; the others stay
pub record AreTurned (all ticket : ℕ) (steps : List Step) (count : ℕ) (old new : List ℕ) : Type 0 where
  pub long : length new ≡ length old
  pub moved : (i : ℕ) → i < count → slice_index new (step_at steps i).arc + slice_index old (step_at steps i).arc ≡ ticket + all
  pub stay : (a : ℕ) → ((i : ℕ) → i < count → (step_at steps i).arc ≢ a) → slice_index new a ≡ slice_index old a

-- what stands at an arc
abbrev pub LineAt : ℕ → ℕ → Standing → List ℕ → ℕ → Type 0
LineAt all left standing amounts a =
    IsLine all left (arc_at standing.net a) (slice_index standing.counts.items a) (slice_index standing.dues.items a) (slice_index amounts a)

abbrev pub TightAt : ℕ → ℕ → Standing → ℕ → Type 0
TightAt all left standing a = IsTight all left (arc_at standing.net a) (slice_index standing.dues.items a)

abbrev pub MultipleAt : ℕ → ℕ → Standing → ℕ → Type 0
MultipleAt all left standing a = IsMultiple all left (slice_index standing.dues.items a)

-- what is left of the share of each pair, by what stands at its arc
unfoldable pub rest_of : RulesValue → ℕ → Standing → List ℕ
rest_of rules left standing = listed (length rules.pairs)
    (λ e. amount_by rules.tickets left (arc_at standing.net e) (slice_index standing.counts.items e) (slice_index standing.dues.items e))

-- A circulation within bounds that hold the amounts that are left of pairs, papers, groups and reviewers, the places of the pairs
-- that have a count, and what is needed to turn units in it.
pub record IsStanding (rules : RulesValue) (left : ℕ) (rest : List ℕ) (standing : Standing) : Type 0 where
  pub passes : PassesOn rules standing.net
  pub links : AreLinksOver standing.net standing.links
  pub circulates : IsCirculation standing.net standing.counts.items
  pub long : length standing.dues.items ≡ length standing.net.arcs
  pub lines : (a : ℕ) → a < length standing.net.arcs → LineAt rules.tickets left standing (flow_of rules rest) a
  pub chosen : standing.chosen.items ≡ chosen_places (amounts_in rules standing.counts.items)
  pub ahead : IsBlank standing.net standing.ahead
  pub behind : IsBlank standing.net standing.behind
  pub waiting : AreWaiting rules.tickets standing.dues.items standing.waiting

-- its bounds are the rounded amounts, and no count is due
pub record IsNextStanding (rules : RulesValue) (left : ℕ) (rest : List ℕ) (standing : Standing) : Type 0 where
  pub stands : IsStanding rules left rest standing
  pub tight : (a : ℕ) → a < length standing.net.arcs → TightAt rules.tickets left standing a
