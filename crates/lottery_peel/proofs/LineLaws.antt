-- One amount whose count stands: while tickets are given, where it is turned, and where it is settled.
use Rattle.std.proofs.Common.{◌≡◌, ℕ, zero, suc, ◌+◌, ◌-◌, ◌*◌, ◌/◌, ◌%◌, ◌<◌, ◌≤◌, ◌⊎◌, min, refl, sym, arith, inl, inr, subst}
use Rattle.std.specs.Prelude.{◌==◌, if◌then◌else◌}
use Rattle.std.proofs.lemmas.Bool.{cases_eq, eq-eqb, ne_eqb}
use Rattle.std.proofs.Math.Nat.{div-add-mod}
use Rattle.bounded_network.specs.declared.network.Arc.{Arc}
use Rattle.bounded_network.specs.Spans.{rounded}
use Rattle.lottery_peel.specs.Peeling.{limit}
use Rattle.lottery_peel.specs.Standing.{IsLine, IsTight}
use Rattle.lottery_peel.proofs.OneAmount.{parts}

-- a count is the floor or a unit more
pub floor_or_more : (floor room count : ℕ) → room ≤ floor + 1 → floor ≤ count → count ≤ room → (count ≡ floor) ⊎ ((count ≡ floor + 1) × (room ≡ floor + 1))
floor_or_more floor room count narrow above below = elim (cases_eq count floor) [
  | inl same ↦ inl same
  | inr other ↦ inr (omega arith, omega arith)
]

-- ---- tickets are given

most-down : (all next weight f r due amount new : ℕ) → r ≤ f + 1 → f ≤ r → new + weight * f ≡ amount → amount ≤ (next + weight) * r → due + new ≡ all + next * f → all ≤ due + next → new ≤ next * r
most-down all next weight f r due amount new narrow ordered less most now late = elim (cases_eq r f) [
  | inl same ↦ rw same (let high : amount ≤ (next + weight) * f = rw same at most in omega arith)
  | inr other ↦
      let one : r ≡ f + 1 = omega arith in
      rw one (omega arith)
]

line-given : (all next weight : ℕ) (arc : Arc) (count due amount new : ℕ) → IsLine all (next + weight) arc count due amount → new + weight * count ≡ amount → all ≤ due + next
    → IsLine all next arc count due new
line-given all next weight arc count due amount new line less late =
    let f : ℕ = arc.floor in
    elim (floor_or_more f arc.room count line.narrow line.above line.below) [
      | inl same ↦
          let taken : new + weight * f ≡ amount = rw same at less in
          let was : due + amount ≡ all + (next + weight) * f = line.down same in
          let low : (next + weight) * f ≤ amount = line.least in
          let now : due + new ≡ all + next * f = omega arith in
          record {
            narrow = line.narrow;
            above = line.above;
            below = line.below;
            least = omega arith;
            most = most-down all next weight f arc.room due amount new line.narrow (let above = line.above in let below = line.below in omega arith) taken line.most now late;
            down = λ here. now;
            up = λ here. absurd (omega arith);
          }
      | inr more ↦
          let taken : new + weight * (f + 1) ≡ amount = rw (more.0) at less in
          let was : due + ((next + weight) * f + (next + weight)) ≡ all + amount = line.up more.0 in
          let high : amount ≤ (next + weight) * (f + 1) = rw (more.1) at line.most in
          record {
            narrow = line.narrow;
            above = line.above;
            below = line.below;
            least = omega arith;
            most = rw (more.1) (omega arith);
            down = λ here. absurd (let up = more.0 in omega arith);
            up = λ here. omega arith;
          }
    ]

-- the bounds hold an amount while tickets are given, as long as its count isn't due before
pub line-next : (all left : ℕ) (arc : Arc) (count due amount weight next new : ℕ) → IsLine all left arc count due amount → next + weight ≡ left → new + weight * count ≡ amount → all ≤ due + next
    → IsLine all next arc count due new
line-next all left arc count due amount weight next new line tickets less late =
    line-given all next weight arc count due amount new (subst (λ n. IsLine all n arc count due amount) (sym tickets) line) less late

-- ---- a count is turned

pub line-turned : (all left : ℕ) (arc : Arc) (count due amount other again : ℕ) → IsLine all left arc count due amount → arc.floor ≤ other → other ≤ arc.room
    → (other ≡ count + 1) ⊎ (count ≡ other + 1) → again + due + left ≡ all + all → IsLine all left arc other again amount
line-turned all left arc count due amount other again line above below (inl up) dues =
    let was : count ≡ arc.floor = (let narrow = line.narrow in let low = line.above in omega arith) in
    let had = line.down was in
    record {
      narrow = line.narrow;
      above = above;
      below = below;
      least = line.least;
      most = line.most;
      down = λ here. absurd (omega arith);
      up = λ here. omega arith;
    }
line-turned all left arc count due amount other again line above below (inr down) dues =
    let was : count ≡ arc.floor + 1 = (let narrow = line.narrow in let high = line.below in omega arith) in
    let had = line.up was in
    record {
      narrow = line.narrow;
      above = above;
      below = below;
      least = line.least;
      most = line.most;
      down = λ here. omega arith;
      up = λ here. absurd (omega arith);
    }

-- it is due between the ticket that is used and all
pub line-dues : (all left : ℕ) (arc : Arc) (count due amount : ℕ) → IsLine all left arc count due amount → (due ≤ all) × (all ≤ due + left)
line-dues all left arc count due amount line = elim (floor_or_more arc.floor arc.room count line.narrow line.above line.below) [
  | inl same ↦ elim (cases_eq arc.room arc.floor) [
    | inl whole ↦
        let had = line.down same in
        let least = line.least in
        let most : amount ≤ left * arc.floor = rw whole at line.most in
        (omega arith, omega arith)
    | inr wide ↦
        let had = line.down same in
        let least = line.least in
        let one : arc.room ≡ arc.floor + 1 = (let narrow = line.narrow in let low = line.above in let high = line.below in omega arith) in
        let most : amount ≤ left * (arc.floor + 1) = rw one at line.most in
        (omega arith, omega arith)
  ]
  | inr more ↦
      let had = line.up more.0 in
      let least = line.least in
      let most : amount ≤ left * (arc.floor + 1) = rw (more.1) at line.most in
      (omega arith, omega arith)
]

-- ---- a count is settled

pub line-whole : (all left : ℕ) (arc : Arc) (count due amount : ℕ) → IsLine all left arc count due amount → due ≡ all → amount ≡ left * count
line-whole all left arc count due amount line last = elim (floor_or_more arc.floor arc.room count line.narrow line.above line.below) [
  | inl same ↦ let had = line.down same in rw same (omega arith)
  | inr more ↦ let had = line.up more.0 in rw (more.0) (omega arith)
]

pub line-settled : (all left : ℕ) (arc held : Arc) (count due amount : ℕ) → IsLine all left arc count due amount → due ≡ all → held.floor ≡ count → held.room ≡ count → IsLine all left held count due amount
line-settled all left arc held count due amount line last floor room =
    let whole = line-whole all left arc count due amount line last in
    record {
      narrow = omega arith;
      above = omega arith;
      below = omega arith;
      least = rw floor (omega arith);
      most = rw room (omega arith);
      down = λ here. rw floor (omega arith);
      up = λ here. absurd (omega arith);
    }

-- a count that is due now has a choice, and the amount is what all tickets that are left take of the other count
pub due-choice : (all left : ℕ) (arc : Arc) (count due amount : ℕ) → IsLine all left arc count due amount → 1 ≤ left → due + left ≡ all → arc.room ≡ arc.floor + 1
due-choice all left arc count due amount line some now = elim (cases_eq arc.room arc.floor) [
  | inl whole ↦
      let same : count ≡ arc.floor = (let low = line.above in let high = line.below in omega arith) in
      let had = line.down same in
      let most : amount ≤ left * arc.floor = rw whole at line.most in
      absurd (omega arith)
  | inr wide ↦ (let narrow = line.narrow in let low = line.above in let high = line.below in omega arith)
]

pub due-other : (all left : ℕ) (arc : Arc) (count due amount other : ℕ) → IsLine all left arc count due amount → 1 ≤ left → due + left ≡ all → other + count ≡ arc.floor + arc.room → amount ≡ left * other
due-other all left arc count due amount other line some now sum =
    let wide = due-choice all left arc count due amount line some now in
    elim (floor_or_more arc.floor arc.room count line.narrow line.above line.below) [
      | inl same ↦
          let had = line.down same in
          let is : other ≡ arc.floor + 1 = omega arith in
          rw is (omega arith)
      | inr more ↦
          let had = line.up more.0 in
          let is : other ≡ arc.floor = (let up = more.0 in omega arith) in
          rw is (omega arith)
    ]

-- ---- between pieces

-- the bounds are the rounded amount, and the count may stand until it is due
pub record IsRoundedLine (all left : ℕ) (arc : Arc) (count due amount : ℕ) : Type 0 where
  pub floor : (rounded left amount).floor ≡ arc.floor
  pub room : (rounded left amount).room ≡ arc.room
  pub limits : due + left ≡ all + limit left amount count

limit-of : (left amount count q over : ℕ) → amount / left ≡ q → amount % left ≡ over → limit left amount count ≡ (if over == 0 then left else (if count == q then (left - over) else over))
limit-of left amount count q over quotient rest = rw (← quotient, ← rest) refl

line-limit : (all left : ℕ) (arc : Arc) (count due amount over : ℕ) → amount / left ≡ arc.floor → amount % left ≡ over → arc.room ≡ arc.floor + min 1 over
    → due + left ≡ all + (if over == 0 then left else (if count == arc.floor then (left - over) else over))
    → IsRoundedLine all left arc count due amount
line-limit all left arc count due amount over floor rest room limits =
    let is = limit-of left amount count arc.floor over floor rest in
    record {
      floor = floor;
      room = omega (arith, floor, rest, room);
      limits = rw is limits;
    }

pub line-rounded : (all left : ℕ) (arc : Arc) (count due amount : ℕ) → IsLine all left arc count due amount → 1 ≤ left → IsTight all left arc due → IsRoundedLine all left arc count due amount
line-rounded all left arc count due amount line some (inl whole) =
    let same : count ≡ arc.floor = (let low = line.above in let high = line.below in omega arith) in
    let had = line.down same in
    let least = line.least in
    let most : amount ≤ left * arc.floor = rw whole at line.most in
    let are = parts amount left arc.floor 0 (omega arith) some in
    line-limit all left arc count due amount 0 are.0 are.1 (omega arith) (omega arith)
line-rounded all left arc count due amount line some (inr between) =
    elim (floor_or_more arc.floor arc.room count line.narrow line.above line.below) [
      | inl same ↦
          let had = line.down same in
          let over : ℕ = all - due in
          let are = parts amount left arc.floor over (let late = between.1 in omega arith) (let early = between.0 in omega arith) in
          let not_none = ne_eqb over 0 (λ none. absurd (let late = between.1 in omega arith)) in
          line-limit all left arc count due amount over are.0 are.1
          (elim (cases_eq arc.room arc.floor) [
            | inl none ↦ absurd (let most : amount ≤ left * arc.floor = rw none at line.most in let late = between.1 in omega arith)
            | inr wide ↦ (let narrow = line.narrow in let low = line.above in let high = line.below in let late = between.1 in omega arith)
          ])
          (rw (not_none, eq-eqb count arc.floor same) (let early = between.0 in let late = between.1 in omega arith))
      | inr more ↦
          let had = line.up more.0 in
          let over : ℕ = (due + left) - all in
          let are = parts amount left arc.floor over (let early = between.0 in omega arith) (let late = between.1 in let early = between.0 in omega arith) in
          let not_none = ne_eqb over 0 (λ none. absurd (let early = between.0 in omega arith)) in
          line-limit all left arc count due amount over are.0 are.1
          (let wide = more.1 in let early = between.0 in omega arith)
          (rw (not_none, ne_eqb count arc.floor (λ low. absurd (let up = more.0 in omega arith))) (let early = between.0 in omega arith))
    ]

-- ---- while all tickets are left

first-by : (all : ℕ) (arc : Arc) (count due amount over : ℕ) → all * arc.floor + over ≡ amount → over < all → arc.room ≡ arc.floor + min 1 over → arc.floor ≤ count → count ≤ arc.room
    → due ≡ (if over == 0 then all else (if count == arc.floor then (all - over) else over)) → IsLine all all arc count due amount × IsTight all all arc due
first-by all arc count due amount zero whole below room low high is = (
  record {
    narrow = omega arith;
    above = low;
    below = high;
    least = omega arith;
    most = let same : arc.room ≡ arc.floor = omega arith in rw same (omega arith);
    down = λ here. omega arith;
    up = λ here. absurd (omega arith);
  },
  inl (omega arith),
)
first-by all arc count due amount (suc o) whole below room low high is =
    let some = ne_eqb (suc o) 0 (λ none. absurd (omega arith)) in
    let wide : arc.room ≡ arc.floor + 1 = omega arith in
    let most : amount ≤ all * arc.room = rw wide (omega arith) in
    elim (cases_eq count arc.floor) [
      | inl same ↦
          let due_is : due ≡ all - suc o = rw (some, eq-eqb count arc.floor same) at is in (
            record {
              narrow = omega arith;
              above = low;
              below = high;
              least = omega arith;
              most = most;
              down = λ here. omega arith;
              up = λ here. absurd (omega arith);
            },
            inr (omega arith, omega arith),
          )
      | inr other ↦
          let due_is : due ≡ suc o = rw (some, ne_eqb count arc.floor other) at is in (
            record {
              narrow = omega arith;
              above = low;
              below = high;
              least = omega arith;
              most = most;
              down = λ here. absurd (other here);
              up = λ here. omega arith;
            },
            inr (omega arith, omega arith),
          )
    ]

pub line-first : (all : ℕ) (arc : Arc) (count due amount : ℕ) → 1 ≤ all → arc.floor ≡ (rounded all amount).floor → arc.room ≡ (rounded all amount).room → arc.floor ≤ count → count ≤ arc.room
    → due ≡ limit all amount count → IsLine all all arc count due amount × IsTight all all arc due
line-first all arc count due amount some floor room low high is =
    let below : amount % all < all = omega arith in
    let whole : all * arc.floor + amount % all ≡ amount = rw floor (div-add-mod amount all) in
    first-by all arc count due amount (amount % all) whole below (rw floor room) low high (rw floor is)
