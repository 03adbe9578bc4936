-- Nothing fits where more has to pass a cut than may: the bound of scores 0 and prices 1, 0 and -1 by the marks is what
-- may pass less what has to.
use Rattle.std.proofs.Common.{◌≡◌, ℕ, ◌*◌, ◌<◌, ◌≤◌, Bool, true, false, ◌&&◌, not, List, [], ◌∷◌, length, refl, ◌∙◌, ap, arith}
use Rattle.std.proofs.lemmas.Int.{ints, clamps}
use Rattle.std.proofs.Math.IntN.{zero-*ℤ, *ℤ_comm}
use Rattle.std.specs.Prelude.{ℤ, pos, negsuc, neg_ℤ, ◌+ℤ◌, ◌-ℤ◌, ◌*ℤ◌, ◌≤ℤ◌, Option, Some, None}
use Rattle.std.specs.Int.{int_max}
use Rattle.std.specs.Option.{option_map_or}
use Rattle.match_rules.specs.declared.lottery.Piece.{Piece}
use Rattle.match_rules.specs.declared.answer.Cut.{Cut}
use Rattle.match_rules.specs.declared.answer.Side.{Side}
use Rattle.match_rules.specs.declared.answer.Side.TheVariants.{Into, OutOf}
use Rattle.match_rules.specs.declared.answer.Sieve.{Sieve}
use Rattle.match_rules.specs.Rules.{RulesValue, AreRules, paper_at, reviewer_at, pair_at}
use Rattle.match_rules.specs.Groups.{group_count, group_of, paper_of_group}
use Rattle.match_rules.specs.Assignments.{Fits, tickets, keeps}
use Rattle.match_rules.specs.Evidence.{most_at, marks, tail_marked, head_marked, enters, leaves, leaves_group, enters_group, need_by, room_by, Violated, floors_where, caps_where}
use Rattle.match_rules.specs.Sums.{sum_below, count_below, when, int_when}
use Rattle.dual_check.proofs.Duality.{Values, total_by, rest_by, papers_by, groups_by, reviewers_by, parts_by, pair_by, pairs_by, bound_by, no_lottery_beats_bound_by}
use Rattle.match_rules.proofs.Exchange.{sum_of}
use Rattle.match_rules.proofs.GroupLaws.{group_of_paper}
use Rattle.match_rules.proofs.Ints.{times_sum, times_neg, times_zero, times_more}
use Rattle.match_rules.proofs.SumLaws.{sum_below-same, sum_below-sum, sum_below-neg, sum_below-pos}

-- 1 where the test holds
abbrev unit : Bool → ℤ
unit b = int_when b (pos 1)

-- no scores, and the prices of a cut by its side
abbrev values_by : Side → RulesValue → Cut → Values
values_by Into rules cut = record {
  score = λ e. pos 0;
  paper = λ p. neg_ℤ (unit (marks cut.papers p));
  group = λ g. unit (marks cut.papers (paper_of_group rules g)) -ℤ unit (marks cut.groups g);
  reviewer = λ r. unit (marks cut.reviewers r);
}
values_by OutOf rules cut = record {
  score = λ e. pos 0;
  paper = λ p. unit (marks cut.papers p);
  group = λ g. unit (marks cut.groups g) -ℤ unit (marks cut.papers (paper_of_group rules g));
  reviewer = λ r. neg_ℤ (unit (marks cut.reviewers r));
}

-- ---- one member of each kind

times_unit : (n : ℕ) (b : Bool) → pos n *ℤ unit b ≡ pos (when b n)
times_unit n true = omega (arith, ints)
times_unit n false = times_zero n

times_minus : (n : ℕ) (b : Bool) → pos n *ℤ neg_ℤ (unit b) ≡ neg_ℤ (pos (when b n))
times_minus n b = times_neg n (unit b) ∙ ap neg_ℤ (times_unit n b)

above_left : (a b : Bool) → int_max (pos 0) (unit a -ℤ unit b) ≡ unit (not b && a)
above_left true true = refl
above_left true false = refl
above_left false true = refl
above_left false false = refl

above_right : (a b : Bool) → int_max (pos 0) (unit b -ℤ unit a) ≡ unit (b && not a)
above_right true true = refl
above_right true false = refl
above_right false true = refl
above_right false false = refl

most_plus : (least greatest : ℕ) → least ≤ greatest → most_at least greatest (pos 1) ≡ pos greatest
most_plus least greatest h =
    let a = times_unit least true in
    let b = times_unit greatest true in
    omega (arith, ints, clamps)

most_minus : (least greatest : ℕ) → least ≤ greatest → most_at least greatest (negsuc 0) ≡ neg_ℤ (pos least)
most_minus least greatest h =
    let a = times_minus least true in
    let b = times_minus greatest true in
    omega (arith, ints, clamps)

most_zero : (least greatest : ℕ) → most_at least greatest (pos 0) ≡ pos 0
most_zero least greatest =
    let a = times_zero least in
    let b = times_zero greatest in
    omega (arith, ints, clamps)

most_unit : (least greatest : ℕ) (b : Bool) → least ≤ greatest → most_at least greatest (unit b) ≡ pos (when b greatest)
most_unit least greatest true h = most_plus least greatest h
most_unit least greatest false h = most_zero least greatest

most_minus_unit : (least greatest : ℕ) (b : Bool) → least ≤ greatest → most_at least greatest (neg_ℤ (unit b)) ≡ neg_ℤ (pos (when b least))
most_minus_unit least greatest true h = most_minus least greatest h
most_minus_unit least greatest false h = most_zero least greatest

-- a kept pair gives its cap one way and takes its floor the other way
pass_left : (floor cap : ℕ) (kept tail head : Bool) → floor ≤ cap
    → int_when kept (most_at floor cap (unit tail -ℤ unit head)) ≡ pos (when (kept && (tail && not head)) cap) -ℤ pos (when (kept && (not tail && head)) floor)
pass_left floor cap false tail head h = refl
pass_left floor cap true true true h = most_zero floor cap
pass_left floor cap true true false h = let m = most_plus floor cap h in omega (arith, ints)
pass_left floor cap true false true h = let m = most_minus floor cap h in omega (arith, ints)
pass_left floor cap true false false h = most_zero floor cap

pass_right : (floor cap : ℕ) (kept tail head : Bool) → floor ≤ cap
    → int_when kept (most_at floor cap (unit head -ℤ unit tail)) ≡ pos (when (kept && (not tail && head)) cap) -ℤ pos (when (kept && (tail && not head)) floor)
pass_right floor cap false tail head h = refl
pass_right floor cap true true true h = most_zero floor cap
pass_right floor cap true true false h = let m = most_minus floor cap h in omega (arith, ints)
pass_right floor cap true false true h = let m = most_plus floor cap h in omega (arith, ints)
pass_right floor cap true false false h = most_zero floor cap

-- the prices of a pair's ends
rest_left : (rules : RulesValue) (cut : Cut) (e : ℕ)
    → rest_by rules (values_by Into rules cut) e ≡ unit (tail_marked rules cut e) -ℤ unit (head_marked rules cut e)
rest_left rules cut e =
    let paper : Bool = marks cut.papers (pair_at rules e).paper in
    let head : ℤ = unit (head_marked rules cut e) in
    let ends : (place : Option ℕ) → ((g : ℕ) → place ≡ Some g → paper_of_group rules g ≡ (pair_at rules e).paper)
    → ((pos 0 -ℤ neg_ℤ (unit paper)) -ℤ option_map_or (λ g. unit (marks cut.papers (paper_of_group rules g)) -ℤ unit (marks cut.groups g)) place (pos 0)) -ℤ head
    ≡ unit (option_map_or (marks cut.groups) place paper) -ℤ head =
    λ place. elim place as (λ place. ((g : ℕ) → place ≡ Some g → paper_of_group rules g ≡ (pair_at rules e).paper)
    → ((pos 0 -ℤ neg_ℤ (unit paper)) -ℤ option_map_or (λ g. unit (marks cut.papers (paper_of_group rules g)) -ℤ unit (marks cut.groups g)) place (pos 0)) -ℤ head
    ≡ unit (option_map_or (marks cut.groups) place paper) -ℤ head) [
      | None ↦ λ same. omega (arith, ints)
      | Some g ↦ λ same. rw (same g refl) (omega (arith, ints))
    ] in
    ends (group_of rules e) (group_of_paper rules e)

rest_right : (rules : RulesValue) (cut : Cut) (e : ℕ)
    → rest_by rules (values_by OutOf rules cut) e ≡ unit (head_marked rules cut e) -ℤ unit (tail_marked rules cut e)
rest_right rules cut e =
    let paper : Bool = marks cut.papers (pair_at rules e).paper in
    let head : ℤ = unit (head_marked rules cut e) in
    let ends : (place : Option ℕ) → ((g : ℕ) → place ≡ Some g → paper_of_group rules g ≡ (pair_at rules e).paper)
    → ((pos 0 -ℤ unit paper) -ℤ option_map_or (λ g. unit (marks cut.groups g) -ℤ unit (marks cut.papers (paper_of_group rules g))) place (pos 0)) -ℤ neg_ℤ head
    ≡ head -ℤ unit (option_map_or (marks cut.groups) place paper) =
    λ place. elim place as (λ place. ((g : ℕ) → place ≡ Some g → paper_of_group rules g ≡ (pair_at rules e).paper)
    → ((pos 0 -ℤ unit paper) -ℤ option_map_or (λ g. unit (marks cut.groups g) -ℤ unit (marks cut.papers (paper_of_group rules g))) place (pos 0)) -ℤ neg_ℤ head
    ≡ head -ℤ unit (option_map_or (marks cut.groups) place paper)) [
      | None ↦ λ same. omega (arith, ints)
      | Some g ↦ λ same. rw (same g refl) (omega (arith, ints))
    ] in
    ends (group_of rules e) (group_of_paper rules e)

-- ---- all members

-- sums of tests
sum_units : (n : ℕ) (amount : ℕ → ℕ) (test : ℕ → Bool) (f : ℕ → ℤ) → ((k : ℕ) → k < n → f k ≡ pos (when (test k) (amount k)))
    → sum_below n f ≡ pos (count_below n (λ k. when (test k) (amount k)))
sum_units n amount test f each =
    sum_below-same n f (λ k. pos (when (test k) (amount k))) each ∙ sum_below-pos n (λ k. when (test k) (amount k))

sum_minus : (n : ℕ) (amount : ℕ → ℕ) (test : ℕ → Bool) (f : ℕ → ℤ) → ((k : ℕ) → k < n → f k ≡ neg_ℤ (pos (when (test k) (amount k))))
    → sum_below n f ≡ neg_ℤ (pos (count_below n (λ k. when (test k) (amount k))))
sum_minus n amount test f each =
    sum_below-same n f (λ k. neg_ℤ (pos (when (test k) (amount k)))) each
    ∙ sum_below-neg n (λ k. pos (when (test k) (amount k)))
    ∙ ap neg_ℤ (sum_below-pos n (λ k. when (test k) (amount k)))

sum_both : (n : ℕ) (more less : ℕ → ℕ) (f : ℕ → ℤ) → ((k : ℕ) → k < n → f k ≡ pos (more k) -ℤ pos (less k))
    → sum_below n f ≡ pos (count_below n more) -ℤ pos (count_below n less)
sum_both n more less f each =
    let split = sum_below-sum n (λ k. pos (more k)) (λ k. neg_ℤ (pos (less k))) in
    let a = sum_below-pos n more in
    let b : sum_below n (λ k. neg_ℤ (pos (less k))) ≡ neg_ℤ (pos (count_below n less)) = sum_below-neg n (λ k. pos (less k)) ∙ ap neg_ℤ (sum_below-pos n less) in
    let opened : sum_below n f ≡ sum_below n (λ k. pos (more k) +ℤ neg_ℤ (pos (less k))) =
    sum_below-same n f (λ k. pos (more k) +ℤ neg_ℤ (pos (less k))) (λ k h. let e = each k h in omega (arith, ints)) in
    omega (arith, ints)

-- the bound of a cut into the marked nodes is its room less its need
bound_left : (rules : RulesValue) (sieve : Sieve) (cut : Cut) → AreRules rules
    → bound_by rules sieve (values_by Into rules cut) ≡ pos (room_by Into rules sieve cut) -ℤ pos (need_by Into rules sieve cut)
bound_left rules sieve cut are =
    let v : Values = values_by Into rules cut in
    let d : ℕ = count_below (length rules.papers) (λ p. when (marks cut.papers p) (paper_at rules p).demand) in
    let l : ℕ = count_below (group_count rules) (λ g. when (leaves_group rules cut g) rules.limit) in
    let m : ℕ = count_below (length rules.reviewers) (λ r. when (marks cut.reviewers r) (reviewer_at rules r).greatest) in
    let papers : papers_by rules v ≡ neg_ℤ (pos d) =
    sum_minus (length rules.papers) (λ p. (paper_at rules p).demand) (marks cut.papers) (λ p. pos (paper_at rules p).demand *ℤ v.paper p)
    (λ p h. times_minus (paper_at rules p).demand (marks cut.papers p)) in
    let of_groups : groups_by rules v ≡ pos l =
    sum_units (group_count rules) (λ g. rules.limit) (leaves_group rules cut) (λ g. pos rules.limit *ℤ int_max (pos 0) (v.group g))
    (λ g h. ap (λ z. pos rules.limit *ℤ z) (above_left (marks cut.papers (paper_of_group rules g)) (marks cut.groups g)) ∙ times_unit rules.limit (leaves_group rules cut g)) in
    let reviewers : reviewers_by rules v ≡ pos m =
    sum_units (length rules.reviewers) (λ r. (reviewer_at rules r).greatest) (marks cut.reviewers) (λ r. most_at (reviewer_at rules r).least (reviewer_at rules r).greatest (v.reviewer r))
    (λ r h. most_unit (reviewer_at rules r).least (reviewer_at rules r).greatest (marks cut.reviewers r) (are.reviewers.loads r h).0) in
    let pairs : pairs_by rules sieve v ≡ pos (caps_where rules (leaves rules sieve cut)) -ℤ pos (floors_where rules (enters rules sieve cut)) =
    sum_both (length rules.pairs) (λ e. when (leaves rules sieve cut e) (pair_at rules e).cap) (λ e. when (enters rules sieve cut e) (pair_at rules e).floor) (pair_by rules sieve v)
    (λ e h. ap (λ z. int_when (keeps rules sieve e) (most_at (pair_at rules e).floor (pair_at rules e).cap z)) (rest_left rules cut e)
    ∙ pass_left (pair_at rules e).floor (pair_at rules e).cap (keeps rules sieve e) (tail_marked rules cut e) (head_marked rules cut e) (are.pairs.each e h).ordered) in
    let parts : parts_by rules v ≡ (neg_ℤ (pos d) +ℤ pos l) +ℤ pos m = cc in
    let scaled : pos rules.tickets *ℤ parts_by rules v ≡ (neg_ℤ (pos (rules.tickets * d)) +ℤ pos (rules.tickets * l)) +ℤ pos (rules.tickets * m) =
    let a = times_sum rules.tickets (neg_ℤ (pos d) +ℤ pos l) (pos m) in
    let b = times_sum rules.tickets (neg_ℤ (pos d)) (pos l) in
    let c = times_neg rules.tickets (pos d) in
    rw parts (omega (arith, ints)) in
    omega (arith, ints)

-- the bound of a cut out of the marked nodes is its room less its need
bound_right : (rules : RulesValue) (sieve : Sieve) (cut : Cut) → AreRules rules
    → bound_by rules sieve (values_by OutOf rules cut) ≡ pos (room_by OutOf rules sieve cut) -ℤ pos (need_by OutOf rules sieve cut)
bound_right rules sieve cut are =
    let v : Values = values_by OutOf rules cut in
    let d : ℕ = count_below (length rules.papers) (λ p. when (marks cut.papers p) (paper_at rules p).demand) in
    let l : ℕ = count_below (group_count rules) (λ g. when (enters_group rules cut g) rules.limit) in
    let m : ℕ = count_below (length rules.reviewers) (λ r. when (marks cut.reviewers r) (reviewer_at rules r).least) in
    let papers : papers_by rules v ≡ pos d =
    sum_units (length rules.papers) (λ p. (paper_at rules p).demand) (marks cut.papers) (λ p. pos (paper_at rules p).demand *ℤ v.paper p)
    (λ p h. times_unit (paper_at rules p).demand (marks cut.papers p)) in
    let of_groups : groups_by rules v ≡ pos l =
    sum_units (group_count rules) (λ g. rules.limit) (enters_group rules cut) (λ g. pos rules.limit *ℤ int_max (pos 0) (v.group g))
    (λ g h. ap (λ z. pos rules.limit *ℤ z) (above_right (marks cut.papers (paper_of_group rules g)) (marks cut.groups g)) ∙ times_unit rules.limit (enters_group rules cut g)) in
    let reviewers : reviewers_by rules v ≡ neg_ℤ (pos m) =
    sum_minus (length rules.reviewers) (λ r. (reviewer_at rules r).least) (marks cut.reviewers) (λ r. most_at (reviewer_at rules r).least (reviewer_at rules r).greatest (v.reviewer r))
    (λ r h. most_minus_unit (reviewer_at rules r).least (reviewer_at rules r).greatest (marks cut.reviewers r) (are.reviewers.loads r h).0) in
    let pairs : pairs_by rules sieve v ≡ pos (caps_where rules (enters rules sieve cut)) -ℤ pos (floors_where rules (leaves rules sieve cut)) =
    sum_both (length rules.pairs) (λ e. when (enters rules sieve cut e) (pair_at rules e).cap) (λ e. when (leaves rules sieve cut e) (pair_at rules e).floor) (pair_by rules sieve v)
    (λ e h. ap (λ z. int_when (keeps rules sieve e) (most_at (pair_at rules e).floor (pair_at rules e).cap z)) (rest_right rules cut e)
    ∙ pass_right (pair_at rules e).floor (pair_at rules e).cap (keeps rules sieve e) (tail_marked rules cut e) (head_marked rules cut e) (are.pairs.each e h).ordered) in
    let parts : parts_by rules v ≡ (pos d +ℤ pos l) +ℤ neg_ℤ (pos m) = cc in
    let scaled : pos rules.tickets *ℤ parts_by rules v ≡ (pos (rules.tickets * d) +ℤ pos (rules.tickets * l)) +ℤ neg_ℤ (pos (rules.tickets * m)) =
    let a = times_sum rules.tickets (pos d +ℤ pos l) (neg_ℤ (pos m)) in
    let b = times_sum rules.tickets (pos d) (pos l) in
    let c = times_neg rules.tickets (pos m) in
    rw parts (omega (arith, ints)) in
    omega (arith, ints)

bound_cut : (side : Side) (rules : RulesValue) (sieve : Sieve) (cut : Cut) → AreRules rules
    → bound_by rules sieve (values_by side rules cut) ≡ pos (room_by side rules sieve cut) -ℤ pos (need_by side rules sieve cut)
bound_cut Into rules sieve cut are = bound_left rules sieve cut are
bound_cut OutOf rules sieve cut are = bound_right rules sieve cut are

-- ---- the law

sum_of-zero : (places : List ℕ) → sum_of (λ e. pos 0) places ≡ pos 0
sum_of-zero [] = refl
sum_of-zero (e ∷ places) = let others = sum_of-zero places in omega (arith, ints)

total-zero : (v : Values) (lottery : List Piece) → ((places : List ℕ) → sum_of v.score places ≡ pos 0) → total_by v lottery ≡ pos 0
total-zero v [] none = refl
total-zero v (piece ∷ lottery) none =
    let others = total-zero v lottery none in
    rw none (rw others (omega (arith, ints)))

no_scores : (side : Side) (rules : RulesValue) (cut : Cut) (places : List ℕ) → sum_of (values_by side rules cut).score places ≡ pos 0
no_scores Into rules cut places = sum_of-zero places
no_scores OutOf rules cut places = sum_of-zero places

-- a bound below 0 leaves no tickets
no_tickets : (zeros bound : ℤ) (all some : ℕ) → zeros ≡ pos 0 → bound ≤ℤ negsuc 0 → 1 ≤ some → (zeros *ℤ pos all) ≤ℤ (bound *ℤ pos some) → ⊥
no_tickets zeros bound all some none below enough law =
    let left : zeros *ℤ pos all ≡ pos 0 = rw none (zero-*ℤ (pos all)) in
    let turn = *ℤ_comm bound (pos some) in
    let fall = times_more some bound (negsuc 0) below in
    let minus = times_minus some true in
    omega (arith, ints)

pub none_fits_at_violated : (rules : RulesValue) (sieve : Sieve) (cut : Cut) → AreRules rules → Violated rules sieve cut
    → (lottery : List Piece) → ¬ (Fits rules sieve lottery)
none_fits_at_violated rules sieve cut are violated lottery fits =
    let v : Values = values_by cut.side rules cut in
    let bound = bound_cut cut.side rules sieve cut are in
    let below : bound_by rules sieve v ≤ℤ negsuc 0 = omega (arith, ints) in
    no_tickets (total_by v lottery) (bound_by rules sieve v) rules.tickets (tickets lottery)
    (total-zero v lottery (no_scores cut.side rules cut)) below fits.some_ticket
    (no_lottery_beats_bound_by rules sieve v lottery are fits)
