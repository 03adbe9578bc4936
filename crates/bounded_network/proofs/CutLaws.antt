-- The cut of marks has to pass what has to enter them, and may pass what can leave them.
use Rattle.std.proofs.Common.{◌≡◌, ℕ, zero, suc, ◌+◌, ◌*◌, ◌<◌, ◌≤◌, Bool, true, false, not, ◌&&◌, ◌||◌, List, [], ◌∷◌, ◌++◌, length, Option, Some, None, refl, sym, ap, ◌∙◌, arith, inl, inr}
use Rattle.std.specs.Prelude.{◌==◌, slice_index, if◌then◌else◌}
use Rattle.std.specs.List.{All}
use Rattle.std.specs.Option.{option_map_or}
use Rattle.std.proofs.lemmas.Bool.{eq-eqb, ne_eqb, cases_eq, cases_lt}
use Rattle.std.proofs.lemmas.List.{length-append, get_or-append-add, get_or_append_left}
use Rattle.std.proofs.lemmas.List.Elements.{All-nil, All-push}
use Rattle.std.proofs.lemmas.List.Folds.{list_any-append}
use Rattle.match_rules.specs.declared.answer.Cut.{Cut}
use Rattle.match_rules.specs.declared.answer.Side.TheVariants.{Into, OutOf}
use Rattle.match_rules.specs.declared.answer.Sieve.{Sieve}
use Rattle.match_rules.specs.Rules.{RulesValue, AreRules, paper_at, reviewer_at, pair_at}
use Rattle.match_rules.specs.Pieces.{DoAscend}
use Rattle.match_rules.specs.Groups.{group_count, group_of, paper_of_group}
use Rattle.match_rules.specs.Assignments.{keeps, cap_under}
use Rattle.match_rules.specs.Answers.{AreMarks, CutMatches}
use Rattle.match_rules.specs.Evidence.{marks, tail_marked, head_marked, leaves_group, enters_group, floors_where, caps_where, need_by, room_by, need, room, Violated}
use Rattle.match_rules.specs.Sums.{count_below, when}
use Rattle.match_rules.proofs.GroupLaws.{group_of_below}
use Rattle.bounded_network.specs.declared.network.Arc.{Arc}
use Rattle.bounded_network.specs.Network.{AreViolated, no_arc, is_marked, floors_into, rooms_out_of}
use Rattle.bounded_network.specs.Spans.{ticket_spans}
use Rattle.bounded_network.specs.Compile.{network_of, hub, group_node, reviewer_node, tail_of}
use Rattle.bounded_network.specs.Back.{places_where, is_apart, cut_in}
use Rattle.bounded_network.proofs.Sums.{count_below-equal}
use Rattle.bounded_network.proofs.Counts.{count_below-zero, when-zero}
use Rattle.bounded_network.proofs.Parts.{count-joined}
use Rattle.bounded_network.proofs.Compiled.{arc_parts}
use Rattle.bounded_network.proofs.Nodes.{group-paper-below}
use Rattle.bounded_network.proofs.Small.{floor-under}

-- ---- places with a test

-- a place at or behind the count isn't among them
places-past : (n k : ℕ) (test : ℕ → Bool) → n ≤ k → marks (places_where n test) k ≡ false
places-past zero k test le = refl
places-past (suc n) k test le = by (test n) (places-past n k test (omega arith)) (ne_eqb n k (λ e. absurd (omega arith)))
  where
    by : (b : Bool) → marks (places_where n test) k ≡ false → (n == k) ≡ false → marks (if b then places_where n test ++ (n ∷ []) else places_where n test) k ≡ false
    by true before other = list_any-append (λ place. place == k) (places_where n test) (n ∷ []) ∙ rw (before, other) refl
    by false before other = before

-- each place below the count is among them exactly where the test holds
pub places-marked : (n k : ℕ) (test : ℕ → Bool) → k < n → marks (places_where n test) k ≡ test k
places-marked zero k test lt = absurd (omega arith)
places-marked (suc n) k test lt = elim (cases_eq k n) [
  | inl e ↦
      let last : marks (places_where n test) n ≡ false = places-past n n test (omega arith) in
      let by : (b : Bool) → marks (if b then places_where n test ++ (n ∷ []) else places_where n test) n ≡ b =
      λ b. elim b as (λ b. marks (if b then places_where n test ++ (n ∷ []) else places_where n test) n ≡ b) [
        | true ↦ list_any-append (λ place. place == n) (places_where n test) (n ∷ []) ∙ rw (last, eq-eqb n n refl) refl
        | false ↦ last
      ] in
      rw e (by (test n))
  | inr ne ↦
      let before : marks (places_where n test) k ≡ test k = places-marked n k test (omega arith) in
      let other : (n == k) ≡ false = ne_eqb n k (λ e. ne (sym e)) in
      let or_false : (b : Bool) → (b || false) ≡ b = λ b. elim b as (λ b. (b || false) ≡ b) [ true ↦ refl | false ↦ refl ] in
      let by : (b : Bool) → marks (if b then places_where n test ++ (n ∷ []) else places_where n test) k ≡ test k =
      λ b. elim b as (λ b. marks (if b then places_where n test ++ (n ∷ []) else places_where n test) k ≡ test k) [
        | true ↦ list_any-append (λ place. place == k) (places_where n test) (n ∷ []) ∙ rw (before, other) (or_false (test k))
        | false ↦ before
      ] in
      by (test n)
]

places-below : (n m : ℕ) (test : ℕ → Bool) → n ≤ m → All (λ place. place < m) (places_where n test)
places-below zero m test le = All-nil (λ place. place < m)
places-below (suc n) m test le = by (test n) (places-below n m test (omega arith))
  where
    by : (b : Bool) → All (λ place. place < m) (places_where n test) → All (λ place. place < m) (if b then places_where n test ++ (n ∷ []) else places_where n test)
    by true before = All-push (λ place. place < m) (places_where n test) n before (omega arith)
    by false before = before

-- each entry is below the count
entry-below : (n i : ℕ) (test : ℕ → Bool) → i < length (places_where n test) → slice_index (places_where n test) i < n
entry-below zero i test lt = absurd (omega arith)
entry-below (suc n) i test lt = by (test n) (λ h. entry-below n i test h) lt
  where
    by : (b : Bool) → (i < length (places_where n test) → slice_index (places_where n test) i < n) → i < length (if b then places_where n test ++ (n ∷ []) else places_where n test) → slice_index (if b then places_where n test ++ (n ∷ []) else places_where n test) i < suc n
    by false before h = omega (arith, before h)
    by true before h = elim (cases_lt i (length (places_where n test))) [
      | inl below ↦ rw (get_or_append_left (places_where n test) (n ∷ []) 0 i below) (omega (arith, before below))
      | inr past ↦
          let e : length (places_where n test) + 0 ≡ i = omega (arith, length-append (places_where n test) (n ∷ [])) in
          let at = get_or-append-add (places_where n test) (n ∷ []) 0 0 in
          let here : slice_index (places_where n test ++ (n ∷ [])) i ≡ n = rw e at at in
          rw here (omega arith)
    ]

places-ascend : (n : ℕ) (test : ℕ → Bool) → DoAscend (places_where n test)
places-ascend zero test i lt = absurd (omega arith)
places-ascend (suc n) test i lt = by (test n) (places-ascend n test i) lt
  where
    by : (b : Bool) → (i + 1 < length (places_where n test) → slice_index (places_where n test) i < slice_index (places_where n test) (i + 1)) → i + 1 < length (if b then places_where n test ++ (n ∷ []) else places_where n test)
        → slice_index (if b then places_where n test ++ (n ∷ []) else places_where n test) i < slice_index (if b then places_where n test ++ (n ∷ []) else places_where n test) (i + 1)
    by false before h = before h
    by true before h =
        let xs : List ℕ = places_where n test in
        let long = length-append xs (n ∷ []) in
        let first : i < length xs = omega (arith, long) in
        let one = get_or_append_left xs (n ∷ []) 0 i first in
        elim (cases_lt (i + 1) (length xs)) [
          | inl below ↦
              let two = get_or_append_left xs (n ∷ []) 0 (i + 1) below in
              rw (one, two) (before below)
          | inr past ↦
              let e : length xs + 0 ≡ i + 1 = omega (arith, long) in
              let at = get_or-append-add xs (n ∷ []) 0 0 in
              let here : slice_index (xs ++ (n ∷ [])) (i + 1) ≡ n = rw e at at in
              rw (one, here) (entry-below n i test first)
        ]

pub places-are_marks : (n : ℕ) (test : ℕ → Bool) → AreMarks n (places_where n test)
places-are_marks n test = (places-below n n test (omega arith), places-ascend n test)

pub cut-matches : (rules : RulesValue) (marked : List Bool) → CutMatches rules (cut_in rules marked)
cut-matches rules marked = record {
  papers = places-are_marks (length rules.papers) (is_apart rules marked);
  of_groups = places-are_marks (group_count rules) (λ g. is_apart rules marked (group_node rules g));
  reviewers = places-are_marks (length rules.reviewers) (λ r. is_apart rules marked (reviewer_node rules r));
}

-- ---- what the cut marks

paper-marked : (rules : RulesValue) (marked : List Bool) (p : ℕ) → p < length rules.papers → marks (cut_in rules marked).papers p ≡ is_apart rules marked p
paper-marked rules marked p lt = places-marked (length rules.papers) p (is_apart rules marked) lt

group-marked : (rules : RulesValue) (marked : List Bool) (g : ℕ) → g < group_count rules → marks (cut_in rules marked).groups g ≡ is_apart rules marked (group_node rules g)
group-marked rules marked g lt = places-marked (group_count rules) g (λ g. is_apart rules marked (group_node rules g)) lt

reviewer-marked : (rules : RulesValue) (marked : List Bool) (r : ℕ) → r < length rules.reviewers → marks (cut_in rules marked).reviewers r ≡ is_apart rules marked (reviewer_node rules r)
reviewer-marked rules marked r lt = places-marked (length rules.reviewers) r (λ r. is_apart rules marked (reviewer_node rules r)) lt

tail-marked : (rules : RulesValue) (marked : List Bool) (e : ℕ) → AreRules rules → e < length rules.pairs → tail_marked rules (cut_in rules marked) e ≡ is_apart rules marked (tail_of rules e)
tail-marked rules marked e are lt = by (group_of rules e) refl
  where
    by : (place : Option ℕ) → group_of rules e ≡ place
        → option_map_or (marks (cut_in rules marked).groups) place (marks (cut_in rules marked).papers (pair_at rules e).paper) ≡ is_apart rules marked (option_map_or (group_node rules) place (pair_at rules e).paper)
    by None is = paper-marked rules marked (pair_at rules e).paper (are.pairs.each e lt).paper
    by (Some g) is = group-marked rules marked g (group_of_below rules e g is)

head-marked : (rules : RulesValue) (marked : List Bool) (e : ℕ) → AreRules rules → e < length rules.pairs → head_marked rules (cut_in rules marked) e ≡ is_apart rules marked (reviewer_node rules (pair_at rules e).reviewer)
head-marked rules marked e are lt = reviewer-marked rules marked (pair_at rules e).reviewer (are.pairs.each e lt).reviewer

-- ---- tests

turned : (t h : Bool) → (not t && h) ≡ (h && not t)
turned true true = refl
turned true false = refl
turned false true = refl
turned false false = refl

twice_right : (t h : Bool) → (not t && not (not h)) ≡ (h && not t)
twice_right true true = refl
twice_right true false = refl
twice_right false true = refl
twice_right false false = refl

twice_left : (t h : Bool) → (not (not t) && not h) ≡ (t && not h)
twice_left true h = refl
twice_left false h = refl

and-true : (b : Bool) → (b && true) ≡ b
and-true true = refl
and-true false = refl

and-false : (b : Bool) → (b && false) ≡ false
and-false true = refl
and-false false = refl

-- an amount that is nothing unless kept
kept-amount : (kept test : Bool) (x : ℕ) → x ≤ when kept x → when (kept && test) x ≡ when test x
kept-amount true test x h = refl
kept-amount false test x h = let none : x ≡ 0 = omega arith in rw none (sym (when-zero test))

kept-room : (kept test : Bool) (x : ℕ) → when (kept && test) x ≡ when test (when kept x)
kept-room true test x = refl
kept-room false test x = sym (when-zero test)

at_most-itself : (kept : Bool) (x y : ℕ) → x ≤ when kept y → x ≤ when kept x
at_most-itself true x y h = omega arith
at_most-itself false x y h = h

times-when : (t : ℕ) (b : Bool) (x : ℕ) → when b (t * x) ≡ t * when b x
times-when t true x = refl
times-when t false x = omega arith

-- the sum of multiples where a test holds
sum-of_times : (t n : ℕ) (one two : ℕ → Bool) (f : ℕ → ℕ) → ((i : ℕ) → i < n → one i ≡ two i)
    → count_below n (λ i. when (one i) (t * f i)) ≡ t * count_below n (λ i. when (two i) (f i))
sum-of_times t zero one two f same = omega arith
sum-of_times t (suc n) one two f same =
    let before = sum-of_times t n one two f (λ i lt. same i (omega arith)) in
    let here : when (one n) (t * f n) ≡ t * when (two n) (f n) = ap (λ b. when b (t * f n)) (same n (omega arith)) ∙ times-when t (two n) (f n) in
    let split : t * (count_below n (λ i. when (two i) (f i)) + when (two n) (f n)) ≡ t * count_below n (λ i. when (two i) (f i)) + t * when (two n) (f n) = omega arith in
    omega arith

nothing-where : (n : ℕ) (test : ℕ → Bool) (f : ℕ → ℕ) → ((i : ℕ) → i < n → test i ≡ false) → count_below n (λ i. when (test i) (f i)) ≡ 0
nothing-where n test f none = count_below-zero n (λ i. when (test i) (f i)) (λ i lt. ap (λ b. when b (f i)) (none i lt))

-- ---- floors into the marks and rooms out of them, part by part

floors-parts : (rules : RulesValue) (sieve : Sieve) (marked : List Bool) →
    floors_into (network_of rules (ticket_spans rules sieve)) marked
    ≡ ((count_below (length rules.pairs) (λ e. when (is_marked marked (reviewer_node rules (pair_at rules e).reviewer) && not (is_marked marked (tail_of rules e))) (pair_at rules e).floor)
    + count_below (length rules.papers) (λ p. when (is_marked marked p && not (is_marked marked (hub rules))) (rules.tickets * (paper_at rules p).demand)))
    + count_below (group_count rules) (λ g. when (is_marked marked (group_node rules g) && not (is_marked marked (paper_of_group rules g))) 0))
    + count_below (length rules.reviewers) (λ r. when (is_marked marked (hub rules) && not (is_marked marked (reviewer_node rules r))) (rules.tickets * (reviewer_at rules r).least))
floors-parts rules sieve marked =
    omega (arith, count-joined (arc_parts rules (ticket_spans rules sieve)) no_arc (λ (arc : Arc) a. when (is_marked marked arc.head && not (is_marked marked arc.tail)) arc.floor) (λ a. a))

rooms-parts : (rules : RulesValue) (sieve : Sieve) (marked : List Bool) →
    rooms_out_of (network_of rules (ticket_spans rules sieve)) marked
    ≡ ((count_below (length rules.pairs) (λ e. when (is_marked marked (tail_of rules e) && not (is_marked marked (reviewer_node rules (pair_at rules e).reviewer))) (cap_under rules sieve e))
    + count_below (length rules.papers) (λ p. when (is_marked marked (hub rules) && not (is_marked marked p)) (rules.tickets * (paper_at rules p).demand)))
    + count_below (group_count rules) (λ g. when (is_marked marked (paper_of_group rules g) && not (is_marked marked (group_node rules g))) (rules.tickets * rules.limit)))
    + count_below (length rules.reviewers) (λ r. when (is_marked marked (reviewer_node rules r) && not (is_marked marked (hub rules))) (rules.tickets * (reviewer_at rules r).greatest))
rooms-parts rules sieve marked =
    omega (arith, count-joined (arc_parts rules (ticket_spans rules sieve)) no_arc (λ (arc : Arc) a. when (is_marked marked arc.tail && not (is_marked marked arc.head)) arc.room) (λ a. a))

-- the kept pairs that pass, by any two tests of the ends that agree with the marks
floors-of_pairs : (rules : RulesValue) (sieve : Sieve) (marked : List Bool) (test : ℕ → Bool) → AreRules rules
    → ((e : ℕ) → e < length rules.pairs → test e ≡ (is_marked marked (reviewer_node rules (pair_at rules e).reviewer) && not (is_marked marked (tail_of rules e))))
    → floors_where rules (λ e. keeps rules sieve e && test e)
    ≡ count_below (length rules.pairs) (λ e. when (is_marked marked (reviewer_node rules (pair_at rules e).reviewer) && not (is_marked marked (tail_of rules e))) (pair_at rules e).floor)
floors-of_pairs rules sieve marked test are same =
    count_below-equal (length rules.pairs) (λ e. when (keeps rules sieve e && test e) (pair_at rules e).floor)
    (λ e. when (is_marked marked (reviewer_node rules (pair_at rules e).reviewer) && not (is_marked marked (tail_of rules e))) (pair_at rules e).floor)
    (λ e lt. kept-amount (keeps rules sieve e) (test e) (pair_at rules e).floor (at_most-itself (keeps rules sieve e) (pair_at rules e).floor (pair_at rules e).cap (floor-under rules sieve e are lt))
    ∙ ap (λ b. when b (pair_at rules e).floor) (same e lt))

caps-of_pairs : (rules : RulesValue) (sieve : Sieve) (marked : List Bool) (test : ℕ → Bool)
    → ((e : ℕ) → e < length rules.pairs → test e ≡ (is_marked marked (tail_of rules e) && not (is_marked marked (reviewer_node rules (pair_at rules e).reviewer))))
    → caps_where rules (λ e. keeps rules sieve e && test e)
    ≡ count_below (length rules.pairs) (λ e. when (is_marked marked (tail_of rules e) && not (is_marked marked (reviewer_node rules (pair_at rules e).reviewer))) (cap_under rules sieve e))
caps-of_pairs rules sieve marked test same =
    count_below-equal (length rules.pairs) (λ e. when (keeps rules sieve e && test e) (pair_at rules e).cap)
    (λ e. when (is_marked marked (tail_of rules e) && not (is_marked marked (reviewer_node rules (pair_at rules e).reviewer))) (cap_under rules sieve e))
    (λ e lt. kept-room (keeps rules sieve e) (test e) (pair_at rules e).cap ∙ ap (λ b. when b (cap_under rules sieve e)) (same e lt))

no-floors : (rules : RulesValue) (marked : List Bool)
    → count_below (group_count rules) (λ g. when (is_marked marked (group_node rules g) && not (is_marked marked (paper_of_group rules g))) 0) ≡ 0
no-floors rules marked =
    count_below-zero (group_count rules) (λ g. when (is_marked marked (group_node rules g) && not (is_marked marked (paper_of_group rules g))) 0)
    (λ g lt. when-zero (is_marked marked (group_node rules g) && not (is_marked marked (paper_of_group rules g))))

-- ---- where the hub isn't marked

apart-is_marked : (rules : RulesValue) (marked : List Bool) (v : ℕ) → is_marked marked (hub rules) ≡ false → is_apart rules marked v ≡ is_marked marked v
apart-is_marked rules marked v h = ap (λ b. if b then not (is_marked marked v) else is_marked marked v) h

apart-is_unmarked : (rules : RulesValue) (marked : List Bool) (v : ℕ) → is_marked marked (hub rules) ≡ true → is_apart rules marked v ≡ not (is_marked marked v)
apart-is_unmarked rules marked v h = ap (λ b. if b then not (is_marked marked v) else is_marked marked v) h

need-into : (rules : RulesValue) (sieve : Sieve) (marked : List Bool) → AreRules rules → is_marked marked (hub rules) ≡ false
    → need_by Into rules sieve (cut_in rules marked) ≡ floors_into (network_of rules (ticket_spans rules sieve)) marked
need-into rules sieve marked are h =
    let cut : Cut = cut_in rules marked in
    let apart : (v : ℕ) → is_apart rules marked v ≡ is_marked marked v = λ v. apart-is_marked rules marked v h in
    let pairs = floors-of_pairs rules sieve marked (λ e. not (tail_marked rules cut e) && head_marked rules cut e) are
    (λ e lt.
    let t : tail_marked rules cut e ≡ is_marked marked (tail_of rules e) = tail-marked rules marked e are lt ∙ apart (tail_of rules e) in
    let d : head_marked rules cut e ≡ is_marked marked (reviewer_node rules (pair_at rules e).reviewer) = head-marked rules marked e are lt ∙ apart (reviewer_node rules (pair_at rules e).reviewer) in
    ap (λ b. not b && head_marked rules cut e) t ∙ ap (λ b. not (is_marked marked (tail_of rules e)) && b) d ∙ turned (is_marked marked (tail_of rules e)) (is_marked marked (reviewer_node rules (pair_at rules e).reviewer))) in
    let papers = sum-of_times rules.tickets (length rules.papers) (λ p. is_marked marked p && not (is_marked marked (hub rules))) (marks cut.papers) (λ p. (paper_at rules p).demand)
    (λ p lt. ap (λ b. is_marked marked p && not b) h ∙ and-true (is_marked marked p) ∙ sym (paper-marked rules marked p lt ∙ apart p)) in
    let reviewers = nothing-where (length rules.reviewers) (λ r. is_marked marked (hub rules) && not (is_marked marked (reviewer_node rules r))) (λ r. rules.tickets * (reviewer_at rules r).least)
    (λ r lt. ap (λ b. b && not (is_marked marked (reviewer_node rules r))) h) in
    omega (arith, floors-parts rules sieve marked, pairs, papers, reviewers, no-floors rules marked)

room-into : (rules : RulesValue) (sieve : Sieve) (marked : List Bool) → AreRules rules → is_marked marked (hub rules) ≡ false
    → room_by Into rules sieve (cut_in rules marked) ≡ rooms_out_of (network_of rules (ticket_spans rules sieve)) marked
room-into rules sieve marked are h =
    let cut : Cut = cut_in rules marked in
    let apart : (v : ℕ) → is_apart rules marked v ≡ is_marked marked v = λ v. apart-is_marked rules marked v h in
    let pairs = caps-of_pairs rules sieve marked (λ e. tail_marked rules cut e && not (head_marked rules cut e))
    (λ e lt.
    let t : tail_marked rules cut e ≡ is_marked marked (tail_of rules e) = tail-marked rules marked e are lt ∙ apart (tail_of rules e) in
    let d : head_marked rules cut e ≡ is_marked marked (reviewer_node rules (pair_at rules e).reviewer) = head-marked rules marked e are lt ∙ apart (reviewer_node rules (pair_at rules e).reviewer) in
    ap (λ b. b && not (head_marked rules cut e)) t ∙ ap (λ b. is_marked marked (tail_of rules e) && not b) d) in
    let papers = nothing-where (length rules.papers) (λ p. is_marked marked (hub rules) && not (is_marked marked p)) (λ p. rules.tickets * (paper_at rules p).demand)
    (λ p lt. ap (λ b. b && not (is_marked marked p)) h) in
    let groups = sum-of_times rules.tickets (group_count rules) (λ g. is_marked marked (paper_of_group rules g) && not (is_marked marked (group_node rules g))) (leaves_group rules cut) (λ g. rules.limit)
    (λ g lt.
    let own : marks cut.groups g ≡ is_marked marked (group_node rules g) = group-marked rules marked g lt ∙ apart (group_node rules g) in
    let paper : marks cut.papers (paper_of_group rules g) ≡ is_marked marked (paper_of_group rules g) = paper-marked rules marked (paper_of_group rules g) (group-paper-below rules g are lt) ∙ apart (paper_of_group rules g) in
    sym (ap (λ b. not b && marks cut.papers (paper_of_group rules g)) own ∙ ap (λ b. not (is_marked marked (group_node rules g)) && b) paper ∙ turned (is_marked marked (group_node rules g)) (is_marked marked (paper_of_group rules g)))) in
    let reviewers = sum-of_times rules.tickets (length rules.reviewers) (λ r. is_marked marked (reviewer_node rules r) && not (is_marked marked (hub rules))) (marks cut.reviewers) (λ r. (reviewer_at rules r).greatest)
    (λ r lt. ap (λ b. is_marked marked (reviewer_node rules r) && not b) h ∙ and-true (is_marked marked (reviewer_node rules r)) ∙ sym (reviewer-marked rules marked r lt ∙ apart (reviewer_node rules r))) in
    omega (arith, rooms-parts rules sieve marked, pairs, papers, groups, reviewers)

-- ---- where the hub is marked

need-out_of : (rules : RulesValue) (sieve : Sieve) (marked : List Bool) → AreRules rules → is_marked marked (hub rules) ≡ true
    → need_by OutOf rules sieve (cut_in rules marked) ≡ floors_into (network_of rules (ticket_spans rules sieve)) marked
need-out_of rules sieve marked are h =
    let cut : Cut = cut_in rules marked in
    let apart : (v : ℕ) → is_apart rules marked v ≡ not (is_marked marked v) = λ v. apart-is_unmarked rules marked v h in
    let pairs = floors-of_pairs rules sieve marked (λ e. tail_marked rules cut e && not (head_marked rules cut e)) are
    (λ e lt.
    let t : tail_marked rules cut e ≡ not (is_marked marked (tail_of rules e)) = tail-marked rules marked e are lt ∙ apart (tail_of rules e) in
    let d : head_marked rules cut e ≡ not (is_marked marked (reviewer_node rules (pair_at rules e).reviewer)) = head-marked rules marked e are lt ∙ apart (reviewer_node rules (pair_at rules e).reviewer) in
    ap (λ b. b && not (head_marked rules cut e)) t ∙ ap (λ b. not (is_marked marked (tail_of rules e)) && not b) d ∙ twice_right (is_marked marked (tail_of rules e)) (is_marked marked (reviewer_node rules (pair_at rules e).reviewer))) in
    let papers = nothing-where (length rules.papers) (λ p. is_marked marked p && not (is_marked marked (hub rules))) (λ p. rules.tickets * (paper_at rules p).demand)
    (λ p lt. ap (λ b. is_marked marked p && not b) h ∙ and-false (is_marked marked p)) in
    let reviewers = sum-of_times rules.tickets (length rules.reviewers) (λ r. is_marked marked (hub rules) && not (is_marked marked (reviewer_node rules r))) (marks cut.reviewers) (λ r. (reviewer_at rules r).least)
    (λ r lt. ap (λ b. b && not (is_marked marked (reviewer_node rules r))) h ∙ sym (reviewer-marked rules marked r lt ∙ apart (reviewer_node rules r))) in
    omega (arith, floors-parts rules sieve marked, pairs, papers, reviewers, no-floors rules marked)

room-out_of : (rules : RulesValue) (sieve : Sieve) (marked : List Bool) → AreRules rules → is_marked marked (hub rules) ≡ true
    → room_by OutOf rules sieve (cut_in rules marked) ≡ rooms_out_of (network_of rules (ticket_spans rules sieve)) marked
room-out_of rules sieve marked are h =
    let cut : Cut = cut_in rules marked in
    let apart : (v : ℕ) → is_apart rules marked v ≡ not (is_marked marked v) = λ v. apart-is_unmarked rules marked v h in
    let pairs = caps-of_pairs rules sieve marked (λ e. not (tail_marked rules cut e) && head_marked rules cut e)
    (λ e lt.
    let t : tail_marked rules cut e ≡ not (is_marked marked (tail_of rules e)) = tail-marked rules marked e are lt ∙ apart (tail_of rules e) in
    let d : head_marked rules cut e ≡ not (is_marked marked (reviewer_node rules (pair_at rules e).reviewer)) = head-marked rules marked e are lt ∙ apart (reviewer_node rules (pair_at rules e).reviewer) in
    ap (λ b. not b && head_marked rules cut e) t ∙ ap (λ b. not (not (is_marked marked (tail_of rules e))) && b) d ∙ twice_left (is_marked marked (tail_of rules e)) (is_marked marked (reviewer_node rules (pair_at rules e).reviewer))) in
    let papers = sum-of_times rules.tickets (length rules.papers) (λ p. is_marked marked (hub rules) && not (is_marked marked p)) (marks cut.papers) (λ p. (paper_at rules p).demand)
    (λ p lt. ap (λ b. b && not (is_marked marked p)) h ∙ sym (paper-marked rules marked p lt ∙ apart p)) in
    let groups = sum-of_times rules.tickets (group_count rules) (λ g. is_marked marked (paper_of_group rules g) && not (is_marked marked (group_node rules g))) (enters_group rules cut) (λ g. rules.limit)
    (λ g lt.
    let own : marks cut.groups g ≡ not (is_marked marked (group_node rules g)) = group-marked rules marked g lt ∙ apart (group_node rules g) in
    let paper : marks cut.papers (paper_of_group rules g) ≡ not (is_marked marked (paper_of_group rules g)) = paper-marked rules marked (paper_of_group rules g) (group-paper-below rules g are lt) ∙ apart (paper_of_group rules g) in
    sym (ap (λ b. b && not (marks cut.papers (paper_of_group rules g))) own ∙ ap (λ b. not (is_marked marked (group_node rules g)) && not b) paper ∙ twice_right (is_marked marked (group_node rules g)) (is_marked marked (paper_of_group rules g)))) in
    let reviewers = nothing-where (length rules.reviewers) (λ r. is_marked marked (reviewer_node rules r) && not (is_marked marked (hub rules))) (λ r. rules.tickets * (reviewer_at rules r).greatest)
    (λ r lt. ap (λ b. is_marked marked (reviewer_node rules r) && not b) h ∙ and-false (is_marked marked (reviewer_node rules r))) in
    omega (arith, rooms-parts rules sieve marked, pairs, papers, groups, reviewers)

-- ---- both

pub need-is_floors : (rules : RulesValue) (sieve : Sieve) (marked : List Bool) → AreRules rules
    → need rules sieve (cut_in rules marked) ≡ floors_into (network_of rules (ticket_spans rules sieve)) marked
need-is_floors rules sieve marked are = by (is_marked marked (hub rules)) refl
  where
    by : (b : Bool) → is_marked marked (hub rules) ≡ b → need_by (if b then OutOf else Into) rules sieve (cut_in rules marked) ≡ floors_into (network_of rules (ticket_spans rules sieve)) marked
    by true h = need-out_of rules sieve marked are h
    by false h = need-into rules sieve marked are h

pub room-is_rooms : (rules : RulesValue) (sieve : Sieve) (marked : List Bool) → AreRules rules
    → room rules sieve (cut_in rules marked) ≡ rooms_out_of (network_of rules (ticket_spans rules sieve)) marked
room-is_rooms rules sieve marked are = by (is_marked marked (hub rules)) refl
  where
    by : (b : Bool) → is_marked marked (hub rules) ≡ b → room_by (if b then OutOf else Into) rules sieve (cut_in rules marked) ≡ rooms_out_of (network_of rules (ticket_spans rules sieve)) marked
    by true h = room-out_of rules sieve marked are h
    by false h = room-into rules sieve marked are h

-- the cut of violated marks is violated
pub cut-violated : (rules : RulesValue) (sieve : Sieve) (marked : List Bool) → AreRules rules
    → AreViolated (network_of rules (ticket_spans rules sieve)) marked → Violated rules sieve (cut_in rules marked)
cut-violated rules sieve marked are broken =
    omega (arith, broken, need-is_floors rules sieve marked are, room-is_rooms rules sieve marked are)
