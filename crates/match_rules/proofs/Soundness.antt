-- No clause of the check is broken exactly where a lottery is sound.
use Rattle.std.proofs.Common.{◌≡◌, ℕ, ◌*◌, ◌<◌, ◌≤◌, ◌↔◌, Bool, true, false, eqb, ◌&&◌, not, List, length, Option, Some, None, IsNone, refl, arith, sym, ◌∙◌, inl, inr}
use Rattle.std.proofs.lemmas.Bool.{eqb-true, eqb-false, eq-eqb, leb-true, le-leb, ne_eqb, and_parts, and_from, and_cases, and_left, and_right, or_right, not-true, not_from_false, false≢true, cases_Bool}
use Rattle.std.proofs.lemmas.List.Elements.{All-from_get_or}
use Rattle.std.proofs.Math.Nat.{mul-le-mul_right, le_of_mul-le-mul_right}
use Rattle.std.specs.Option.{is_some}
use Rattle.match_rules.specs.declared.answer.Sieve.TheVariants.{All as EveryPair}
use Rattle.match_rules.specs.declared.breaks.Break.{Break}
use Rattle.match_rules.specs.declared.breaks.Break.TheVariants.{Tickets, Load, Lock}
use Rattle.match_rules.specs.declared.lottery.Piece.{Piece}
use Rattle.match_rules.specs.Answers.{LotteryMatches}
use Rattle.match_rules.specs.Assignments.{Meets, holds, reviewer_count, tickets, times, cap_under}
use Rattle.match_rules.specs.Breaks.{first_break_of, unless, is_load, tickets_break, demand_break, load_break, group_break, lock_break, share_break, cap_break, in_pieces, piece_breaks, pair_breaks}
use Rattle.match_rules.specs.First.{first_of_two, first_below}
use Rattle.match_rules.specs.Groups.{group_count}
use Rattle.match_rules.specs.Pieces.{ArePieces, piece_at, no_piece}
use Rattle.match_rules.specs.Rules.{RulesValue, AreRules, pair_at, is_locked}
use Rattle.match_rules.specs.Sound.{IsSound}
use Rattle.match_rules.proofs.Firsts.{first_below-all, first_below-at, both_none, none_both}
use Rattle.match_rules.proofs.Found.{unless-true}
use Rattle.match_rules.proofs.Holding.{holds-once}

unless-none : (test : Bool) (broken : Break) → unless test broken ≡ None → test ≡ true
unless-none true broken e = refl
unless-none false broken e = absurd (cc)

-- a clause over pieces and places, by places
in_pieces-at : (lottery : List Piece) (count : ℕ) (broken : ℕ → List ℕ → ℕ → Option Break) → in_pieces lottery count broken ≡ None
    → (k : ℕ) → k < length lottery → (place : ℕ) → place < count → broken k (piece_at lottery k).pairs place ≡ None
in_pieces-at lottery count broken none k h place within =
    first_below-at count (broken k (piece_at lottery k).pairs)
    (first_below-at (length lottery) (λ k. first_below count (broken k (piece_at lottery k).pairs)) none k h) place within

in_pieces-all : (lottery : List Piece) (count : ℕ) (broken : ℕ → List ℕ → ℕ → Option Break)
    → ((k : ℕ) → k < length lottery → (place : ℕ) → place < count → broken k (piece_at lottery k).pairs place ≡ None) → in_pieces lottery count broken ≡ None
in_pieces-all lottery count broken none =
    first_below-all (length lottery) (λ k. first_below count (broken k (piece_at lottery k).pairs))
    (λ k h. first_below-all count (broken k (piece_at lottery k).pairs) (none k h))

-- each clause, none of it broken
record Unbroken (rules : RulesValue) (shares : List ℕ) (lottery : List Piece) : Type 0 where
  whole : tickets_break rules lottery ≡ None
  demand : in_pieces lottery (length rules.papers) (demand_break rules) ≡ None
  load : in_pieces lottery (length rules.reviewers) (load_break rules) ≡ None
  of_groups : in_pieces lottery (group_count rules) (group_break rules) ≡ None
  lock : in_pieces lottery (length rules.pairs) (lock_break rules) ≡ None
  share : first_below (length rules.pairs) (share_break shares lottery) ≡ None
  cap : first_below (length rules.pairs) (cap_break rules lottery) ≡ None

unbroken : (rules : RulesValue) (shares : List ℕ) (lottery : List Piece) → first_break_of rules shares lottery ≡ None → Unbroken rules shares lottery
unfolding first_break_of
unbroken rules shares lottery none =
    let one = both_none (tickets_break rules lottery) (first_of_two (piece_breaks rules lottery) (pair_breaks rules shares lottery)) none in
    let two = both_none (piece_breaks rules lottery) (pair_breaks rules shares lottery) one.1 in
    let three = both_none (in_pieces lottery (length rules.papers) (demand_break rules)) _ two.0 in
    let four = both_none (in_pieces lottery (length rules.reviewers) (load_break rules)) _ three.1 in
    let five = both_none (in_pieces lottery (group_count rules) (group_break rules)) _ four.1 in
    let six = both_none (first_below (length rules.pairs) (share_break shares lottery)) _ two.1 in
    record { whole = one.0; demand = three.0; load = four.0; of_groups = five.0; lock = five.1; share = six.0; cap = six.1 }

none_broken : (rules : RulesValue) (shares : List ℕ) (lottery : List Piece) → Unbroken rules shares lottery → first_break_of rules shares lottery ≡ None
unfolding first_break_of
none_broken rules shares lottery un =
    none_both _ _ un.whole
    (none_both _ _
    (none_both _ _ un.demand (none_both _ _ un.load (none_both _ _ un.of_groups un.lock)))
    (none_both _ _ un.share un.cap))

-- a locked pair that is held
lock-held : (rules : RulesValue) (k e : ℕ) (places : List ℕ) → holds places e ≤ 1 → lock_break rules k places e ≡ None → is_locked rules e ≡ true → holds places e ≡ 1
lock-held rules k e places once none locked =
    let there = not-true _ (unless-none (not (is_locked rules e && eqb (holds places e) 0)) (Lock k e) none) in
    elim (and_cases (is_locked rules e) (eqb (holds places e) 0) there) [
      | inl free ↦ absurd (false≢true (sym free ∙ locked))
      | inr some ↦ (let held = eqb-false (holds places e) 0 some in omega arith)
    ]

held-lock : (rules : RulesValue) (k e : ℕ) (places : List ℕ) → (is_locked rules e ≡ true → holds places e ≡ 1) → lock_break rules k places e ≡ None
held-lock rules k e places held =
    elim (cases_Bool (is_locked rules e)) [
      | inl locked ↦ (let one = held locked in unless-true _ _ (not_from_false _ (and_right (is_locked rules e) (eqb (holds places e) 0) (ne_eqb _ _ (λ none. absurd (omega arith))))))
      | inr free ↦ unless-true _ _ (not_from_false _ (and_left (is_locked rules e) (eqb (holds places e) 0) free))
    ]

-- the sieve of all pairs keeps each cap
cap-every : (rules : RulesValue) (e : ℕ) → cap_under rules EveryPair e ≡ (pair_at rules e).cap
cap-every rules e = rw (or_right (is_locked rules e) true refl) refl

meets-unbroken : (rules : RulesValue) (shares : List ℕ) (lottery : List Piece) → ArePieces lottery → LotteryMatches rules lottery → Unbroken rules shares lottery
    → (k : ℕ) → k < length lottery → Meets rules (piece_at lottery k).pairs
meets-unbroken rules shares lottery pieces known un k h =
    let places = (piece_at lottery k).pairs in
    let load = λ (r : ℕ) (within : r < length rules.reviewers). and_parts _ _ (unless-none (is_load rules r (reviewer_count rules places r)) (Load k r (reviewer_count rules places r)) (in_pieces-at lottery (length rules.reviewers) (load_break rules) un.load k h r within)) in
    record {
      candidates = known k no_piece h;
      distinct = λ e. holds-once places e (pieces.places k h);
      papers = λ p within. eqb-true _ _ (unless-none _ _ (in_pieces-at lottery (length rules.papers) (demand_break rules) un.demand k h p within));
      least = λ r within. leb-true _ _ (load r within).0;
      greatest = λ r within. leb-true _ _ (load r within).1;
      of_groups = λ g within. leb-true _ _ (unless-none _ _ (in_pieces-at lottery (group_count rules) (group_break rules) un.of_groups k h g within));
      locked = λ e within locked. lock-held rules k e places (holds-once places e (pieces.places k h)) (in_pieces-at lottery (length rules.pairs) (lock_break rules) un.lock k h e within) locked;
    }

sound_from_none : (rules : RulesValue) (shares : List ℕ) (lottery : List Piece) → AreRules rules → ArePieces lottery → LotteryMatches rules lottery
    → first_break_of rules shares lottery ≡ None → IsSound rules shares lottery
sound_from_none rules shares lottery good pieces known none =
    let un = unbroken rules shares lottery none in
    let whole : tickets lottery ≡ rules.tickets = eqb-true _ _ (unless-none (eqb (tickets lottery) rules.tickets) (Tickets (tickets lottery)) un.whole) in
    let all_tickets = good.tickets in
    record {
      fits = record {
        some_ticket = omega arith;
        weights = All-from_get_or (λ (piece : Piece). 1 ≤ piece.weight) lottery no_piece (λ k h. (pieces.weights k h).0);
        pieces = All-from_get_or (λ (piece : Piece). Meets rules piece.pairs) lottery no_piece (meets-unbroken rules shares lottery pieces known un);
        caps = λ e h.
            let cap : times lottery e ≤ (pair_at rules e).cap = leb-true _ _ (unless-none _ _ (first_below-at (length rules.pairs) (cap_break rules lottery) un.cap e h)) in
            rw (cap-every rules e) (rw whole (mul-le-mul_right rules.tickets cap));
      };
      whole = whole;
      exact = λ e h. eqb-true _ _ (unless-none _ _ (first_below-at (length rules.pairs) (share_break shares lottery) un.share e h));
    }

none_from_sound : (rules : RulesValue) (shares : List ℕ) (lottery : List Piece) → AreRules rules → IsSound rules shares lottery → first_break_of rules shares lottery ≡ None
none_from_sound rules shares lottery good sound =
    let meets = λ (k : ℕ) (h : k < length lottery). sound.fits.pieces k no_piece h in
    let all_tickets = good.tickets in
    none_broken rules shares lottery (record {
      whole = unless-true _ _ (eq-eqb _ _ sound.whole);
      demand = in_pieces-all lottery (length rules.papers) (demand_break rules) (λ k h p within. unless-true _ _ (eq-eqb _ _ ((meets k h).papers p within)));
      load = in_pieces-all lottery (length rules.reviewers) (load_break rules) (λ k h r within. unless-true _ _ (and_from _ _ (le-leb _ _ ((meets k h).least r within)) (le-leb _ _ ((meets k h).greatest r within))));
      of_groups = in_pieces-all lottery (group_count rules) (group_break rules) (λ k h g within. unless-true _ _ (le-leb _ _ ((meets k h).of_groups g within)));
      lock = in_pieces-all lottery (length rules.pairs) (lock_break rules) (λ k h e within. held-lock rules k e (piece_at lottery k).pairs ((meets k h).locked e within));
      share = first_below-all (length rules.pairs) (share_break shares lottery) (λ e h. unless-true _ _ (eq-eqb _ _ (sound.exact e h)));
      cap = first_below-all (length rules.pairs) (cap_break rules lottery) (λ e h.
          let scaled : times lottery e * rules.tickets ≤ (pair_at rules e).cap * rules.tickets = rw (cap-every rules e, sound.whole) at (sound.fits.caps e h) in
          unless-true _ _ (le-leb _ _ (le_of_mul-le-mul_right scaled (omega arith))));
    })

no_answer : (answer : Option Break) → is_some answer ≡ false → answer ≡ None
no_answer None none = refl
no_answer (Some broken) none = absurd (false≢true (sym none))

-- the answer of the check is None exactly where the lottery is sound
pub sound_iff : (rules : RulesValue) (shares : List ℕ) (lottery : List Piece) (answer : Option Break) → AreRules rules → ArePieces lottery → LotteryMatches rules lottery
    → answer ≡ first_break_of rules shares lottery → IsNone answer ↔ IsSound rules shares lottery
sound_iff rules shares lottery answer good pieces known is = (
  λ none. sound_from_none rules shares lottery good pieces known (sym is ∙ no_answer answer none),
  λ sound. rw (is ∙ none_from_sound rules shares lottery good sound) refl,
)
