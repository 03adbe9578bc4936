-- An answer breaks no clause exactly where it is valid.
use Rattle.std.proofs.Common.{◌≡◌, ℕ, ◌<◌, ◌==◌, ◌&&◌, true, List, length, refl, sym, ◌∙◌}
use Rattle.std.proofs.lemmas.Bool.Decides.{Decides-int_eq, Decides-eqb, Decides-ltb}
use Rattle.std.specs.Prelude.{Option, Some, None, IsNone, ◌↔◌, nat_lt}
use Rattle.std.specs.Ordering.{int_eq}
use Rattle.match_rules.specs.declared.answer.Blocked.{Blocked}
use Rattle.match_rules.specs.declared.answer.Sieve.TheVariants.{All as EveryPair}
use Rattle.match_rules.specs.declared.answer.Winning.{Winning}
use Rattle.match_rules.specs.declared.breaks.Break.{Break}
use Rattle.match_rules.specs.declared.breaks.Break.TheVariants.{Total, Bound, Counted, NotViolated}
use Rattle.match_rules.specs.declared.lottery.Piece.{Piece}
use Rattle.match_rules.specs.Answers.{Certified, CutMatches, IsBlocked, SuitsMode, WinningMatches}
use Rattle.match_rules.specs.Assignments.{Best, Fits, total}
use Rattle.match_rules.specs.Breaks.{first_break_of}
use Rattle.match_rules.specs.Evidence.{need, room}
use Rattle.match_rules.specs.First.{first_below}
use Rattle.match_rules.specs.Pieces.{ArePieces}
use Rattle.match_rules.specs.Rules.{RulesValue, AreRules}
use Rattle.match_rules.specs.Sound.{IsSound}
use Rattle.match_rules.specs.Thresholds.{sieve_of}
use Rattle.match_rules.proofs.Firsts.{both_none, none_both}
use Rattle.match_rules.proofs.SieveLaws.{finer-every_pair, fits-more}
use Rattle.match_rules.proofs.Soundness.{sound_iff}
use Rattle.dual_check.proofs.CutLaws.{none_fits_at_violated}
use Rattle.dual_check.proofs.PriceLaws.{best_at_bound}
use Rattle.match_rules.specs.SharesFit.{shares_score}
use Rattle.publication.specs.Checks.{printed_bound, total_break, bound_break, worth_break, below_break, level_break, threshold_break, evidence_break, lottery_break, counted_break, violated_break, cut_break}
use Rattle.match_rules.proofs.Totals.{total_of_shares}
use Rattle.publication.proofs.LevelLaws.{AreWithinLevel, IsShown, kept, unbroken, both, within-fits, level-right, shown-violated, right-known, known-within, below-within, within-below, none-shown, known-none}

-- an answer that isn't there
pub not_there : {X : Type 0} (answer : Option X) → IsNone answer → answer ≡ None
not_there None e = refl
not_there (Some x) e = cc

not_there_is : {X : Type 0} (answer : Option X) → answer ≡ None → IsNone answer
not_there_is answer e = rw e refl

-- what no clause of a lottery shows broken
pub record Unbroken (rules : RulesValue) (winning : Winning) : Type 0 where
  pub sound : IsSound rules winning.shares winning.lottery
  pub within : AreWithinLevel rules winning.level winning.lottery
  pub shown : IsShown rules winning.level
  pub scored : winning.total ≡ shares_score rules winning.shares
  pub bounded : winning.total ≡ printed_bound rules winning

none_unbroken : (rules : RulesValue) (winning : Winning) → AreRules rules → ArePieces winning.lottery → WinningMatches rules winning
    → lottery_break rules winning ≡ None → Unbroken rules winning
unfolding lottery_break
none_unbroken rules winning are pieces matching none =
    let first = both_none (first_break_of rules winning.shares winning.lottery) (evidence_break rules winning) none in
    let second = both_none (threshold_break rules winning.level winning.shares) (worth_break rules winning) first.1 in
    let third = both_none (first_below (length rules.pairs) (below_break rules winning.level winning.shares)) (level_break rules winning.level) second.0 in
    let last = both_none (total_break rules winning) (bound_break rules winning) second.1 in
    let sound : IsSound rules winning.shares winning.lottery =
    (sound_iff rules winning.shares winning.lottery (first_break_of rules winning.shares winning.lottery) are pieces matching.pieces refl).0
    (not_there_is (first_break_of rules winning.shares winning.lottery) first.0) in
    record {
      sound = sound;
      within = below-within rules winning.level winning.shares winning.lottery sound.exact third.0;
      shown = none-shown rules winning.level third.1;
      scored = (Decides-int_eq winning.total (shares_score rules winning.shares)).0
          (kept (int_eq winning.total (shares_score rules winning.shares)) (Total winning.total (shares_score rules winning.shares)) last.0);
      bounded = (Decides-int_eq winning.total (printed_bound rules winning)).0
          (kept (int_eq winning.total (printed_bound rules winning)) (Bound winning.total (printed_bound rules winning)) last.1);
    }

-- the total is that of the tickets
total_scored : (rules : RulesValue) (winning : Winning) → WinningMatches rules winning → Unbroken rules winning → total rules winning.lottery ≡ winning.total
total_scored rules winning matching u = total_of_shares rules winning.shares winning.lottery matching.pieces u.sound.exact ∙ sym u.scored

-- such a lottery is certified for its mode, where its level suits that
unbroken_certified : (rules : RulesValue) (winning : Winning) → AreRules rules → WinningMatches rules winning → SuitsMode winning.mode winning.level → Unbroken rules winning
    → Certified rules winning.mode winning
unbroken_certified rules winning are matching suits u = record {
  of_mode = refl;
  suits = suits;
  fitting = matching;
  fits = within-fits rules winning.level winning.lottery u.sound.fits u.within;
  whole = u.sound.whole;
  exact = u.sound.exact;
  scored = total_scored rules winning matching u;
  bounded = u.bounded;
  level = level-right rules winning.mode winning.level winning.lottery are suits u.shown u.sound.fits u.within;
  above = shown-violated rules winning.level u.shown;
}

pub none_certified : (rules : RulesValue) (winning : Winning) (answer : Option Break) → AreRules rules → ArePieces winning.lottery → WinningMatches rules winning
    → answer ≡ lottery_break rules winning → IsNone answer → SuitsMode winning.mode winning.level → Certified rules winning.mode winning
none_certified rules winning answer are pieces matching exact none suits =
    unbroken_certified rules winning are matching suits (none_unbroken rules winning are pieces matching (sym exact ∙ not_there answer none))

-- and best under the sieve of its level, whether its level suits or not
pub none_best : (rules : RulesValue) (winning : Winning) (answer : Option Break) → AreRules rules → ArePieces winning.lottery → WinningMatches rules winning
    → answer ≡ lottery_break rules winning → IsNone answer → Best rules (sieve_of winning.level) winning.lottery
none_best rules winning answer are pieces matching exact none =
    let u = none_unbroken rules winning are pieces matching (sym exact ∙ not_there answer none) in
    best_at_bound rules (sieve_of winning.level) winning.prices winning.lottery are (within-fits rules winning.level winning.lottery u.sound.fits u.within) u.sound.whole
    (total_scored rules winning matching u ∙ u.bounded)

-- the other way round: a certified lottery breaks no clause
certified_sound : (rules : RulesValue) (winning : Winning) → Certified rules winning.mode winning → IsSound rules winning.shares winning.lottery
certified_sound rules winning c = record {
  fits = fits-more rules (sieve_of winning.level) EveryPair winning.lottery (finer-every_pair (sieve_of winning.level)) c.fits;
  whole = c.whole;
  exact = c.exact;
}

certified_threshold : (rules : RulesValue) (winning : Winning) → AreRules rules → Certified rules winning.mode winning → threshold_break rules winning.level winning.shares ≡ None
certified_threshold rules winning are c =
    let known = right-known rules winning.mode winning.level c.suits c.level c.above in
    let within = known-within rules winning.level winning.lottery are known c.fits in
    none_both (first_below (length rules.pairs) (below_break rules winning.level winning.shares)) (level_break rules winning.level)
    (within-below rules winning.level winning.shares winning.lottery c.exact within) (known-none rules winning.level known)

certified_worth : (rules : RulesValue) (winning : Winning) → Certified rules winning.mode winning → worth_break rules winning ≡ None
certified_worth rules winning c =
    let scored : winning.total ≡ shares_score rules winning.shares =
    sym c.scored ∙ total_of_shares rules winning.shares winning.lottery c.fitting.pieces c.exact in
    let eleven : total_break rules winning ≡ None =
    unbroken (int_eq winning.total (shares_score rules winning.shares)) (Total winning.total (shares_score rules winning.shares))
    ((Decides-int_eq winning.total (shares_score rules winning.shares)).1 scored) in
    let twelve : bound_break rules winning ≡ None =
    unbroken (int_eq winning.total (printed_bound rules winning)) (Bound winning.total (printed_bound rules winning))
    ((Decides-int_eq winning.total (printed_bound rules winning)).1 c.bounded) in
    none_both (total_break rules winning) (bound_break rules winning) eleven twelve

pub certified_none : (rules : RulesValue) (winning : Winning) (answer : Option Break) → AreRules rules → ArePieces winning.lottery
    → answer ≡ lottery_break rules winning → Certified rules winning.mode winning → IsNone answer
unfolding lottery_break
certified_none rules winning answer are pieces exact c =
    let first : first_break_of rules winning.shares winning.lottery ≡ None = not_there (first_break_of rules winning.shares winning.lottery)
    ((sound_iff rules winning.shares winning.lottery (first_break_of rules winning.shares winning.lottery) are pieces c.fitting.pieces refl).1 (certified_sound rules winning c)) in
    let second : evidence_break rules winning ≡ None =
    none_both (threshold_break rules winning.level winning.shares) (worth_break rules winning) (certified_threshold rules winning are c) (certified_worth rules winning c) in
    not_there_is answer (exact ∙ none_both (first_break_of rules winning.shares winning.lottery) (evidence_break rules winning) first second)

-- a cut breaks no clause exactly where it is blocked
none_blocked : (rules : RulesValue) (blocked : Blocked) → CutMatches rules blocked.cut → cut_break rules blocked ≡ None → IsBlocked rules blocked
unfolding cut_break
none_blocked rules blocked matching none =
    let needed : ℕ = need rules EveryPair blocked.cut in
    let allowed : ℕ = room rules EveryPair blocked.cut in
    let first = both_none (counted_break rules blocked) (violated_break rules blocked) none in
    let tests = kept ((blocked.need == needed) && (blocked.room == allowed)) (Counted needed allowed) first.0 in
    let printed = both (blocked.need == needed) (blocked.room == allowed) tests in
    let needs : blocked.need ≡ needed = (Decides-eqb blocked.need needed).0 printed.0 in
    let rooms : blocked.room ≡ allowed = (Decides-eqb blocked.room allowed).0 printed.1 in
    let more : allowed < needed = (Decides-ltb allowed needed).0 (kept (nat_lt allowed needed) (NotViolated needed allowed) first.1) in
    record {
      fitting = matching;
      need = needs;
      room = rooms;
      violated = rw (needs, rooms) more;
    }

blocked_none : (rules : RulesValue) (blocked : Blocked) → IsBlocked rules blocked → cut_break rules blocked ≡ None
unfolding cut_break
blocked_none rules blocked b =
    let needed : ℕ = need rules EveryPair blocked.cut in
    let allowed : ℕ = room rules EveryPair blocked.cut in
    let one : (blocked.need == needed) ≡ true = (Decides-eqb blocked.need needed).1 b.need in
    let two : (blocked.room == allowed) ≡ true = (Decides-eqb blocked.room allowed).1 b.room in
    let tests : ((blocked.need == needed) && (blocked.room == allowed)) ≡ true = rw (one, two) refl in
    let thirteen : counted_break rules blocked ≡ None = unbroken ((blocked.need == needed) && (blocked.room == allowed)) (Counted needed allowed) tests in
    let more : allowed < needed = rw (b.need, b.room) at b.violated in
    let fourteen : violated_break rules blocked ≡ None = unbroken (nat_lt allowed needed) (NotViolated needed allowed) ((Decides-ltb allowed needed).1 more) in
    none_both (counted_break rules blocked) (violated_break rules blocked) thirteen fourteen

pub none_iff_blocked : (rules : RulesValue) (blocked : Blocked) (answer : Option Break) → CutMatches rules blocked.cut
    → answer ≡ cut_break rules blocked → (IsNone answer ↔ IsBlocked rules blocked)
none_iff_blocked rules blocked answer matching exact = (
  λ none. none_blocked rules blocked matching (sym exact ∙ not_there answer none),
  λ b. not_there_is answer (exact ∙ blocked_none rules blocked b),
)

-- then no lottery fits
pub blocked_fits_none : (rules : RulesValue) (blocked : Blocked) → AreRules rules → IsBlocked rules blocked → (lottery : List Piece) → ¬ (Fits rules EveryPair lottery)
blocked_fits_none rules blocked are b =
    none_fits_at_violated rules EveryPair blocked.cut are (rw (b.need, b.room) at b.violated)
