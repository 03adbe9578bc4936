-- The first clause of the check that an answer breaks, and what a valid answer is.
use Rattle.std.specs.Prelude.{ℕ, ℤ, Bool, true, false, ◌==◌, ◌&&◌, ◌||◌, not, nat_lt, int_le, List, length, slice_index, Option, None}
use Rattle.std.specs.List.{list_any}
use Rattle.std.specs.Ordering.{int_eq}
use Rattle.match_rules.specs.declared.answer.Answer.{Answer}
use Rattle.match_rules.specs.declared.answer.Answer.TheVariants.{Lottery, Infeasible}
use Rattle.match_rules.specs.declared.answer.Blocked.{Blocked}
use Rattle.match_rules.specs.declared.answer.Cut.{Cut}
use Rattle.match_rules.specs.declared.answer.Level.{Level}
use Rattle.match_rules.specs.declared.answer.Level.TheVariants.{Unasked, Free, At}
use Rattle.match_rules.specs.declared.answer.Sieve.TheVariants.{All as EveryPair, Above as AboveScore}
use Rattle.match_rules.specs.declared.answer.Winning.{Winning}
use Rattle.match_rules.specs.declared.breaks.Break.{Break}
use Rattle.match_rules.specs.declared.breaks.Break.TheVariants.{Below, NoSuchScore, Above, Total, Bound, Counted, NotViolated}
use Rattle.match_rules.specs.declared.rules.RulePair.{RulePair}
use Rattle.match_rules.specs.Answers.{Certified, IsBlocked}
use Rattle.match_rules.specs.Breaks.{unless, first_break_of}
use Rattle.match_rules.specs.Evidence.{bound, need, room}
use Rattle.match_rules.specs.First.{first_of_two, first_below}
use Rattle.match_rules.specs.Rules.{RulesValue, pair_at, is_locked}
use Rattle.match_rules.specs.SharesFit.{shares_score}
use Rattle.match_rules.specs.Thresholds.{sieve_of}

-- whether a level lets pairs of this score that aren't locked have a share
abbrev pub lets_share : Level → ℤ → Bool
lets_share Unasked score = true
lets_share Free score = false
lets_share (At least cut) score = int_le least score

-- whether a pair may have a share
abbrev pub may_share : RulesValue → Level → ℕ → Bool
may_share rules level e = is_locked rules e || lets_share level (pair_at rules e).score

-- clause 8: a pair that isn't locked has no share where the level is free, or a score above the pair's
abbrev pub below_break : RulesValue → Level → List ℕ → ℕ → Option Break
below_break rules level shares e = unless (may_share rules level e || (slice_index shares e == 0)) (Below e)

-- whether a pair isn't locked and has the score
abbrev pub is_open_at : ℕ → ℤ → RulePair → Bool
is_open_at tickets score pair = not (pair.floor == tickets) && int_eq pair.score score

-- clause 9: the score of the level is that of a pair that isn't locked
abbrev pub score_break : RulesValue → ℤ → Option Break
score_break rules score = unless (list_any (is_open_at rules.tickets score) rules.pairs) (NoSuchScore score)

-- clause 10: the cut of the level is violated above its score
abbrev pub above_break : RulesValue → ℤ → Cut → Option Break
above_break rules score cut =
    unless (nat_lt (room rules (AboveScore score) cut) (need rules (AboveScore score) cut))
    (Above (need rules (AboveScore score) cut) (room rules (AboveScore score) cut))

-- clauses 9 and 10
abbrev pub at_break : RulesValue → ℤ → Cut → Option Break
at_break rules score cut = first_of_two (score_break rules score) (above_break rules score cut)

-- the same of any level
abbrev pub level_break : RulesValue → Level → Option Break
level_break rules Unasked = None
level_break rules Free = None
level_break rules (At score cut) = at_break rules score cut

-- clauses 8 to 10, of the threshold
abbrev pub threshold_break : RulesValue → Level → List ℕ → Option Break
threshold_break rules level shares = first_of_two (first_below (length rules.pairs) (below_break rules level shares)) (level_break rules level)

-- clause 11: the score of the shares is the printed total
abbrev pub total_break : RulesValue → Winning → Option Break
total_break rules winning = unless (int_eq winning.total (shares_score rules winning.shares)) (Total winning.total (shares_score rules winning.shares))

-- the bound of the printed prices, over the pairs that the level keeps
abbrev pub printed_bound : RulesValue → Winning → ℤ
printed_bound rules winning = bound rules (sieve_of winning.level) winning.prices

-- clause 12: the printed total is that bound
abbrev pub bound_break : RulesValue → Winning → Option Break
bound_break rules winning = unless (int_eq winning.total (printed_bound rules winning)) (Bound winning.total (printed_bound rules winning))

-- clause 13: the printed need and room are those of the cut, over all pairs
abbrev pub counted_break : RulesValue → Blocked → Option Break
counted_break rules blocked =
    unless ((blocked.need == need rules EveryPair blocked.cut) && (blocked.room == room rules EveryPair blocked.cut))
    (Counted (need rules EveryPair blocked.cut) (room rules EveryPair blocked.cut))

-- clause 14: that need is greater than that room
abbrev pub violated_break : RulesValue → Blocked → Option Break
violated_break rules blocked =
    unless (nat_lt (room rules EveryPair blocked.cut) (need rules EveryPair blocked.cut))
    (NotViolated (need rules EveryPair blocked.cut) (room rules EveryPair blocked.cut))

-- clauses 11 and 12
abbrev pub worth_break : RulesValue → Winning → Option Break
worth_break rules winning = first_of_two (total_break rules winning) (bound_break rules winning)

-- clauses 8 to 12
abbrev pub evidence_break : RulesValue → Winning → Option Break
evidence_break rules winning = first_of_two (threshold_break rules winning.level winning.shares) (worth_break rules winning)

-- the first broken clause of a lottery, of 1 to 12
unfoldable pub lottery_break : RulesValue → Winning → Option Break
lottery_break rules winning = first_of_two (first_break_of rules winning.shares winning.lottery) (evidence_break rules winning)

-- the first broken clause of a cut, of 13 and 14
unfoldable pub cut_break : RulesValue → Blocked → Option Break
cut_break rules blocked = first_of_two (counted_break rules blocked) (violated_break rules blocked)

-- the first broken clause of an answer
abbrev pub check_break_of : RulesValue → Answer → Option Break
check_break_of rules (Lottery winning) = lottery_break rules winning
check_break_of rules (Infeasible blocked) = cut_break rules blocked

-- a valid answer of its mode: a lottery that is shown best, or a cut that shows that none fits
abbrev pub Holds : RulesValue → Answer → Type 0
Holds rules (Lottery winning) = Certified rules winning.mode winning
Holds rules (Infeasible blocked) = IsBlocked rules blocked
