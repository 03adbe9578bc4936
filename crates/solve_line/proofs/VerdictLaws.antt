-- What a verdict says: certified lotteries from shares and prices, and that they are best.
use Rattle.std.proofs.Common.{◌≡◌, ◌↔◌, ℕ, ◌<◌, List, length, get_or, refl, sym, subst, ◌∙◌, arith, inl, inr}
use Rattle.std.proofs.lemmas.Int.{ints}
use Rattle.std.proofs.lemmas.Bool.{cases_lt}
use Rattle.std.proofs.lemmas.Grind.{get_or_default_zero}
use Rattle.std.proofs.lemmas.List.{get_or_past}
use Rattle.std.specs.Prelude.{All, slice_index, ℤ, pos}
use Rattle.match_rules.specs.declared.answer.Answer.{Answer}
use Rattle.match_rules.specs.declared.answer.Answer.TheVariants.{Lottery, Infeasible}
use Rattle.match_rules.specs.declared.answer.Cut.{Cut}
use Rattle.match_rules.specs.declared.answer.Level.{Level}
use Rattle.match_rules.specs.declared.answer.Level.TheVariants.{Unasked, Free, At}
use Rattle.match_rules.specs.declared.answer.Mode.{Mode}
use Rattle.match_rules.specs.declared.answer.Mode.TheVariants.{Whole, Fair}
use Rattle.match_rules.specs.declared.answer.Prices.{Prices}
use Rattle.match_rules.specs.declared.answer.Sieve.{Sieve}
use Rattle.match_rules.specs.declared.answer.Sieve.TheVariants.{All as EveryPair}
use Rattle.match_rules.specs.declared.answer.Winning.{Winning}
use Rattle.match_rules.specs.declared.lottery.Piece.{Piece}
use Rattle.match_rules.specs.Answers.{AnswerMatches, Certified, CutIsViolated, IsWithin, LotteryMatches, PricesMatch, SharesMatch}
use Rattle.match_rules.specs.Assignments.{Best, Fits, Meets, keeps, tickets}
use Rattle.match_rules.specs.Evidence.{bound}
use Rattle.match_rules.specs.Rules.{RulesValue, AreRules, most_score, pair_at}
use Rattle.match_rules.specs.SharesFit.{HasShares, SharesFit, shares_score}
use Rattle.match_rules.specs.Thresholds.{CanFit, CanFitLocked, HasLevel, IsOpenScore, sieve_of}
use Rattle.match_rules.proofs.SieveLaws.{finer-every_pair, fits-more, shares_fit-more}
use Rattle.match_rules.proofs.Totals.{total_of_shares}
use Rattle.dual_check.proofs.PriceLaws.{best_at_bound}
use Rattle.bounded_network.specs.Back.{AreWithinCosts}
use Rattle.bounded_network.specs.Compile.{node_count}
use Rattle.bounded_network.specs.Network.{NetworkValue, potential_at}
use Rattle.bounded_network.proofs.Small.{when-at_most}
use Rattle.flow_solver.specs.State.{AreBounded}
use Rattle.fair_threshold.specs.Levels.{IsLevelAt}
use Rattle.fair_threshold.proofs.LevelLaws.{level-threshold}
use Rattle.solve_line.specs.Verdicts.{IfLottery, IsInfeasible, IsLevelFor, IsLottery, IsVerdict, IsWon, NoneFits}
use Rattle.solve_line.proofs.ScoreLaws.{score-near}

-- potentials of the solver are within the costs of the rules
pub within-costs : (rules : RulesValue) (net : NetworkValue) (potentials : List ℤ) → net.nodes ≡ node_count rules → length potentials ≡ net.nodes → AreBounded net potentials → AreWithinCosts rules potentials
within-costs rules net potentials nodes long bounded v = elim (cases_lt v net.nodes) [
  | inl lt ↦ let h = bounded v lt in (omega (arith, ints, h.low, nodes), omega (arith, ints, h.high, nodes))
  | inr past ↦
      let e : potential_at potentials v ≡ pos 0 = get_or_past potentials v (pos 0) (omega (arith, long, past)) in
      (omega (arith, ints, e), omega (arith, ints, e))
]

-- shares that fit are numbers of tickets
shares-match : (rules : RulesValue) (sieve : Sieve) (shares : List ℕ) → AreRules rules → SharesFit rules sieve shares → SharesMatch rules shares
shares-match rules sieve shares are fit = (
  fit.long,
  λ e d lt.
      let within : e < length rules.pairs = omega (arith, fit.long, lt) in
      let same : get_or shares e d ≡ slice_index shares e = get_or_default_zero shares e d lt in
      omega (arith, same, fit.caps e within, when-at_most (keeps rules sieve e) (pair_at rules e).cap, (are.pairs.each e within).within),
)

-- pieces that meet the rules hold places of them
pieces-match : (rules : RulesValue) (lottery : List Piece) → All (λ piece. Meets rules piece.pairs) lottery → LotteryMatches rules lottery
pieces-match rules lottery meets = λ k d lt. (meets k d lt).candidates

-- what is known of a lottery under a sieve, its shares and its prices
pub record IsFound (rules : RulesValue) (sieve : Sieve) (shares : List ℕ) (prices : Prices) (found : ℤ) (lottery : List Piece) : Type 0 where
  pub fit : SharesFit rules sieve shares
  pub prices_match : PricesMatch rules prices
  pub is_bound : found ≡ bound rules sieve prices
  pub is_score : bound rules sieve prices ≡ shares_score rules shares
  pub whole : tickets lottery ≡ rules.tickets
  pub exact : HasShares rules shares lottery
  pub meets : All (λ piece. Meets rules piece.pairs) lottery
  pub fits : Fits rules sieve lottery

-- then it is certified at a level with that sieve
pub found-certified : (rules : RulesValue) (mode : Mode) (level : Level) (shares : List ℕ) (prices : Prices) (found : ℤ) (lottery : List Piece) → AreRules rules
    → IsLevelFor rules mode level → IsFound rules (sieve_of level) shares prices found lottery
    → Certified rules mode (record { mode = mode; level = level; total = found; prices = prices; shares = shares; lottery = lottery })
found-certified rules mode level shares prices found lottery are at f =
    let matching : LotteryMatches rules lottery = pieces-match rules lottery f.meets in
    let score : found ≡ shares_score rules shares = f.is_bound ∙ f.is_score in
    let fit : SharesFit rules EveryPair shares = shares_fit-more rules (sieve_of level) EveryPair shares (finer-every_pair (sieve_of level)) f.fit in
    record {
      of_mode = refl;
      suits = at.suits;
      fitting = record {
        level = at.known;
        in_all = rw score (score-near rules shares are fit);
        prices = f.prices_match;
        shares = shares-match rules (sieve_of level) shares are f.fit;
        pieces = matching;
      };
      fits = f.fits;
      whole = f.whole;
      exact = f.exact;
      scored = total_of_shares rules shares lottery matching f.exact ∙ sym score;
      bounded = f.is_bound;
      level = at.right (lottery, f.fits);
      above = at.above;
    }

-- the levels of the modes
pub level-whole : (rules : RulesValue) → IsLevelFor rules Whole Unasked
level-whole rules = record { suits = refl; known = tt; right = λ can. tt; above = tt }

pub level-free : (rules : RulesValue) → CanFitLocked rules → IsLevelFor rules Fair Free
level-free rules can = record { suits = λ same. cc; known = tt; right = λ fits. can; above = tt }

pub level-at : (rules : RulesValue) (score : ℤ) (shares : List ℕ) (cut : Cut) → AreRules rules → IsLevelAt rules score shares cut
    → IsLevelFor rules Fair (At score cut)
level-at rules score shares cut are at = record {
  suits = λ same. cc;
  known = (score-within rules score are at.of_pair, at.known);
  right = λ can. level-threshold rules score shares cut are at can;
  above = at.above;
}
  where
    score-within : (rules : RulesValue) (score : ℤ) → AreRules rules → IsOpenScore rules score → IsWithin most_score score
    score-within rules score are (e, (within, (free, is))) = rw (← is) ((are.pairs.each e within).low, (are.pairs.each e within).high)

-- a certified lottery is best among those under the sieve of its level
pub certified-best : (rules : RulesValue) (mode : Mode) (winning : Winning) → AreRules rules → Certified rules mode winning
    → Best rules (sieve_of winning.level) winning.lottery
certified-best rules mode winning are c =
    best_at_bound rules (sieve_of winning.level) winning.prices winning.lottery are c.fits c.whole (c.scored ∙ c.bounded)

-- in the mode whole, among all
pub certified-whole-best : (rules : RulesValue) (winning : Winning) → AreRules rules → Certified rules Whole winning → Best rules EveryPair winning.lottery
certified-whole-best rules winning are c =
    subst (λ (level : Level). Best rules (sieve_of level) winning.lottery) c.suits (certified-best rules Whole winning are c)

pub verdict-matches : (rules : RulesValue) (mode : Mode) (answer : Answer) → IsVerdict rules mode answer → AnswerMatches rules answer
verdict-matches rules mode (Lottery winning) v = v.certified.fitting
verdict-matches rules mode (Infeasible blocked) v = v.shown.fitting

pub verdict-best : (rules : RulesValue) (mode : Mode) (answer : Answer) → AreRules rules → IsVerdict rules mode answer
    → IfLottery answer (λ winning. Best rules (sieve_of winning.level) winning.lottery)
verdict-best rules mode (Lottery winning) are v = certified-best rules mode winning are v.certified
verdict-best rules mode (Infeasible blocked) are v = tt

pub verdict-whole-best : (rules : RulesValue) (answer : Answer) → AreRules rules → IsVerdict rules Whole answer
    → IfLottery answer (λ winning. Best rules EveryPair winning.lottery)
verdict-whole-best rules (Lottery winning) are v = certified-whole-best rules winning are v.certified
verdict-whole-best rules (Infeasible blocked) are v = tt

-- in either mode a lottery comes exactly where some lottery fits
won-can : (rules : RulesValue) (mode : Mode) (winning : Winning) → IsWon rules mode winning → CanFit rules EveryPair
won-can rules mode winning won =
    (winning.lottery, fits-more rules (sieve_of winning.level) EveryPair winning.lottery (finer-every_pair (sieve_of winning.level)) won.certified.fits)

pub verdict-feasible : (rules : RulesValue) (mode : Mode) (answer : Answer) → IsVerdict rules mode answer → IsLottery answer ↔ CanFit rules EveryPair
verdict-feasible rules mode (Lottery winning) v = (λ is. won-can rules mode winning v, λ can. tt)
verdict-feasible rules mode (Infeasible blocked) v = (λ is. absurd is, λ can. v.none can.0 can.1)

pub verdict-infeasible : (rules : RulesValue) (mode : Mode) (answer : Answer) → IsVerdict rules mode answer → IsInfeasible answer ↔ NoneFits rules
verdict-infeasible rules mode (Lottery winning) v =
    (λ is. absurd is, λ none. let can : CanFit rules EveryPair = won-can rules mode winning v in none can.0 can.1)
verdict-infeasible rules mode (Infeasible blocked) v = (λ is. v.none, λ none. tt)

-- in the mode fair the level is that of the rules
pub verdict-level : (rules : RulesValue) (answer : Answer) → IsVerdict rules Fair answer → IfLottery answer (λ winning. HasLevel rules winning.level)
verdict-level rules (Lottery winning) v = v.certified.level
verdict-level rules (Infeasible blocked) v = tt

pub verdict-above : (rules : RulesValue) (mode : Mode) (answer : Answer) → IsVerdict rules mode answer → IfLottery answer (λ winning. CutIsViolated rules winning.level)
verdict-above rules mode (Lottery winning) v = v.certified.above
verdict-above rules mode (Infeasible blocked) v = tt
