-- Each publication of a legal history is a best lottery, where each edition makes rules.
use Rattle.std.proofs.Common.{◌≡◌, ◌*◌, ◌∙◌, ◌≤◌, ◌<◌, ℕ, Bool, true, false, List, Some, length, ap, arith, subst}
use Rattle.match_rules.specs.Answers.{Certified}
use Rattle.match_rules.specs.Assignments.{cap_under, keeps, times}
use Rattle.match_rules.specs.Rules.{AreRules, RulesValue, pair_at}
use Rattle.match_rules.specs.Sums.{when}
use Rattle.match_rules.specs.Thresholds.{sieve_of}
use Rattle.match_rules.specs.declared.answer.Answer.TheVariants.{Lottery}
use Rattle.match_rules.specs.declared.answer.Mode.{Mode}
use Rattle.match_rules.specs.declared.answer.Winning.{Winning}
use Rattle.desk_history.specs.declared.jobs.Publication.{Publication}
use Rattle.desk_history.specs.Histories.{History, edition, edits, jobs, publications}
use Rattle.desk_history.specs.Looks.{rules_at, rules_or_none}
use Rattle.desk_history.specs.Opened.{IsLegal}
use Rattle.desk_reopening.specs.Editions.{EditionsMakeRules, MakesRules}
use Rattle.desk_laws.specs.Best.{EachBest, IsBestIn, IsBestOf}
use Rattle.desk_laws.specs.Evidence.{IsBacked}
use Rattle.desk_laws.proofs.EvidenceLaws.{IsSound, all_nth, all_then}
use Rattle.desk_laws.proofs.LegalLaws.{certified_best, legal_sound}
use Rattle.desk_laws.proofs.PublishedLaws.{legal_published}

when_less : (holds : Bool) (amount : ℕ) → when holds amount ≤ amount
when_less true amount = omega arith
when_less false amount = omega arith

undo_times : (a b most : ℕ) → a * 10000 ≤ b * 10000 → b ≤ most → a ≤ most
undo_times a b most le less = omega (arith, le, less)

under_cap : (value : RulesValue) (mode : Mode) (winning : Winning) → AreRules value → Certified value mode winning → (e : ℕ) → e < length value.pairs → times winning.lottery e ≤ (pair_at value e).cap
under_cap value mode winning are is e lt =
    let part : times winning.lottery e * value.tickets ≤ cap_under value (sieve_of winning.level) e * value.tickets =
    subst (λ n. times winning.lottery e * value.tickets ≤ cap_under value (sieve_of winning.level) e * n) is.whole (is.fits.caps e lt) in
    undo_times (times winning.lottery e) (cap_under value (sieve_of winning.level) e) (pair_at value e).cap
    (subst (λ n. times winning.lottery e * n ≤ cap_under value (sieve_of winning.level) e * n) are.tickets part)
    (when_less (keeps value (sieve_of winning.level) e) (pair_at value e).cap)

best_in : (value : RulesValue) (mode : Mode) (winning : Winning) → AreRules value → Certified value mode winning → IsBestIn value mode winning
best_in value mode winning are is = record {
  all_tickets = is.whole ∙ are.tickets;
  best = certified_best value mode winning are is;
  shares = is.exact;
  caps = λ e lt. subst (λ n. n ≤ (pair_at value e).cap) (is.exact e lt) (under_cap value mode winning are is e lt);
  scored = is.scored;
  of_mode = is.of_mode;
  suits = is.suits;
  threshold = is.level;
}

best_of : (chairs : List (List ℕ)) (H : History) (publication : Publication) → IsLegal chairs H → EditionsMakeRules H → IsBacked H publication → IsBestOf H publication
best_of chairs H publication legal make is =
    let within : is.job.edition ≤ edits H = (all_nth (IsSound H) (jobs H) publication.job is.job (legal_sound chairs H legal) is.there).0 in
    let makes : MakesRules (edition H is.job.edition) = make is.job.edition within in
    let same : rules_at H is.job.edition ≡ makes.0 = ap rules_or_none makes.1.made in
    record {
      job = is.job;
      rules = makes.0;
      winning = is.winning;
      there = is.there;
      within = within;
      are = makes.1;
      shown = is.shown ∙ ap (λ r. Some (record { rules = r; answer = Lottery is.winning })) same;
      best = best_in makes.0 is.job.mode is.winning makes.1.are (subst (λ r. Certified r is.job.mode is.winning) same is.certified);
    }

pub legal_best : (chairs : List (List ℕ)) (H : History) → IsLegal chairs H → EditionsMakeRules H → EachBest H
legal_best chairs H legal make =
    all_then (IsBacked H) (IsBestOf H) (publications H) (λ x is. best_of chairs H x legal make is) (legal_published chairs H legal)
