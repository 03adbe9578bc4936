use Rattle.std.proofs.Common.{◌≡◌, rules, to_z, of_z, w64}
use Rattle.std.specs.Prelude.{ℤ, pos, ◌≤ℤ◌}
use Rattle.match_rules.specs.declared.answer.Sieve.TheVariants.{AtLeast, Above}
use Rattle.match_rules.specs.Evidence.{Violated}
use Rattle.match_rules.specs.Rules.{RulesValue, most_score}
use Rattle.match_rules.proofs.SieveLaws.{finer-equal}
use Rattle.fair_threshold.specs.Search.{IsBarred}
use Rattle.fair_threshold.proofs.LevelLaws.{ceiling-of}
use Rattle.fair_threshold.proofs.SieveLaws.{violated-finer}
use Rattle.fair_threshold.proofs.descent.follow.Goals as goal

pub returns-in-Barred : goal.returns-in-Barred
returns-in-Barred c =
    let all : RulesValue = c.args.rules.now in
    let high : ℤ = to_z w64 (of_z w64 c.in-Some.high) in
    let same : high ≡ c.in-Some.high = search rules in
    let low : c.in-Some.high ≤ℤ pos most_score = rw c.in-Some.is at c.in_ok-high.ensures.low in
    let barred : IsBarred all (AtLeast c.in-Some.high) c.in-Barred.cut = rw (c.in-Barred.is, same) at c.in_ok-shares.ensures in
    let above : Violated all (Above c.in-Some.high) c.in-Barred.cut =
    violated-finer all (Above c.in-Some.high) (AtLeast c.in-Some.high) c.in-Barred.cut c.pairs-pairs.ensures.kept (finer-equal c.in-Some.high) barred.violated in
    ceiling-of all c.in-Some.high high c.in-Barred.cut same barred.known low above
