use Rattle.std.proofs.Common.{◌≡◌, rules, arith, refl, to_z, of_z, w64}
use Rattle.std.proofs.lemmas.Int.{ints}
use Rattle.std.specs.Prelude.{ℤ, ◌<ℤ◌}
use Rattle.match_rules.specs.declared.answer.Sieve.TheVariants.{Above}
use Rattle.match_rules.specs.Rules.{RulesValue}
use Rattle.match_rules.specs.SharesFit.{SharesFit}
use Rattle.fair_threshold.specs.Search.{IsBarred}
use Rattle.fair_threshold.proofs.LevelLaws.{range-of}
use Rattle.fair_threshold.proofs.LockedLaws.{unused-locked}
use Rattle.fair_threshold.proofs.ScoreLaws.{used-above, used-open}
use Rattle.fair_threshold.proofs.SieveLaws.{fit-from_least}
use Rattle.fair_threshold.proofs.narrowing.tried.Goals as goal

pub unreachable-requires : goal.unreachable-requires
unreachable-requires c =
    let all : RulesValue = c.args.rules.now in
    let score : ℤ = to_z w64 (of_z w64 c.args.score) in
    let fit : SharesFit all (Above score) c.in-Fits.shares = rw c.in-Fits.is at c.in_ok-shares.ensures in
    c.requires.asked (unused-locked all (Above score) c.in-Fits.shares c.pairs-pairs.ensures.kept c.in-None.ensures fit)

pub returns-in-Some-clause-range : goal.returns-in-Some-clause-range
returns-in-Some-clause-range c =
    let all : RulesValue = c.args.rules.now in
    let score : ℤ = to_z w64 (of_z w64 c.args.score) in
    let fit : SharesFit all (Above score) c.in-Fits.shares = rw c.in-Fits.is at c.in_ok-shares.ensures in
    let low : to_z w64 (of_z w64 c.in-Some.low) ≡ c.in-Some.low = search rules in
    let high : to_z w64 (of_z w64 c.args.range.high) ≡ c.args.range.high = search rules in
    range-of all c.in-Some.low c.args.range.high (to_z w64 (of_z w64 c.in-Some.low)) (to_z w64 (of_z w64 c.args.range.high)) c.in-Fits.shares c.args.range.cut low high
    (used-open all c.in-Fits.shares c.in-Some.low c.in-Some.ensures.0) (fit-from_least all (Above score) c.in-Fits.shares c.in-Some.low c.in-Some.ensures.1 fit)
    c.requires.range.known c.requires.range.above

pub returns-in-Some-clause-narrower : goal.returns-in-Some-clause-narrower
returns-in-Some-clause-narrower c =
    let all : RulesValue = c.args.rules.now in
    let score : ℤ = to_z w64 (of_z w64 c.args.score) in
    let fit : SharesFit all (Above score) c.in-Fits.shares = rw c.in-Fits.is at c.in_ok-shares.ensures in
    let above : score <ℤ c.in-Some.low = used-above all c.in-Fits.shares score c.in-Some.low fit c.in-Some.ensures.0 in
    let same : to_z w64 (of_z w64 c.args.score) ≡ c.args.score = search rules in
    let low : to_z w64 (of_z w64 c.in-Some.low) ≡ c.in-Some.low = search rules in
    let high : to_z w64 (of_z w64 c.args.range.high) ≡ c.args.range.high = search rules in
    let from = c.requires.from in
    omega (arith, ints, above, same, low, high, from)

pub returns-in-Barred-clause-range : goal.returns-in-Barred-clause-range
returns-in-Barred-clause-range c =
    let all : RulesValue = c.args.rules.now in
    let score : ℤ = to_z w64 (of_z w64 c.args.score) in
    let same : to_z w64 (of_z w64 c.args.range.low) ≡ c.args.range.low = search rules in
    let barred : IsBarred all (Above score) c.in-Barred.cut = rw c.in-Barred.is at c.in_ok-shares.ensures in
    range-of all c.args.range.low score (to_z w64 (of_z w64 c.args.range.low)) score c.args.range.shares c.in-Barred.cut same refl
    c.requires.range.of_pair c.requires.range.fit barred.known barred.violated
