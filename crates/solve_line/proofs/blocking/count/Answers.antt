use Rattle.std.proofs.Common.{refl}
use Rattle.match_rules.specs.declared.answer.Sieve.TheVariants.{All as EveryPair}
use Rattle.match_rules.specs.Rules.{RulesValue}
use Rattle.dual_check.proofs.CutLaws.{none_fits_at_violated}
use Rattle.solve_line.proofs.blocking.count.Goals as goal

pub returns : goal.returns
returns c =
    let all : RulesValue = c.args.rules.now in
    record {
      of_mode = refl;
      shown = record {
        fitting = c.requires.known;
        need = c.excess-need.ensures.need;
        room = c.excess-need.ensures.room;
        violated = rw (c.excess-need.ensures.need, c.excess-need.ensures.room) c.requires.violated;
      };
      none = none_fits_at_violated all EveryPair c.args.cut c.pairs-pairs.ensures.kept c.requires.violated;
    }
