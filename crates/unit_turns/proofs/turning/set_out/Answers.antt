use Rattle.unit_turns.proofs.Growing.{AreNumbered-blank, AreNumbered-equal, AreNumbered-root, IsSide-root}
use Rattle.unit_turns.proofs.turning.set_out.Goals as goal

pub returns-in_err-add-clause-numbered : goal.returns-in_err-add-clause-numbered
returns-in_err-add-clause-numbered c =
    AreNumbered-equal c.args.side.now c.add.new.side c.in_err-add.ensures.same_reaches c.in_err-add.ensures.same_places c.args.net.now (AreNumbered-blank c.args.net.now c.args.side.now c.requires.blank)

pub returns-clause-numbered : goal.returns-clause-numbered
returns-clause-numbered c =
    AreNumbered-root c.args.net.now c.args.side.now c.add.new.side _ c.requires.blank c.requires.root_in c.in_ok-add.ensures.reaches c.in_ok-add.ensures.places

pub returns-clause-side : goal.returns-clause-side
returns-clause-side c = λ flow aim.
    IsSide-root c.args.net.now c.args.side.now c.add.new.side _ c.requires.blank c.requires.root_in c.in_ok-add.ensures.reaches c.in_ok-add.ensures.places flow aim
