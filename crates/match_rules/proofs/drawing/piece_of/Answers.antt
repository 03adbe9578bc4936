use Rattle.match_rules.proofs.Draws.{piece_here, piece_nowhere}
use Rattle.match_rules.proofs.drawing.piece_of.Goals as goal

pub returns-then-left-piece-clause-exact : goal.returns-then-left-piece-clause-exact
returns-then-left-piece-clause-exact c =
    piece_here _ _ _ _ _ c.piece-item.result c.pieces-piece-items.ensures.value c.loop-place-test.true c.piece-item.is c.loop-place.invariant c.if-left-piece.true

pub returns-clause-exact : goal.returns-clause-exact
returns-clause-exact c = piece_nowhere _ _ _ _ _ c.pieces-piece-items.ensures.value c.loop-place-test.false c.loop-place.invariant
