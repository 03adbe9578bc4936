use Rattle.std.proofs.Common.{◌≡◌, ℕ, ◌++◌, List, sym, ap, ◌∙◌, arith}
use Rattle.std.proofs.lemmas.Result.{err_from_is_err_and}
use Rattle.edge_io.specs.Told.{told}
use Rattle.text_lines.specs.Reading.{LinesValue}
use Rattle.text_lines.proofs.CauseLaws.{cause_goes_on}
use Rattle.text_lines.proofs.LineLaws.{IsPlain, TakesPiece, truncated_at, piece_fails, piece_ends, piece_stays_plain, piece_keeps, none_left}
use Rattle.text_lines.proofs.lines.Lines.next.Goals as goal

-- more bytes change neither the line nor what is still to be read
after_more : (old now : LinesValue) (left_old left bytes : List ℕ) → now.line ≡ old.line → now.unread ++ left ≡ old.unread ++ left_old → old.line ++ (old.unread ++ left_old) ≡ bytes
    → now.line ++ (now.unread ++ left) ≡ bytes
after_more old now left_old left bytes line rest all = rw (line, rest) all

pub returns-then-not-branch-clause-reads : goal.returns-then-not-branch-clause-reads
returns-then-not-branch-clause-reads g c = λ tells.
    let none = c.in_ok-more.ensures.end tells c.if-not-branch.true in
    truncated_at _ c.loop-self.self.line _ c.loop-self.invariant.plain c.loop-self.invariant.fits (ap (λ (xs : List ℕ). c.loop-self.self.line ++ xs) (sym none) ∙ c.loop-self.invariant.all (c.more.ensures.untold tells))

pub returns-in_err-take_piece-clause-reads : goal.returns-in_err-take_piece-clause-reads
returns-in_err-take_piece-clause-reads g c =
    let p = err_from_is_err_and c.from_residual-in_err-take_piece.result c.from_residual-in_err-take_piece.ensures.1 in
    let plain : IsPlain c.more.new.self.line = rw c.more.ensures.same.0 c.loop-self.invariant.plain in
    rw (p.1, p.2) (λ tells. piece_fails c.more.new.self c.in_err-take_piece.field-0.0 _ _ (told (g.S.Source.left c.more.new.source)) c.in_err-take_piece.ensures.long plain (c.more.ensures.same.1 ∙ c.loop-self.invariant.number) (after_more c.loop-self.self c.more.new.self _ _ _ c.more.ensures.same.0 (c.more.ensures.all tells) (c.loop-self.invariant.all (c.more.ensures.untold tells))))

pub returns-then-branch-clause-reads : goal.returns-then-branch-clause-reads
returns-then-branch-clause-reads g c =
    let e = c.in_ok-take_piece.ensures in
    let takes : TakesPiece c.more.new.self c.take_piece.new.self c.in_ok-take_piece.field-0 = record { ends = e.found; line = e.line; rest = e.rest; number = e.number; fits = e.fits } in
    let plain : IsPlain c.more.new.self.line = rw c.more.ensures.same.0 c.loop-self.invariant.plain in
    λ tells. piece_ends c.more.new.self c.take_piece.new.self c.in_ok-take_piece.field-0 _ _ (told (g.S.Source.left c.more.new.source)) takes c.if-branch.true plain (c.more.ensures.same.1 ∙ c.loop-self.invariant.number) (after_more c.loop-self.self c.more.new.self _ _ _ c.more.ensures.same.0 (c.more.ensures.all tells) (c.loop-self.invariant.all (c.more.ensures.untold tells)))

pub loop-self-preserved : goal.loop-self-preserved
loop-self-preserved g c =
    let e = c.in_ok-take_piece.ensures in
    let takes : TakesPiece c.more.new.self c.take_piece.new.self c.in_ok-take_piece.field-0 = record { ends = e.found; line = e.line; rest = e.rest; number = e.number; fits = e.fits } in
    let plain : IsPlain c.more.new.self.line = rw c.more.ensures.same.0 c.loop-self.invariant.plain in
    record {
      number = e.number ∙ rw c.if-branch.false (c.more.ensures.same.1 ∙ c.loop-self.invariant.number);
      plain = piece_stays_plain c.more.new.self c.take_piece.new.self c.in_ok-take_piece.field-0 takes c.if-branch.false plain;
      fits = e.fits;
      all = λ tells. piece_keeps c.more.new.self c.take_piece.new.self c.in_ok-take_piece.field-0 _ _ takes c.if-branch.false (after_more c.loop-self.self c.more.new.self _ _ _ c.more.ensures.same.0 (c.more.ensures.all tells) (c.loop-self.invariant.all (c.more.ensures.untold tells)));
      untold = λ tells. c.loop-self.invariant.untold (c.more.ensures.untold tells);
      later = omega (arith, c.more.ensures.cause.later, c.loop-self.invariant.later);
    }

pub returns-in_err-more-clause-cause : goal.returns-in_err-more-clause-cause
returns-in_err-more-clause-cause g c =
    let p = err_from_is_err_and c.from_residual.result c.from_residual.ensures.1 in
    rw (p.1, p.2) (cause_goes_on _ _ _ _ _ c.loop-self.invariant.later c.in_err-more.ensures.cause)

pub returns-in_err-more-clause-untold : goal.returns-in_err-more-clause-untold
returns-in_err-more-clause-untold g c = λ tells. c.loop-self.invariant.untold (c.more.ensures.untold tells)

pub returns-in_err-take_piece-clause-untold : goal.returns-in_err-take_piece-clause-untold
returns-in_err-take_piece-clause-untold g c = λ tells. c.loop-self.invariant.untold (c.more.ensures.untold tells)

pub returns-then-not-branch-clause-cause : goal.returns-then-not-branch-clause-cause
returns-then-not-branch-clause-cause g c = record {
  later = omega (arith, c.more.ensures.cause.later, c.loop-self.invariant.later);
  failed = λ fault. absurd (cc);
  ended = λ tells ended. none_left c.more.new.self.unread _ _ (c.more.ensures.all tells) (c.in_ok-more.ensures.end tells c.if-not-branch.true);
}
