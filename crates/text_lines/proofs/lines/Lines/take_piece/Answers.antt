use Rattle.std.proofs.Common.{◌≡◌, ℕ, ◌+◌, ◌-◌, ◌≤◌, List, drop, take, refl, ap, ◌∙◌, arith}
use Rattle.std.specs.Prelude.{slice_range}
use Rattle.std.proofs.lemmas.List.{length-take}
use Rattle.text_lines.specs.Reading.{LinesValue}
use Rattle.text_lines.proofs.LineLaws.{rest_is, feed_at}
use Rattle.text_lines.proofs.lines.Lines.take_piece.Goals as goal

pub returns-then-found-clause-rest : goal.returns-then-found-clause-rest
returns-then-found-clause-rest c =
    let l = c.self.inside in
    let n = c.first_feed-length.result in
    let unread : slice_range l.chunk.items l.start l.end ≡ c.args.self.now.unread = ap (λ (v : LinesValue). v.unread) c.self.view_is in
    let place : n ≡ feed_at c.args.self.now.unread = c.first_feed-length.ensures ∙ ap (λ (t : List ℕ). feed_at (take (l.end - l.start) (drop l.start t))) c.deref.ensures.value ∙ ap feed_at unread in
    let within : l.start + (n + 1) ≤ l.end = omega (arith, c.if-found.true, length-take (l.end - l.start) (drop l.start c.deref.result.now)) in
    let from : l.start + n + 1 ≡ l.start + (n + 1) = omega arith in
    rw (from, rest_is l.chunk.items l.start l.end (n + 1) within, unread, place) refl
