use Rattle.std.proofs.Common.{length, ap, ◌∙◌, rules}
use Rattle.match_rules.specs.Breaks.{first_break_of, piece_breaks, pair_breaks, tickets_break}
use Rattle.match_rules.specs.declared.sizes.Sizes.{Sizes}
use Rattle.match_rules.proofs.Firsts.{first_of_two-first, first_of_two-second, none-tested}
use Rattle.match_rules.proofs.Soundness.{sound_iff}
use Rattle.match_rules.proofs.check.first_break.Goals as goal

pub broken_piece-broken-requires-clause-papers : goal.broken_piece-broken-requires-clause-papers
broken_piece-broken-requires-clause-papers c =
    ap length c.as_mut_slice.ensures.value ∙ ap (λ (sizes : Sizes). sizes.papers) (c.scratch.view_is ∙ c.requires.scratch)

pub broken_piece-broken-requires-clause-reviewers : goal.broken_piece-broken-requires-clause-reviewers
broken_piece-broken-requires-clause-reviewers c =
    ap length c.as_mut_slice-2.ensures.value ∙ ap (λ (sizes : Sizes). sizes.reviewers) (c.scratch.view_is ∙ c.requires.scratch)

pub broken_piece-broken-requires-clause-groups : goal.broken_piece-broken-requires-clause-groups
broken_piece-broken-requires-clause-groups c =
    ap length c.as_mut_slice-3.ensures.value ∙ ap (λ (sizes : Sizes). sizes.groups) (c.scratch.view_is ∙ c.requires.scratch)

pub broken_pair-requires-clause-size : goal.broken_pair-requires-clause-size
broken_pair-requires-clause-size c =
    ap length c.as_mut_slice-4.ensures.value ∙ ap (λ (sizes : Sizes). sizes.pairs) (c.scratch.view_is ∙ c.requires.scratch)

pub returns-then-is_some-clause-exact : goal.returns-then-is_some-clause-exact
unfolding first_break_of
returns-then-is_some-clause-exact c =
    let of = c.args.rules.now in
    let lottery = c.args.lottery.now in
    let one = c.broken_tickets-broken.ensures.exact ∙ ap (tickets_break of) c.pieces-pieces.ensures.value in
    first_of_two-first (tickets_break of lottery) _ _ one (search rules)

pub returns-then-is_some-clause-fits : goal.returns-then-is_some-clause-fits
returns-then-is_some-clause-fits c =
    sound_iff c.args.rules.now c.args.shares.now c.args.lottery.now _ c.broken_tickets-broken.ensures.rules c.pieces-pieces.ensures.kept c.requires.lottery (returns-then-is_some-clause-exact c)

pub returns-then-is_some-2-clause-exact : goal.returns-then-is_some-2-clause-exact
unfolding first_break_of
returns-then-is_some-2-clause-exact c =
    let of = c.args.rules.now in
    let lottery = c.args.lottery.now in
    let one = c.broken_tickets-broken.ensures.exact ∙ ap (tickets_break of) c.pieces-pieces.ensures.value in
    let two = c.broken_piece-broken.ensures ∙ ap (piece_breaks of) c.pieces-pieces.ensures.value in
    first_of_two-second (tickets_break of lottery) _ _ (none-tested _ _ c.is_some.result one c.is_some.ensures (search rules))
    (first_of_two-first (piece_breaks of lottery) _ _ two (search rules))

pub returns-then-is_some-2-clause-fits : goal.returns-then-is_some-2-clause-fits
returns-then-is_some-2-clause-fits c =
    sound_iff c.args.rules.now c.args.shares.now c.args.lottery.now _ c.broken_tickets-broken.ensures.rules c.pieces-pieces.ensures.kept c.requires.lottery (returns-then-is_some-2-clause-exact c)

pub returns-clause-exact : goal.returns-clause-exact
unfolding first_break_of
returns-clause-exact c =
    let of = c.args.rules.now in
    let lottery = c.args.lottery.now in
    let one = c.broken_tickets-broken.ensures.exact ∙ ap (tickets_break of) c.pieces-pieces.ensures.value in
    let two = c.broken_piece-broken.ensures ∙ ap (piece_breaks of) c.pieces-pieces.ensures.value in
    let three = c.broken_pair.ensures ∙ ap (λ shares. pair_breaks of shares c.pieces-pieces.result.now) c.as_slice.ensures ∙ ap (pair_breaks of c.args.shares.now) c.pieces-pieces.ensures.value in
    first_of_two-second (tickets_break of lottery) _ _ (none-tested _ _ c.is_some.result one c.is_some.ensures (search rules))
    (first_of_two-second (piece_breaks of lottery) _ _ (none-tested _ _ c.is_some-2.result two c.is_some-2.ensures (search rules)) three)

pub returns-clause-fits : goal.returns-clause-fits
returns-clause-fits c =
    sound_iff c.args.rules.now c.args.shares.now c.args.lottery.now _ c.broken_tickets-broken.ensures.rules c.pieces-pieces.ensures.kept c.requires.lottery (returns-clause-exact c)
