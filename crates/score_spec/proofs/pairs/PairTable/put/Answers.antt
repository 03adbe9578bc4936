use Rattle.std.proofs.Common.{◌≡◌, ◌==◌, ◌&&◌, not, false, sym, ◌∙◌}
use Rattle.std.specs.Prelude.{if◌then◌else◌}
use Rattle.score_spec.specs.declared.pairs.TheConstants.{MOST_PAIR_ROWS}
use Rattle.score_spec.specs.PairTables.{has_pair, pair_count}
use Rattle.score_spec.proofs.PairTables.{has-room, table-put, pair-put, pair-others}
use Rattle.score_spec.proofs.pairs.PairTable.put.Goals as goal

pub invariant_of-self : goal.invariant_of-self
invariant_of-self g c =
    let more : c.in-Ok.more ≡ (if has_pair c.self.inside.papers c.args.paper c.args.reviewer then 0 else 1) =
    rw (← c.text-3.ensures.same, ← c.into_string.ensures) c.in-Ok.ensures.more in
    let room : ((pair_count c.self.inside.papers == MOST_PAIR_ROWS) && not (has_pair c.self.inside.papers c.args.paper c.args.reviewer)) ≡ false =
    rw (← c.text.ensures.same, ← c.text-2.ensures.same, c.self.view_is) (sym c.has_no_room.ensures ∙ c.if-has_no_room.false) in
    let few = has-room c.self.inside.count (pair_count c.self.inside.papers) (has_pair c.self.inside.papers c.args.paper c.args.reviewer) c.in-Ok.more c.self.invariant.exact c.self.invariant.few room more in
    rw (c.in-Ok.ensures.put, c.text-3.ensures.same, c.into_string.ensures)
    (table-put c.args.paper c.args.reviewer c.args.value c.self.inside.papers c.self.inside.count c.in-Ok.more c.text.ensures.kept c.text-2.ensures.kept c.self.invariant more few)

pub returns-in-Ok-clause-stands : goal.returns-in-Ok-clause-stands
returns-in-Ok-clause-stands g c = rw (c.in-Ok.ensures.put, c.text-3.ensures.same, c.into_string.ensures) (pair-put c.args.paper c.args.reviewer c.args.value c.self.inside.papers)

pub returns-in-Ok-clause-others : goal.returns-in-Ok-clause-others
returns-in-Ok-clause-others g c =
    rw (c.in-Ok.ensures.put, c.text-3.ensures.same, c.into_string.ensures, ← c.self.view_is) (pair-others c.args.paper c.args.reviewer c.args.value c.self.inside.papers)
