use Rattle.std.proofs.Common.{rules, ◌∙◌, ap, sym, subst}
use Rattle.match_rules.specs.Answers.{CutMatches}
use Rattle.match_rules.specs.Evidence.{need, room, Violated}
use Rattle.bounded_network.proofs.CutLaws.{cut-matches, need-is_floors, room-is_rooms, cut-violated}
use Rattle.bounded_network.proofs.back.cut_of.Goals as goal

pub returns-clause-value : goal.returns-clause-value
returns-clause-value c = search rules

pub returns-clause-fitting : goal.returns-clause-fitting
returns-clause-fitting c =
    subst (λ cut. CutMatches c.args.rules.now cut) (sym (returns-clause-value c)) (cut-matches c.args.rules.now c.args.marks.now)

pub returns-clause-need : goal.returns-clause-need
returns-clause-need c =
    ap (need c.args.rules.now c.args.sieve) (returns-clause-value c) ∙ need-is_floors c.args.rules.now c.args.sieve c.args.marks.now c.hub_of.ensures.kept

pub returns-clause-room : goal.returns-clause-room
returns-clause-room c =
    ap (room c.args.rules.now c.args.sieve) (returns-clause-value c) ∙ room-is_rooms c.args.rules.now c.args.sieve c.args.marks.now c.hub_of.ensures.kept

pub returns-clause-violated : goal.returns-clause-violated
returns-clause-violated c =
    subst (λ cut. Violated c.args.rules.now c.args.sieve cut) (sym (returns-clause-value c))
    (cut-violated c.args.rules.now c.args.sieve c.args.marks.now c.hub_of.ensures.kept c.requires.broken)
