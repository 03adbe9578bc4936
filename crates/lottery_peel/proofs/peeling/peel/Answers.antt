use Rattle.std.proofs.Common.{ℕ, List, rules}
use Rattle.std.proofs.lemmas.Cmp.{nat_list_cmp_total}
use Rattle.std.proofs.lemmas.Fn.{always_returns_same}
use Rattle.std.proofs.lemmas.List.MinMax.{ranks_by}
use Rattle.match_rules.specs.declared.lottery.Piece.{Piece}
use Rattle.match_rules.specs.Rules.{RulesValue}
use Rattle.lottery_peel.specs.Peeling.{IsPeeled}
use Rattle.lottery_peel.proofs.PeeledLaws.{is_before, peeled_permuted, peeled_pieces, peeled_fits}
use Rattle.lottery_peel.proofs.peeling.peel.Goals as goal

pub of_tested-requires : goal.of_tested-requires
of_tested-requires c =
    let peeled : IsPeeled c.args.rules.now c.args.shares.now c.sort_unstable_by.new.self.items =
    peeled_permuted c.args.rules.now c.args.shares.now c.in_ok-pieces.pieces.items c.sort_unstable_by.new.self.items c.sort_unstable_by.ensures.permutation c.in_ok-pieces.ensures.peeled in
    peeled_pieces c.args.rules.now c.args.shares.now c.sort_unstable_by.new.self.items c.pieces_of.ensures.kept peeled
    (c.sort_unstable_by.ensures.sorted is_before (ranks_by nat_list_cmp_total (λ (p : Piece). p.pairs))
    (always_returns_same _ _ _ (λ a r f k. search rules)))

pub returns : goal.returns
returns c =
    let all : RulesValue = c.args.rules.now in
    let shares : List ℕ = c.args.shares.now in
    let moved : IsPeeled all shares c.sort_unstable_by.new.self.items =
    peeled_permuted all shares c.in_ok-pieces.pieces.items c.sort_unstable_by.new.self.items c.sort_unstable_by.ensures.permutation c.in_ok-pieces.ensures.peeled in
    let peeled : IsPeeled all shares c.of_tested.result = rw c.of_tested.ensures moved in
    record {
      whole = peeled.whole;
      exact = peeled.exact;
      meets = λ k d lt. (peeled.good k d lt).meets;
      rounded = λ k d lt. (peeled.good k d lt).rounds;
      few = peeled.few;
      fits = λ sieve fit. peeled_fits all sieve shares c.of_tested.result c.pieces_of.ensures.kept peeled fit;
    }
