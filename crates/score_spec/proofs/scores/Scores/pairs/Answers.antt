use Rattle.score_spec.proofs.PairKeys.{ascend-keys, are-keys}
use Rattle.std.proofs.lemmas.Result.{IfOk-weaker}
use Rattle.score_spec.proofs.scores.Scores.pairs.Goals as goal

pub returns-clause-ascend : goal.returns-clause-ascend
returns-clause-ascend c = IfOk-weaker c.keys_of.result _ _ (λ keys is. ascend-keys c.in_ok-union.union keys.items c.in_ok-union.ensures.pairs is) c.keys_of.ensures

pub returns-clause-rows : goal.returns-clause-rows
returns-clause-rows c =
    rw (← c.self.view_is) (IfOk-weaker c.keys_of.result _ _ (λ keys is. are-keys c.in_ok-union.union keys.items _ c.in_ok-union.ensures.pairs is c.in_ok-union.ensures.has) c.keys_of.ensures)
