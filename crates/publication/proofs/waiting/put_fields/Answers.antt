use Rattle.std.proofs.Common.{refl, rules}
use Rattle.publication.specs.Waiting.{next_field}
use Rattle.publication.proofs.WaitingLaws.{put_more, put_fails, put_all}
use Rattle.publication.proofs.waiting.put_fields.Goals as goal

pub returns-in_err-put_field-clause-puts : goal.returns-in_err-put_field-clause-puts
returns-in_err-put_field-clause-puts g c = put_fails next_field c.args.numbers.now c.loop-number.number-index _ 0 _ _ _ _ _ _ _ _ _ c.loop-number-test.true refl c.loop-number.invariant.front c.in_err-put_field.ensures.puts c.from_residual.ensures.0

pub loop-number-preserved : goal.loop-number-preserved
loop-number-preserved g c = record {
  front = put_more next_field c.args.numbers.now c.loop-number.number-index _ 0 _ _ _ _ _ _ _ c.loop-number-test.true refl c.loop-number.invariant.front c.in_ok-put_field.ensures.puts;
  later = search rules;
}

pub returns-clause-puts : goal.returns-clause-puts
returns-clause-puts g c = put_all next_field c.args.numbers.now c.loop-number.number-index _ _ _ _ _ c.loop-number-test.false c.loop-number.invariant.front
