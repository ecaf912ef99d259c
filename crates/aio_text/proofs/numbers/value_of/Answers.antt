use Rattle.aio_text.proofs.Values.{digits_value-take_more}
use Rattle.aio_text.proofs.numbers.value_of.Goals as goal

pub loop-digit-preserved : goal.loop-digit-preserved
loop-digit-preserved c =
    let e = digits_value-take_more c.args.digits.now c.loop-digit.digit-index 9223372036854775809 c.loop-digit-test.true in
    let i = c.loop-digit.invariant in cc
