-- Each item is smaller than its list; lists of other lengths are not equal.
use Rattle.std.proofs.Common.{rules, ◌<◌, sym}
use Rattle.law_value.proofs.Equals.{same_items-lengths}
use Rattle.aio_base.specs.Size.{value_size, list_size}
use Rattle.aio_base.proofs.Sizes.{value_size-item}
use Rattle.aio_base.proofs.equality.+equality.Goals as goal

pub all_equal-returns-then-a-b : goal.all_equal-returns-then-a-b
all_equal-returns-then-a-b t c = sym (same_items-lengths c.args.a.now c.args.b.now c.if-a-b.true)

pub all_equal-equal-requires : goal.all_equal-equal-requires
all_equal-equal-requires t c =
    let smaller : value_size c.index-a-i.result < list_size c.args.a.now =
    value_size-item c.args.a.now c.loop-i.i c.index-a-i.result c.loop-i-test.true c.index-a-i.is in
    search rules
