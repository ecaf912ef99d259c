-- Where the number outgrows 64 bits, it is too great.
use Rattle.std.proofs.Common.{◌+◌, ◌-◌, ◌*◌, ◌^◌, ◌≤◌, take, get_or, arith}
use Rattle.model_text.specs.Tokens.{number_of}
use Rattle.aio_lex.proofs.NumberLemmas.{too_great}
use Rattle.aio_lex.proofs.number.number.Goals as goal

pub returns-in_err-checked_mul : goal.returns-in_err-checked_mul
returns-in_err-checked_mul c =
    let text = c.args.text.now in
    let i = c.loop-digit.digit-index in
    let great : 2 ^ 63 ≤ 10 * number_of (take i text) + (get_or text i 0 - 48) =
    omega (arith, c.in_err-checked_mul.ensures, c.loop-digit.invariant.number) in
    rw c.from_residual.ensures (too_great i text c.loop-digit-test.true great)

pub returns-in_err-number : goal.returns-in_err-number
returns-in_err-number c =
    let text = c.args.text.now in
    let i = c.loop-digit.digit-index in
    let great : 2 ^ 63 ≤ 10 * number_of (take i text) + (get_or text i 0 - 48) =
    omega (arith, c.in_err-number.ensures, c.in_ok-checked_mul.ensures, c.from.ensures, c.loop-digit.invariant.number) in
    rw c.from_residual-in_err-number.ensures (too_great i text c.loop-digit-test.true great)
