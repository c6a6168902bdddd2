use Rattle.std.proofs.Common.{arith}
use Rattle.call_script.proofs.Digits.{small, digit, next}
use Rattle.call_script.proofs.arguments.digits_value.Goals as goal

pub overflow_mul-value : goal.overflow_mul-value
overflow_mul-value c =
    let s = small c.args.digits.now c.loop-digit.digit-index c.requires.digits c.requires.short in
    omega (arith, s, c.loop-digit.invariant)

pub overflow_sub-value : goal.overflow_sub-value
overflow_sub-value c =
    let d = digit c.args.digits.now c.loop-digit.digit-index c.requires.digits c.loop-digit-test.true in
    omega (arith, d.0)

pub overflow_add-value : goal.overflow_add-value
overflow_add-value c =
    let s = small c.args.digits.now c.loop-digit.digit-index c.requires.digits c.requires.short in
    let d = digit c.args.digits.now c.loop-digit.digit-index c.requires.digits c.loop-digit-test.true in
    omega (arith, s, d.1, c.loop-digit.invariant)

pub loop-digit-preserved : goal.loop-digit-preserved
loop-digit-preserved c =
    let n = next c.args.digits.now c.loop-digit.digit-index c.requires.digits c.loop-digit-test.true in
    omega (arith, n, c.loop-digit.invariant)
