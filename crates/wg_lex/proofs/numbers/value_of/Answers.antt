use Rattle.std.proofs.Common.{◌+◌, ◌*◌, ◌^◌, ◌≤◌, get_or, arith}
use Rattle.wg_tokens.specs.Characters.{digit_value}
use Rattle.wg_lex.proofs.NumberSizes.{wide_worth, none_if_wide}
use Rattle.wg_lex.proofs.numbers.value_of.Goals as goal

pub returns-in_err-checked_mul-clause-wide : goal.returns-in_err-checked_mul-clause-wide
returns-in_err-checked_mul-clause-wide c =
    let wide : 2 ^ 64 ≤ c.loop-b.value * c.args.base + digit_value (get_or c.args.digits.now c.loop-b.b-index 0) = omega (arith, c.in_err-checked_mul.ensures) in
    none_if_wide c.from_residual.result _ (wide_worth c.args.base c.args.digits.now c.loop-b.b-index c.loop-b.value c.requires c.loop-b-test.true c.loop-b.invariant wide)

pub returns-in_err-value-clause-wide : goal.returns-in_err-value-clause-wide
returns-in_err-value-clause-wide c =
    let product = c.in_ok-checked_mul.ensures.1 in
    let wide : 2 ^ 64 ≤ c.loop-b.value * c.args.base + digit_value (get_or c.args.digits.now c.loop-b.b-index 0) = omega (arith, c.in_err-value.ensures, product, c.digit_value.ensures) in
    none_if_wide c.from_residual-in_err-value.result _ (wide_worth c.args.base c.args.digits.now c.loop-b.b-index c.loop-b.value c.requires c.loop-b-test.true c.loop-b.invariant wide)
