use Rattle.std.proofs.Common.{◌≡◌, ap, ◌∙◌, arith}
use Rattle.std.proofs.lemmas.List.{take_all}
use Rattle.std.specs.Str.Parse.{digits_value}
use Rattle.ir_lex.proofs.OneMoreDigit.{digit_step}
use Rattle.ir_lex.proofs.number.unsigned_value.Goals as goal

pub returns-in_err-checked_mul : goal.returns-in_err-checked_mul
returns-in_err-checked_mul c =
    let step =
    digit_step c.args.digits.now c.loop-digit.digit-index c.loop-digit.value c.requires
    (omega arith) c.loop-digit.invariant.0 in
    rw c.from_residual.ensures (λ small. c.in_err-checked_mul.ensures (omega (arith, step.value, step.most)))

pub overflow_sub-digit : goal.overflow_sub-digit
overflow_sub-digit c =
    (digit_step c.args.digits.now c.loop-digit.digit-index c.loop-digit.value c.requires
    (omega arith) c.loop-digit.invariant.0).digit

pub returns-in_err-value : goal.returns-in_err-value
returns-in_err-value c =
    let step =
    digit_step c.args.digits.now c.loop-digit.digit-index c.loop-digit.value c.requires
    (omega arith) c.loop-digit.invariant.0 in
    let product = c.in_ok-checked_mul.ensures in
    rw c.from_residual-in_err-value.ensures
    (λ small. c.in_err-value.ensures (omega (arith, step.value, step.most, product.1, c.from.ensures)))

pub loop-digit-preserved : goal.loop-digit-preserved
loop-digit-preserved c =
    let step =
    digit_step c.args.digits.now c.loop-digit.digit-index c.loop-digit.value c.requires
    (omega arith) c.loop-digit.invariant.0 in
    let product = c.in_ok-checked_mul.ensures in
    let total = c.in_ok-value.ensures in (
      omega (arith, step.value, product.1, total.1, c.from.ensures, c.loop-digit.invariant.0),
      omega (arith, total.0, total.1),
    )

pub returns : goal.returns
returns c =
    let value : c.loop-digit.value ≡ digits_value 10 c.args.digits.now =
    c.loop-digit.invariant.0
    ∙ ap (digits_value 10) (take_all c.loop-digit.digit-index c.args.digits.now (omega arith)) in
    (omega (arith, c.loop-digit.invariant.1), value)
