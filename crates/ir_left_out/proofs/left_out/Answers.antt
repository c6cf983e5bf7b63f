use Rattle.ir_left_out.proofs.NamedParts.{named_callee, not_named}
use Rattle.ir_left_out.proofs.left_out.Goals as goal

pub returns-then-branch : goal.returns-then-branch
returns-then-branch c =
    named_callee c.args.tokens.now c.args.at
    (record { lexeme = record { kind = c.in-Some.kind; text = c.in-Some.text.now }; from = c.in-Some.from })
    c.in-Some.ensures.value (c.in_ok-is_intrinsic_callee.ensures.0 c.if-branch.true)

pub returns : goal.returns
returns c =
    let none = rw c.in_default-2.is at c.in_ok-number.ensures.value in
    not_named c.args.tokens.now c.args.at
    (record { lexeme = record { kind = c.in-Some.kind; text = c.in-Some.text.now }; from = c.in-Some.from })
    c.in-Some.ensures.value c.in_default-number_of.ensures none
    (λ calls. let is = c.in_ok-is_intrinsic_callee.ensures.1 calls in let isnt = c.if-branch.false in cc)
