use Rattle.std.proofs.Common.{◌+◌, Bool, List, ℕ, ◌++◌, sym, ap, ◌∙◌, arith}
use Rattle.ir_text.specs.PassedOn.{spaced}
use Rattle.ir_parts.specs.TextReading.{between, first_text, space_behind}
use Rattle.ir_parts.proofs.Between.{one_more_text, no_more_text}
use Rattle.ir_parts.proofs.passed_text.text_between.Goals as goal

pub tokens-preserved : goal.tokens-preserved
tokens-preserved c = record {
  so_far = ap (λ (text : List ℕ). text ++ spaced c.starts_string-before.result (between c.args.tokens.now
      (c.tokens.at + 1) c.args.to)) c.in_ok-push_spaced.ensures
      ∙ (ap (λ (before : Bool). (c.tokens.text.items ++ (first_text (between c.args.tokens.now c.tokens.at c.args.to)
      ++ space_behind c.tokens.before (between c.args.tokens.now c.tokens.at c.args.to)))
      ++ spaced before (between c.args.tokens.now (c.tokens.at + 1) c.args.to)) c.starts_string-before.ensures
      ∙ (one_more_text c.args.tokens.now c.tokens.before c.tokens.at c.args.to c.tokens.text.items
      c.tokens-test.true c.requires.1
      ∙ c.tokens.invariant.so_far));
  forth = omega (arith, c.tokens.invariant.forth);
  within = omega (arith, c.tokens-test.true);
}

pub returns : goal.returns
returns c =
    c.from_vec.ensures
    ∙ (sym (no_more_text c.args.tokens.now c.tokens.before c.tokens.at c.args.to c.tokens.text.items
    c.tokens-test.false)
    ∙ c.tokens.invariant.so_far)
