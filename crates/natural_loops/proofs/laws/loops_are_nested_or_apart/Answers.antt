use Rattle.std.proofs.Common.{inl, inr}
use Rattle.natural_loops.proofs.Nesting.{same_loop, header_inside, nested}
use Rattle.natural_loops.proofs.laws.loops_are_nested_or_apart.Goals as goal

pub returns-clause-one : goal.returns-clause-one
returns-clause-one c f l k b first second same held = same_loop f l k first second same b held

pub returns-clause-nested : goal.returns-clause-nested
returns-clause-nested c f l k b never first second held also =
    elim (nested f never l k first second b held also) [
      | inl there ↦ inr (λ other inside. header_inside f k l second first there other inside)
      | inr there ↦ inl (λ other inside. header_inside f l k first second there other inside)
    ]
