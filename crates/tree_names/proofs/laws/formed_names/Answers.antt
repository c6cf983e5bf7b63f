use Rattle.std.proofs.Common.{IsTrue}
use Rattle.scev_forms.specs.Sums.{tree_sum, tree_product, recurrence_of}
use Rattle.scev_forms.specs.Casts.{truncated, extended_when}
use Rattle.scev_forms.specs.Quotients.{tree_quotient}
use Rattle.scev_forms.specs.Minima.{tree_minimum}
use Rattle.scev_forms.proofs.Outcomes.{given}
use Rattle.tree_names.specs.Names.{HasPassing}
use Rattle.tree_names.proofs.Only.{nameless_passes, all_from_elements, recurrence_of_only}
use Rattle.tree_names.proofs.Formed.{tree_sum_only, tree_product_only}
use Rattle.tree_names.proofs.Casts.{truncated_only, extended_when_only}
use Rattle.tree_names.proofs.Choices.{quotient_only, minimum_only}
use Rattle.tree_names.proofs.laws.formed_names.Goals as goal

pub returns-clause-sum : goal.returns-clause-sum
returns-clause-sum c parents w left right tree test nameless l r e =
    given (HasPassing test) (tree_sum parents w left right) tree
    (tree_sum_only (λ k. IsTrue (test k)) parents w left right l r) e

pub returns-clause-product : goal.returns-clause-product
returns-clause-product c parents w left right tree test nameless l r e =
    given (HasPassing test) (tree_product parents w left right) tree
    (tree_product_only (λ k. IsTrue (test k)) parents w left right l r) e

pub returns-clause-recurrence : goal.returns-clause-recurrence
returns-clause-recurrence c w l parts tree test nameless h loop e =
    given (HasPassing test) (recurrence_of w l.0 parts) tree
    (recurrence_of_only (λ k. IsTrue (test k)) w l.0 parts loop (all_from_elements (λ k. IsTrue (test k)) parts h)) e

pub returns-clause-truncation : goal.returns-clause-truncation
returns-clause-truncation c parents w tree out test nameless h e =
    given (HasPassing test) (truncated parents w tree) out
    (truncated_only (λ k. IsTrue (test k)) (λ k. nameless_passes test k (nameless k)) parents w tree h) e

pub returns-clause-extension : goal.returns-clause-extension
returns-clause-extension c how w no_wrap tree out test nameless is h e =
    given (HasPassing test) (extended_when how w no_wrap tree) out
    (extended_when_only (λ k. IsTrue (test k)) (λ k. nameless_passes test k (nameless k)) how w no_wrap tree is h) e

pub returns-clause-quotient : goal.returns-clause-quotient
returns-clause-quotient c w left right tree test nameless l r e =
    given (HasPassing test) (tree_quotient w left right) tree
    (quotient_only (λ k. IsTrue (test k)) (λ k. nameless_passes test k (nameless k)) w left right l r) e

pub returns-clause-minimum : goal.returns-clause-minimum
returns-clause-minimum c how w left right tree test nameless is l r e =
    given (HasPassing test) (tree_minimum how w left right) tree
    (minimum_only (λ k. IsTrue (test k)) how w left right is l r) e
