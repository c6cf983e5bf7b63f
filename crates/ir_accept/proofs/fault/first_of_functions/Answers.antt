use Rattle.std.proofs.Common.{◌≡◌, ◌∙◌, Option, Some, None, IfSome, subst}
use Rattle.ir_model.specs.declared.function.Function.{Function}
use Rattle.ir_model.specs.declared.signature.Signatures.{Signatures}
use Rattle.ir_model.specs.declared.rule.Rule.{Rule}
use Rattle.ir_model.specs.declared.rule.Place.{Place}
use Rattle.ir_model.specs.Places.{signatures_of}
use Rattle.ir_rules.specs.Accepted.{IsAccepted, IsBrokenAt}
use Rattle.ir_accept.proofs.FunctionLists.{no_body, one_more, all_accepted, next_broken}
use Rattle.ir_accept.proofs.fault.first_of_functions.Goals.{in-Some+in_ok-rule-in-Some+in-None-2, in-None}
use Rattle.ir_accept.proofs.fault.first_of_functions.Goals as goal

-- What is found is a rule that is broken.
broken_as : (signatures : Signatures) (f : Function) (found : Option (Rule × Place)) (rule : Rule) (place : Place)
    → found ≡ Some (rule, place) → IfSome found (λ fault. IsBrokenAt signatures f fault.0 fault.1)
    → IsBrokenAt signatures f rule place
broken_as signatures f None rule place is broken = cc
broken_as signatures f (Some fault) rule place is broken =
    let same : fault ≡ (rule, place) = cc in
    subst (λ (p : Rule × Place). IsBrokenAt signatures f p.0 p.1) same broken

-- The function that breaks a rule is the first one.
pub returns-in-Some-2-clause-refused : goal.returns-in-Some-2-clause-refused
returns-in-Some-2-clause-refused c =
    let seen : c.in_ok-callees.callees ≡ signatures_of c.args.m.now =
    c.in_ok-callees.ensures ∙ c.in_ok-signatures.ensures in
    let broken = subst (λ s. IsBrokenAt s c.in-Some.f.now c.in-Some-2.rule c.in-Some-2.place) seen
    (broken_as c.in_ok-callees.callees c.in-Some.f.now c.in_ok-rule-in-Some.field-0 c.in-Some-2.rule c.in-Some-2.place
    (cc) c.in_ok-rule-in-Some.ensures.refused) in
    next_broken c.args.m.now c.as_slice-item-items.result.now c.loop-item.item-index c.loop-item.number
    c.item-item.result c.in-Some.f.now c.in-Some-2.rule c.in-Some-2.place c.as_slice-item-items.ensures
    c.loop-item-test.true c.item-item.is c.in-Some.ensures c.requires.items broken c.loop-item.invariant

pub loop-item-preserved : goal.loop-item-preserved
loop-item-preserved c =
    let seen : c.in_ok-callees.callees ≡ signatures_of c.args.m.now =
    c.in_ok-callees.ensures ∙ c.in_ok-signatures.ensures in
    let signatures = signatures_of c.args.m.now in
    let items = c.as_slice-item-items.result.now in
    let i = c.loop-item.item-index in
    let here = c.item-item.result in
    elim c.match-body_of.branch [
      | in-Some+in_ok-rule-in-Some+in-None-2 w ↦ rw w.number-is
          (one_more signatures items i c.loop-item.number here w.in-Some.f.now c.loop-item-test.true c.item-item.is
          w.in-Some.ensures (subst (λ s. IsAccepted s w.in-Some.f.now) seen (w.in_ok-rule-in-Some.ensures.accepted (cc)))
          c.loop-item.invariant)
      | in-None w ↦ rw w.number-is
          (no_body signatures items i c.loop-item.number here c.loop-item-test.true c.item-item.is w.in-None.ensures
          c.loop-item.invariant)
    ]

pub returns-clause-accepted : goal.returns-clause-accepted
returns-clause-accepted c none =
    all_accepted c.args.m.now c.as_slice-item-items.result.now c.loop-item.item-index c.loop-item.number
    c.as_slice-item-items.ensures c.loop-item-test.false c.requires.items c.loop-item.invariant
