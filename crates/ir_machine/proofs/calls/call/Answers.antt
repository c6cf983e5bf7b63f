use Rattle.std.specs.Prelude.{◌≡◌, ℕ, List, [], ◌∷◌, true, Option, Some, None, is_some, refl}
use Rattle.std.proofs.Common.{sym, ◌∙◌}
use Rattle.std.proofs.lemmas.Bool.{false≢true}
use Rattle.ir_model.specs.declared.op.TypedOperand.{TypedOperand}
use Rattle.ir_meaning.specs.declared.value.Value.{Value}
use Rattle.ir_meaning.specs.State.{State, Event}
use Rattle.ir_meaning.specs.Effects.{Effect, Goes, with_operands}
use Rattle.ir_meaning.specs.Calls.{Answered, answer_given, argument_values, event_of, outside_call}
use Rattle.ir_machine.proofs.calls.call.Goals as goal

-- a call whose arguments have values adds one event
adds_event : (s : State) (callee : List ℕ) (args : List TypedOperand) (a : Answered)
    → is_some (argument_values s.registers a.number args) ≡ true
    → (event : Event) × (outside_call s callee args (Some a) ≡ Goes a.answer a.contents (event ∷ []))
adds_event s callee args a = each (argument_values s.registers a.number args)
  where
    goes_on : List Value → Effect
    goes_on xs = Goes a.answer a.contents (event_of callee xs s.memory a ∷ [])

    each : (values : Option (List Value)) → is_some values ≡ true
        → (event : Event) × (with_operands values goes_on ≡ Goes a.answer a.contents (event ∷ []))
    each None e = absurd (false≢true e)
    each (Some xs) e = (event_of callee xs s.memory a, refl)

pub returns-else-not-have_values-clause-does : goal.returns-else-not-have_values-clause-does
returns-else-not-have_values-clause-does c = λ s callee held memory.
    let given : Answered = record {
      number = c.in-Answer.n;
      answer = answer_given c.args.ret.now c.in-Answer.x;
      contents = c.in-Answer.contents;
    } in
    let values : is_some (argument_values s.registers c.in-Answer.n c.args.args.now) ≡ true =
    rw held (sym c.have_values-in-Answer.ensures ∙ c.if-not-have_values.false) in
    rw (c.in-Answer.is, sym c.if-not-may_answer.ensures, c.answer_given.ensures)
    (adds_event s callee c.args.args.now given values)
