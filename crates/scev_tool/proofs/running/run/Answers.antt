-- The status of a call is that of its mode, and what is seen of it is seen there.
use Rattle.scev_words.specs.Modes.{Eval}
use Rattle.scev_tool.proofs.Answered.{complete, rules, no_function, bad_args, refuses, places, names, limits}
use Rattle.scev_tool.proofs.running.run.Goals.{in-Some, in-None}
use Rattle.scev_tool.proofs.running.run.Goals as goal

pub returns-clause-complete : goal.returns-clause-complete
returns-clause-complete g c = λ which bytes m asked left short spelled accepted has reads writes.
    elim c.match-mode_of.branch [
      | in-Some w ↦
          rw w.answered-is
          (complete _ bytes (record {
            which = which;
            asked = asked;
            left = left;
            no_read_fault = rw w.source-is at reads;
          }) _ m
          w.answer-answered.ensures.answer spelled accepted has short (rw w.out-is at writes))
      | in-None w ↦
          let no = rw w.in-None.is at c.mode_of.ensures.none in
          let never : ⊥ = no which asked in absurd never
    ]

pub returns-clause-rules : goal.returns-clause-rules
returns-clause-rules g c = λ which bytes m rule number place asked left short spelled fault reads.
    elim c.match-mode_of.branch [
      | in-Some w ↦
          rw w.answered-is
          (rules _ bytes (record {
            which = which;
            asked = asked;
            left = left;
            no_read_fault = rw w.source-is at reads;
          }) _ m rule number place
          w.answer-answered.ensures.answer spelled fault short)
      | in-None w ↦
          let no = rw w.in-None.is at c.mode_of.ensures.none in
          let never : ⊥ = no which asked in absurd never
    ]

pub returns-clause-no_function : goal.returns-clause-no_function
returns-clause-no_function g c = λ asked bytes m asks left short spelled accepted lacks reads.
    elim c.match-mode_of.branch [
      | in-Some w ↦
          rw w.answered-is
          (no_function _ bytes (record {
            which = Eval asked;
            asked = asks;
            left = left;
            no_read_fault = rw w.source-is at reads;
          }) _ m asked asks
          w.answer-answered.ensures.answer spelled accepted lacks short)
      | in-None w ↦
          let no = rw w.in-None.is at c.mode_of.ensures.none in
          let never : ⊥ = no (Eval asked) asks in absurd never
    ]

pub returns-clause-bad_args : goal.returns-clause-bad_args
returns-clause-bad_args g c = λ asked bytes m asks left short spelled accepted lacks reads.
    elim c.match-mode_of.branch [
      | in-Some w ↦
          rw w.answered-is
          (bad_args _ bytes (record {
            which = Eval asked;
            asked = asks;
            left = left;
            no_read_fault = rw w.source-is at reads;
          }) _ m asked asks
          w.answer-answered.ensures.answer spelled accepted lacks short)
      | in-None w ↦
          let no = rw w.in-None.is at c.mode_of.ensures.none in
          let never : ⊥ = no (Eval asked) asks in absurd never
    ]

pub returns-clause-refuses : goal.returns-clause-refuses
returns-clause-refuses g c = λ which bytes asked left short none reads.
    elim c.match-mode_of.branch [
      | in-Some w ↦
          rw w.answered-is
          (refuses _ bytes (record {
            which = which;
            asked = asked;
            left = left;
            no_read_fault = rw w.source-is at reads;
          }) _
          w.answer-answered.ensures.answer none short)
      | in-None w ↦
          let no = rw w.in-None.is at c.mode_of.ensures.none in
          let never : ⊥ = no which asked in absurd never
    ]

pub returns-clause-places : goal.returns-clause-places
returns-clause-places g c = λ which bytes place asked left short none reads.
    elim c.match-mode_of.branch [
      | in-Some w ↦
          rw w.answered-is
          (places _ bytes (record {
            which = which;
            asked = asked;
            left = left;
            no_read_fault = rw w.source-is at reads;
          }) _
          place w.answer-answered.ensures.answer none short)
      | in-None w ↦
          let no = rw w.in-None.is at c.mode_of.ensures.none in
          let never : ⊥ = no which asked in absurd never
    ]

pub returns-clause-names : goal.returns-clause-names
returns-clause-names g c = λ which bytes word place asked left short none reads.
    elim c.match-mode_of.branch [
      | in-Some w ↦
          rw w.answered-is
          (names _ bytes (record {
            which = which;
            asked = asked;
            left = left;
            no_read_fault = rw w.source-is at reads;
          }) _
          word place w.answer-answered.ensures.answer none short)
      | in-None w ↦
          let no = rw w.in-None.is at c.mode_of.ensures.none in
          let never : ⊥ = no which asked in absurd never
    ]

pub returns-clause-limits : goal.returns-clause-limits
returns-clause-limits g c = λ which bytes asked left long reads.
    elim c.match-mode_of.branch [
      | in-Some w ↦
          rw w.answered-is
          (limits _ bytes (record {
            which = which;
            asked = asked;
            left = left;
            no_read_fault = rw w.source-is at reads;
          }) _
          w.answer-answered.ensures.answer long)
      | in-None w ↦
          let no = rw w.in-None.is at c.mode_of.ensures.none in
          let never : ⊥ = no which asked in absurd never
    ]
