use Rattle.std.proofs.Common.{◌∙◌, add-one}
use Rattle.ir_lex.specs.Tokenized.{lexemes}
use Rattle.ir_names.specs.Meant.{meant_of}
use Rattle.ir_names.proofs.KnownLexemes.{known_more, unknown_next}
use Rattle.ir_names.proofs.meanings.Meanings.of.Goals as goal
use Rattle.ir_names.proofs.meanings.Meanings.of.Goals.{in-Some+in_ok-insert+in-Some-1}
use Rattle.ir_names.proofs.meanings.Meanings.of.Goals.{in-Some+in_ok-insert+in-None-1, in_default}

pub loop-at-preserved : goal.loop-at-preserved
loop-at-preserved c q =
    let more = known_more meant_of (lexemes c.args.tokens.now) c.loop-at.at _ c.in_ok-bytes.ensures q in
    elim c.match-branch-2.branch [
      | in-Some+in_ok-insert+in-Some-1 w ↦
          rw (w.known-is, add-one, more, w.in-Some.is, ← c.loop-at.invariant q) (w.in_ok-insert.ensures.updates.0 q)
      | in-Some+in_ok-insert+in-None-1 w ↦
          rw (w.known-is, add-one, more, w.in-Some.is, ← c.loop-at.invariant q) (w.in_ok-insert.ensures.updates.0 q)
      | in_default w ↦ rw (w.known-is, add-one, more, w.in_default.is)
          (c.loop-at.invariant q ∙ unknown_next meant_of (lexemes c.args.tokens.now) c.loop-at.at q)
    ]
