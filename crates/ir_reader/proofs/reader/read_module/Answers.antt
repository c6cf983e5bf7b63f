use Rattle.std.proofs.Common.{◌≡◌, ℕ, List, length, map, Err, sym, ap, subst, arith}
use Rattle.ir_text.specs.Tokens.{Lexed}
use Rattle.ir_lex.specs.Tokenized.{Tokenized, placed}
use Rattle.ir_grammar.specs.Spelled.{Spells, IsNotInGrammar}
use Rattle.ir_parts.specs.declared.fault.ItemFault.{ItemFault}
use Rattle.ir_parts.specs.Places.{draft_of}
use Rattle.ir_reader.specs.ItemsReading.{ReadsAll}
use Rattle.ir_reader.specs.ModuleReading.{IsFaultOf}
use Rattle.ir_reader.proofs.ReadRefusals.{items_refused_there, ended_before, module_spelled}
use Rattle.ir_reader.proofs.reader.read_module.Goals as goal

-- the tokens of the bytes, as those of the input that they keep
lexed_of : (t : Tokenized) (bytes : List ℕ) (end : ℕ) → t.bytes ≡ bytes → Lexed 0 bytes (placed t) end
    → Lexed 0 t.bytes (placed t) end
lexed_of t bytes end same lexed = subst (λ (bytes : List ℕ). Lexed 0 bytes (placed t) end) (sym same) lexed

pub returns-in-Err-CannotGoOn-clause-fault : goal.returns-in-Err-CannotGoOn-clause-fault
returns-in-Err-CannotGoOn-clause-fault c =
    let t = c.in_ok-tokens.tokens in
    let end = c.in_ok-tokens.end in
    let same = c.in_ok-tokens.ensures.input in
    let refused = subst (λ (fault : ItemFault). ReadsAll t (Err fault)) c.in-Err-CannotGoOn.field-0-is
    c.in-Err-CannotGoOn.ensures.value in
    subst (λ (bytes : List ℕ). IsFaultOf bytes c.refusal.result) same (c.refusal.ensures (items_refused_there t end
    (lexed_of t c.args.bytes.now end same c.in_ok-tokens.ensures.lexed) c.in-Err-CannotGoOn.at_token refused.0
    refused.1))

pub returns-then-end-bytes-clause-fault : goal.returns-then-end-bytes-clause-fault
returns-then-end-bytes-clause-fault c =
    let t = c.in_ok-tokens.tokens in
    let end = c.in_ok-tokens.end in
    let same = c.in_ok-tokens.ensures.input in
    subst (λ (bytes : List ℕ). IsNotInGrammar bytes end) same (ended_before t end
    (lexed_of t c.args.bytes.now end same c.in_ok-tokens.ensures.lexed) (map (draft_of t) c.in-Ok.items)
    c.in-Ok.ensures.value (omega (arith, c.if-end-bytes.true, ap length same)))

pub returns-clause-spells : goal.returns-clause-spells
returns-clause-spells c =
    let t = c.in_ok-tokens.tokens in
    let end = c.in_ok-tokens.end in
    let same = c.in_ok-tokens.ensures.input in
    subst (λ (bytes : List ℕ). Spells bytes c.in_ok-numbered.field-0) same (module_spelled t end
    (lexed_of t c.args.bytes.now end same c.in_ok-tokens.ensures.lexed) c.in-Ok.items c.in_ok-numbered.field-0
    c.in-Ok.ensures.value (omega (arith, c.if-end-bytes.false, ap length same)) c.in_ok-numbered.ensures)
