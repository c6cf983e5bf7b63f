-- Operations with no passed-on words are read, from behind their opcode.
use Rattle.std.proofs.Common.{◌≡◌, ℕ, suc, true, false, List, [], ◌∷◌, ◌++◌, length, Some, None, Err, ◌⊎◌, refl, sym, ap, subst, ◌∙◌, append_assoc, codes}
use Rattle.std.specs.Str.{bytes_eq}
use Rattle.scev_base.specs.declared.ids.BlockId.{BlockId}
use Rattle.scev_base.specs.declared.pred.Pred.{Pred}
use Rattle.scev_base.specs.declared.pred.Pred.TheVariants as pred
use Rattle.ir_model.specs.declared.op.Operand.{Operand}
use Rattle.ir_model.specs.declared.op.BinOp.{BinOp}
use Rattle.ir_model.specs.declared.op.TypedOperand.{TypedOperand}
use Rattle.ir_model.specs.declared.op.Op.TheVariants.{Binary, Icmp, Freeze, Jump, Branch, Ret}
use Rattle.ir_text.specs.Tokens.{Lexeme}
use Rattle.ir_text.specs.Listed.{word}
use Rattle.ir_text.specs.Mentions.{Mention, Mentioning, ◌⊙◌, silent}
use Rattle.ir_model.specs.Kinds.{flag_kind}
use Rattle.ir_grammar.specs.Operations.{SpellsBinaryFlags, SpellsOperand, SpellsBlockName, SpellsTyped, SpellsTarget, SpellsTwo, the_word, the_comma, dropped_word, pred_text}
use Rattle.ir_parts.specs.Reading.{Read, begins, is_keyword}
use Rattle.ir_parts.proofs.Readers.{IsReader, Anything, chosen}
use Rattle.ir_parts.proofs.NoneGoesOn.{refused_there}
use Rattle.ir_parts.proofs.SingleTokens.{is_itself, is_word}
use Rattle.ir_body.specs.declared.operands.Two.{Two}
use Rattle.ir_body.specs.declared.flags.Flags.{Flags}
use Rattle.ir_body.specs.declared.operation.Operation.{Operation}
use Rattle.ir_body.specs.Operands.{block_name_at}
use Rattle.ir_body.specs.Flags.{flags_at}
use Rattle.ir_body.specs.Plain.{plain, binary_at, br_at, ret_at, comparison_at, freeze_at, jump_at, branch_at, nothing_returned_at, value_returned_at}
use Rattle.ir_body.proofs.Tellers.{IsTeller, IsMade, silent_tells, both, skip, made_told, word_tells, sign_tells}
use Rattle.ir_body.proofs.OperandTellers.{operand_tells, block_name_tells, typed_tells, target_tells, two_tells}
use Rattle.ir_body.proofs.WordReaders.{predicate_reads}
use Rattle.ir_body.proofs.Firsts.{first_begins_not, word_begins_not, type_begins_not}
use Rattle.ir_body.proofs.DroppedWords.{drop_tells}
use Rattle.ir_body.proofs.FlagReaders.{spelled_flags, scalar_is_no}
use Rattle.ir_body.proofs.FlagTellers.{flags_tell}

-- ---- operations of two operands

abbrev pub SpellsBinary : BinOp → Flags × Two → Mentioning
SpellsBinary op read = silent (SpellsBinaryFlags (flag_kind op) (spelled_flags read.0))
    ⊙ SpellsTwo read.1.kind read.1.left read.1.right

abbrev pub make_binary : BinOp → Flags × Two → Operation
make_binary op read = plain (Binary op read.0.nuw read.0.nsw read.0.exact read.0.disjoint read.1.kind read.1.left
    read.1.right)

pub binary_tells : (op : BinOp) → IsTeller (binary_at op) (IsMade (make_binary op) (SpellsBinary op)) Anything
unfolding binary_at flags_at
binary_tells op = made_told (make_binary op) (λ t. Unit {0})
    (flags_tell (flag_kind op) two_tells (λ text no_int no_ptr two. first_begins_not (is_keyword text)
    (type_begins_not text no_int no_ptr two.kind)))

-- ---- comparisons

abbrev pub SpellsComparison : Pred × Two → Mentioning
SpellsComparison read = silent (dropped_word (codes "samesign"))
    ⊙ (the_word (pred_text read.0) ⊙ SpellsTwo read.1.kind read.1.left read.1.right)

abbrev pub make_comparison : Pred × Two → Operation
make_comparison read = plain (Icmp read.0 read.1.kind read.1.left read.1.right)

pub comparison_tells : IsTeller comparison_at (IsMade make_comparison SpellsComparison) Anything
unfolding comparison_at
comparison_tells = made_told make_comparison (λ t. Unit {0})
    (drop_tells (codes "samesign") (both (silent_tells predicate_reads) two_tells)
    (λ read. first_begins_not (is_keyword (codes "samesign"))
    (word_begins_not (pred_text read.0) (codes "samesign") (no_predicate read.0))))
  where
    no_predicate : (predicate : Pred) → bytes_eq (pred_text predicate) (codes "samesign") ≡ false
    no_predicate pred.Eq = refl
    no_predicate pred.Ne = refl
    no_predicate pred.Ugt = refl
    no_predicate pred.Uge = refl
    no_predicate pred.Ult = refl
    no_predicate pred.Ule = refl
    no_predicate pred.Sgt = refl
    no_predicate pred.Sge = refl
    no_predicate pred.Slt = refl
    no_predicate pred.Sle = refl

abbrev pub make_freeze : TypedOperand → Operation
make_freeze typed = plain (Freeze typed.kind typed.value)

pub freeze_tells : IsTeller freeze_at (IsMade make_freeze SpellsTyped) Anything
unfolding freeze_at
freeze_tells = made_told make_freeze (λ t. Unit {0}) typed_tells

-- ---- ends of blocks

abbrev pub make_jump : BlockId → Operation
make_jump to = plain (Jump to)

abbrev pub SpellsJump : BlockId → Mentioning
SpellsJump to = SpellsTarget to.0

pub jump_tells : IsTeller jump_at (IsMade make_jump SpellsJump) Anything
unfolding jump_at
jump_tells = made_told make_jump (λ t. Unit {0}) target_tells

abbrev pub SpellsBranch : Operand × (BlockId × BlockId) → Mentioning
SpellsBranch read = the_word (codes "i1") ⊙ (SpellsOperand read.0 ⊙ (the_comma ⊙ (SpellsTarget read.1.0.0
    ⊙ (the_comma ⊙ SpellsTarget read.1.1.0))))

abbrev pub make_branch : Operand × (BlockId × BlockId) → Operation
make_branch read = plain (Branch read.0 read.1.0 read.1.1)

pub branch_tells : IsTeller branch_at (IsMade make_branch SpellsBranch) Anything
unfolding branch_at
branch_tells = made_told make_branch (λ t. Unit {0})
    (skip (word_tells (codes "i1")) (both operand_tells (skip (sign_tells 44) (both target_tells (skip (sign_tells 44)
    target_tells)))))

abbrev pub make_returned : TypedOperand → Operation
make_returned typed = plain (Ret (Some typed))

pub value_returned_tells : IsTeller value_returned_at (IsMade make_returned SpellsTyped) Anything
unfolding value_returned_at
value_returned_tells = made_told make_returned (λ t. Unit {0}) typed_tells

abbrev pub make_nothing : Unit {0} → Operation
make_nothing u = plain (Ret None)

abbrev pub SpellsNothing : Unit {0} → Mentioning
SpellsNothing u = the_word (codes "void")

pub nothing_returned_tells : IsTeller nothing_returned_at (IsMade make_nothing SpellsNothing) Anything
unfolding nothing_returned_at
nothing_returned_tells = made_told make_nothing (λ t. Unit {0}) (word_tells (codes "void"))

-- ---- one of two ends

-- what begins with a word goes on behind it
pub word_begun : {X : Type 0} {read : Read X} {L : X → List Lexeme → Type 0} {Stop : X → Lexeme → Type 0}
    (text : List ℕ)
    → IsReader read L Stop → (x : X) (others : List Lexeme) → L x (word text ∷ others)
    → (t : Lexeme) (ts : List Lexeme) → is_keyword text t ≡ true → read (t ∷ ts) ≡ Err (suc (length ts)) → ⊥
word_begun {L = L} text r x others l t ts passed e = refused_there r [] ts t e (record {
  whole = x;
  others = others;
  sentence = subst (λ (t : Lexeme). L x (t ∷ others)) (sym (is_word text t passed)) l;
})

-- what begins with a word
pub begins_with : (text : List ℕ) {B : Mentioning} (ms : List Mention) (ts : List Lexeme) → (the_word text ⊙ B) ms ts
    → begins (is_keyword text) ts ≡ true
begins_with text ms ts l = rw (l.3.2, l.3.3.1) (is_itself text)

pub begins_without : (text other : List ℕ) {B : Mentioning} (ms : List Mention) (taken rest : List Lexeme)
    → (the_word text ⊙ B) ms taken
    → bytes_eq text other ≡ false → begins (is_keyword other) (taken ++ rest) ≡ false
begins_without text other ms taken rest l apart = rw (l.3.2, l.3.3.1) apart

abbrev pub SpellsBr : Operation → Mentioning
SpellsBr operation ms ts = IsMade make_jump SpellsJump operation ms ts
    ⊎ IsMade make_branch SpellsBranch operation ms ts

pub br_tells : IsTeller br_at SpellsBr Anything
unfolding br_at
br_tells = record {
  reader = chosen (is_keyword (codes "label")) jump_tells.reader branch_tells.reader
      (λ told ts l. begins_with (codes "label") told.1 ts l.2)
      (λ told taken rest l stops. begins_without (codes "i1") (codes "label") told.1 taken rest l.2 refl)
      (word_begun (codes "label") jump_tells.reader (plain (Jump block.some.0), block.some.1) block.sentence (
        block.some.0,
        refl,
        (
          [],
          block.some.1,
          refl,
          (word (codes "label") ∷ [], block.sentence, refl, (refl, refl), block.sample),
        ),
      ));
}
  where
    block : IsReader block_name_at (λ told ts. SpellsBlockName told.0.0 told.1 ts) (λ told t. Unit {0})
    block = block_name_tells.reader

abbrev pub SpellsRet : Operation → Mentioning
SpellsRet operation ms ts = IsMade make_nothing SpellsNothing operation ms ts
    ⊎ IsMade make_returned SpellsTyped operation ms ts

pub ret_tells : IsTeller ret_at SpellsRet Anything
unfolding ret_at
ret_tells = record {
  reader = chosen (is_keyword (codes "void")) nothing_returned_tells.reader value_returned_tells.reader
      (λ told ts l. rw l.2.1 (is_itself (codes "void")))
      (λ told taken rest l stops. ap (λ (ts : List Lexeme). begins (is_keyword (codes "void")) (ts ++ rest)) l.2.3.2
      ∙ (ap (begins (is_keyword (codes "void"))) (append_assoc l.2.3.0 l.2.3.1 rest)
      ∙ scalar_is_no (codes "void") (λ digits. refl) refl l.0.kind l.2.3.0 (l.2.3.1 ++ rest) l.2.3.3.1))
      (word_begun (codes "void") nothing_returned_tells.reader (plain (Ret None), []) [] (tt, refl, (refl, refl)));
}
