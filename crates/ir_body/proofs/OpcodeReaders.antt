-- Opcodes are read.
use Rattle.std.proofs.Common.{◌≡◌, ℕ, Bool, true, false, IsTrue, ◌&&◌, if◌then◌else◌, List, Option, Some, None, ◌⊎◌, inl, inr, refl, sym, ap, subst, ◌∙◌, codes}
use Rattle.std.specs.Prelude.{not}
use Rattle.std.specs.Option.{option_and_then, option_or}
use Rattle.ir_model.specs.declared.op.BinOp.{BinOp}
use Rattle.ir_model.specs.declared.op.BinOp.TheVariants as binary
use Rattle.ir_model.specs.declared.op.CastOp.{CastOp}
use Rattle.ir_model.specs.declared.op.CastOp.TheVariants as cast
use Rattle.ir_text.specs.Language.{keyword}
use Rattle.ir_grammar.specs.Operations.{binary_text, cast_text}
use Rattle.ir_parts.proofs.Readers.{IsReader, Anything, either}
use Rattle.ir_body.specs.declared.opcode.Opcode.{Opcode}
use Rattle.ir_body.specs.declared.opcode.Opcode.TheVariants.{Binary, Cast, Icmp, Select, Phi, Freeze, Alloca, Load, Store, Gep, Br, Switch, Ret, Unreachable}
use Rattle.ir_body.specs.Opcodes.{binary_opcodes, value_opcodes, memory_opcodes, ending_opcodes, binary_opcode, value_opcode, memory_opcode, ending_opcode, opcode_of_text, may_have_result, fitting, opcode_of, opcode_at}
use Rattle.ir_body.proofs.WordReaders.{look_up_gives, words_read}

-- the word of an opcode
abbrev pub opcode_text : Opcode → List ℕ
opcode_text (Binary op) = binary_text op
opcode_text (Cast op) = cast_text op
opcode_text Icmp = codes "icmp"
opcode_text Select = codes "select"
opcode_text Phi = codes "phi"
opcode_text Freeze = codes "freeze"
opcode_text Alloca = codes "alloca"
opcode_text Load = codes "load"
opcode_text Store = codes "store"
opcode_text Gep = codes "getelementptr"
opcode_text Br = codes "br"
opcode_text Switch = codes "switch"
opcode_text Ret = codes "ret"
opcode_text Unreachable = codes "unreachable"

-- It may stand there, behind a result or where none stands.
abbrev pub Fits : Bool → Opcode → Type 0
Fits has_result code = IsTrue has_result → IsTrue (may_have_result code)

fitting_there : (has_result : Bool) (code : Opcode) → fitting has_result code ≡ Some code → Fits has_result code
fitting_there true code e has = elim (either (may_have_result code)) [
  | inl may ↦ may
  | inr not_there ↦ absurd (let none = sym (ap (λ (b : Bool). if not b then None else Some code) not_there) ∙ e in cc)
]
fitting_there false code e has = absurd cc

fitting_back : (has_result : Bool) (code : Opcode) → Fits has_result code → fitting has_result code ≡ Some code
fitting_back true code fits = ap (λ (b : Bool). if not b then None else Some code) (fits refl)
fitting_back false code fits = refl

fits : (has_result : Bool) (found : Option Opcode) (code : Opcode) → option_and_then (fitting has_result) found
    ≡ Some code
    → Fits has_result code × (found ≡ Some code)
fits has_result None code e = absurd cc
fits has_result (Some other) code e = elim (either (has_result && not (may_have_result other))) [
  | inl not_there ↦ absurd (let none = sym (ap (λ (b : Bool). if b then None else Some other) not_there) ∙ e in cc)
  | inr there ↦
      let same : ◌≡◌ {A = Option Opcode} (Some other) (Some code) =
      sym (ap (λ (b : Bool). if b then None else Some other) there) ∙ e in (
        fitting_there has_result code (subst (λ (o : Option Opcode). option_and_then (fitting has_result) o ≡ o) same
            (ap (λ (b : Bool). if b then None else Some other) there)),
        same,
      )
]

one_or_other : (a b : Option Opcode) (code : Opcode) → option_or a b ≡ Some code → (a ≡ Some code) ⊎ (b ≡ Some code)
one_or_other None b code e = inr e
one_or_other (Some x) b code e = inl e

text_of_code : (text : List ℕ) (code : Opcode) → opcode_of_text text ≡ Some code → text ≡ opcode_text code
unfolding opcode_of_text binary_opcode value_opcode memory_opcode ending_opcode
text_of_code text code e =
    elim (one_or_other (binary_opcode text)
    (option_or (value_opcode text) (option_or (memory_opcode text) (ending_opcode text))) code e) [
      | inl found ↦ look_up_gives (λ text code. text ≡ opcode_text code) binary_opcodes text code (
        refl,
        (
          refl,
          (
            refl,
            (
              refl,
              (
                refl,
                (refl, (refl, (refl, (refl, (refl, (refl, (refl, (refl, tt)))))))),
              ),
            ),
          ),
        ),
      ) found
      | inr e ↦ elim (one_or_other (value_opcode text) (option_or (memory_opcode text) (ending_opcode text)) code e) [
        | inl found ↦ look_up_gives (λ text code. text ≡ opcode_text code) value_opcodes text code
            (refl, (refl, (refl, (refl, (refl, (refl, (refl, tt))))))) found
        | inr e ↦ elim (one_or_other (memory_opcode text) (ending_opcode text) code e) [
          | inl found ↦ look_up_gives (λ text code. text ≡ opcode_text code) memory_opcodes text code
              (refl, (refl, (refl, (refl, tt)))) found
          | inr found ↦ look_up_gives (λ text code. text ≡ opcode_text code) ending_opcodes text code
              (refl, (refl, (refl, (refl, tt)))) found
        ]
      ]
    ]

code_of_binary : (op : BinOp) → opcode_of_text (binary_text op) ≡ Some (Binary op)
unfolding opcode_of_text binary_opcode value_opcode memory_opcode ending_opcode
code_of_binary binary.Add = refl
code_of_binary binary.Sub = refl
code_of_binary binary.Mul = refl
code_of_binary binary.Shl = refl
code_of_binary binary.Udiv = refl
code_of_binary binary.Sdiv = refl
code_of_binary binary.Lshr = refl
code_of_binary binary.Ashr = refl
code_of_binary binary.Urem = refl
code_of_binary binary.Srem = refl
code_of_binary binary.And = refl
code_of_binary binary.Xor = refl
code_of_binary binary.Or = refl

code_of_cast : (op : CastOp) → opcode_of_text (cast_text op) ≡ Some (Cast op)
unfolding opcode_of_text binary_opcode value_opcode memory_opcode ending_opcode
code_of_cast cast.Zext = refl
code_of_cast cast.Sext = refl
code_of_cast cast.Trunc = refl

code_of_text : (code : Opcode) → opcode_of_text (opcode_text code) ≡ Some code
unfolding opcode_of_text binary_opcode value_opcode memory_opcode ending_opcode
code_of_text (Binary op) = code_of_binary op
code_of_text (Cast op) = code_of_cast op
code_of_text Icmp = refl
code_of_text Select = refl
code_of_text Phi = refl
code_of_text Freeze = refl
code_of_text Alloca = refl
code_of_text Load = refl
code_of_text Store = refl
code_of_text Gep = refl
code_of_text Br = refl
code_of_text Switch = refl
code_of_text Ret = refl
code_of_text Unreachable = refl

pub opcode_reads : (has_result : Bool)
    → IsReader (opcode_at has_result) (λ code ts. Fits has_result code × keyword (opcode_text code) ts) Anything
unfolding opcode_at opcode_of
opcode_reads has_result = words_read (record {
  there = λ text code e.
      let found = fits has_result (opcode_of_text text) code e in (found.0, text_of_code text code found.1);
  back = λ code is. ap (option_and_then (fitting has_result)) (code_of_text code) ∙ fitting_back has_result code is;
  some = Icmp;
  is_some = λ has. refl;
})
