-- Lists of uses, one instruction after the other.
use Rattle.std.proofs.Common.{◌≡◌, ◌+◌, ◌<◌, ℕ, suc, List, [], ◌∷◌, ◌++◌, length, take, get_or, sym, ap, ◌∙◌, arith}
use Rattle.std.proofs.Common.{append_assoc}
use Rattle.std.proofs.lemmas.List.{append-nil, take_more, length-take}
use Rattle.ir_model.specs.declared.function.Instr.{Instr}
use Rattle.ir_model.specs.declared.function.Function.{Function}
use Rattle.ir_rules.specs.Uses.{Use, op_uses, uses_from}

uses_from_push : (f : Function) (b i : ℕ) (instrs : List Instr) (instr : Instr)
    → uses_from f b i (instrs ++ instr ∷ []) ≡ uses_from f b i instrs ++ op_uses f b (i + length instrs) instr.op
uses_from_push f b i [] instr =
    let here : i ≡ i + 0 = omega arith in
    append-nil (op_uses f b i instr.op) ∙ ap (λ (k : ℕ). op_uses f b k instr.op) here
uses_from_push f b i (first ∷ instrs) instr =
    let next : suc i + length instrs ≡ i + suc (length instrs) = omega arith in
    ap (λ (xs : List Use). op_uses f b i first.op ++ xs) (uses_from_push f b (suc i) instrs instr)
    ∙ sym (append_assoc (op_uses f b i first.op) (uses_from f b (suc i) instrs)
    (op_uses f b (suc i + length instrs) instr.op))
    ∙ ap (λ (k : ℕ). (op_uses f b i first.op ++ uses_from f b (suc i) instrs) ++ op_uses f b k instr.op) next

-- one more instruction of a block
pub uses_more : (f : Function) (b : ℕ) (instrs : List Instr) (index : ℕ) (instr : Instr) → index < length instrs
    → instr ≡ get_or instrs index instr
    → uses_from f b 0 (take (index + 1) instrs) ≡ uses_from f b 0 (take index instrs) ++ op_uses f b index instr.op
uses_more f b instrs index instr within is =
    let front : take (index + 1) instrs ≡ take index instrs ++ instr ∷ [] =
    take_more instrs index instr within ∙ ap (λ (one : Instr). take index instrs ++ one ∷ []) (sym is) in
    let size : 0 + length (take index instrs) ≡ index = omega (arith, length-take index instrs) in
    ap (uses_from f b 0) front ∙ uses_from_push f b 0 (take index instrs) instr
    ∙ ap (λ (k : ℕ). uses_from f b 0 (take index instrs) ++ op_uses f b k instr.op) size
