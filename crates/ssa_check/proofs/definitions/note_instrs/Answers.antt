use Rattle.std.proofs.Common.{◌≡◌, ◌-◌, ◌+◌, ℕ, length, drop, subst, arith}
use Rattle.ssa_check.proofs.BackLemmas.{drop_back}
use Rattle.ssa_check.proofs.DefinitionLemmas.{IsNoted, result_within, noted_skip, noted_more, noted_all}
use Rattle.ssa_check.proofs.definitions.note_instrs.Goals as goal

pub index_mut-requires : goal.index_mut-requires
index_mut-requires c =
    let low =
    result_within (length c.args.table.now.items) c.args.instrs.now c.requires
    (c.loop-i.i - 1) c.index-instrs-i.result (omega arith) c.index-instrs-i.is c.in-Some.v c.in-Some.is in
    omega (arith, low, c.loop-i.invariant.size)

pub loop-i-preserved-in-Some : goal.loop-i-preserved-in-Some
loop-i-preserved-in-Some c =
    let b = c.args.b in
    let instrs = c.args.instrs.now in
    let i = c.loop-i.i in
    let instr = c.index-instrs-i.result in
    let old = c.args.table.now.items in
    let new = c.loop-i.table.items in
    let low =
    result_within (length old) instrs c.requires (i - 1) instr
    (omega arith) c.index-instrs-i.is c.in-Some.v c.in-Some.is in
    let next : i ≡ (i - 1) + 1 = omega arith in
    let before = subst (λ (k : ℕ). IsNoted b k (drop i instrs) old new) next c.loop-i.invariant in
    rw (drop_back instrs i instr c.loop-i-test.true c.loop-i.auto.i c.index-instrs-i.is)
    (noted_more b (i - 1) old new instr (drop i instrs) c.in-Some.v c.in-Some.is
    (omega (arith, low, c.loop-i.invariant.size)) before)

pub loop-i-preserved : goal.loop-i-preserved
loop-i-preserved c =
    let b = c.args.b in
    let instrs = c.args.instrs.now in
    let i = c.loop-i.i in
    let instr = c.index-instrs-i.result in
    let old = c.args.table.now.items in
    let new = c.loop-i.table.items in
    let next : i ≡ (i - 1) + 1 = omega arith in
    let before = subst (λ (k : ℕ). IsNoted b k (drop i instrs) old new) next c.loop-i.invariant in
    rw (drop_back instrs i instr c.loop-i-test.true c.loop-i.auto.i c.index-instrs-i.is)
    (noted_skip b (i - 1) old new instr (drop i instrs) c.in_default.is before)

pub returns-clause-noted : goal.returns-clause-noted
returns-clause-noted c =
    let start : c.loop-i.i ≡ 0 = omega arith in
    let is =
    subst (λ (k : ℕ). IsNoted c.args.b k (drop k c.args.instrs.now) c.args.table.now.items c.loop-i.table.items)
    start c.loop-i.invariant in
    noted_all c.args.b c.args.instrs.now c.args.table.now.items c.loop-i.table.items is
