use Rattle.std.proofs.Common.{◌*◌, ◌^◌, ◌<◌, ◌≤◌, subst, arith}
use Rattle.std.proofs.Math.Pow.{pow_mono}
use Rattle.scev_tree.specs.Tree.{constant}
use Rattle.scev_arena.specs.Meaning.{tree_of}
use Rattle.scev_sums.specs.Answers.{IsAt}
use Rattle.scev_sums.proofs.Growth.{wide_goes_on}
use Rattle.scev_sums.proofs.Telling.{told_same}
use Rattle.scev_minima.proofs.Divided.{product_there, by_great, greater}
use Rattle.scev_minima.proofs.quotients.by_both.Goals as goal
use Rattle.scev_minima.proofs.quotients.by_both.Goals.{in_default-via-in-Some+else-trunc-both}
use Rattle.scev_minima.proofs.quotients.by_both.Goals.{in_default-via-in_default}

pub quotient_atom-requires-clause-left : goal.quotient_atom-requires-clause-left
quotient_atom-requires-clause-left c =
    wide_goes_on c.args.arena.now c.constant.new.arena c.constant.ensures.grows c.args.w.bits c.args.x c.requires

pub returns-in_ok-by-in-Some-clause-tree : goal.returns-in_ok-by-in-Some-clause-tree
returns-in_ok-by-in-Some-clause-tree c =
    let w = c.args.w.bits in
    let both = c.in-Some.both in
    let small : both < 2 ^ w = subst (λ n. n < 2 ^ w) c.if-trunc-both.true c.trunc.ensures.below in
    told_same (IsAt c.quotient_atom.new.arena w) _ _ c.quotient_atom.result
    (product_there c.args.arena.now c.constant.new.arena c.constant.ensures.grows w c.args.x c.in_ok-by-in-Some.by
    c.args.m c.args.n both c.requires c.in_ok-by-in-Some.ensures.tree.1 c.in-Some.ensures.1 small)
    c.quotient_atom.ensures.tree

pub returns-in_ok-constant-in_default-clause-tree :
    goal.returns-in_ok-constant-in_default-clause-tree
returns-in_ok-constant-in_default-clause-tree c =
    let w = c.args.w.bits in
    let great : 2 ^ w ≤ c.args.m * c.args.n = elim c.in_default.branch [
      | in_default-via-in-Some+else-trunc-both v ↦
          let least = greater w v.in-Some.both v.trunc.result v.trunc.ensures.value v.if-trunc-both.false in
          omega (arith, v.in-Some.ensures.1)
      | in_default-via-in_default v ↦
          let most : 2 ^ w ≤ 18446744073709551616 = pow_mono c.args.w.at_most_64 in
          omega (arith, v.in_default.ensures)
    ] in
    let told = c.in_ok-constant-in_default.ensures.tree in
    (constant w 0, by_great w (tree_of c.args.arena.now c.args.x) c.args.m c.args.n great, told)
