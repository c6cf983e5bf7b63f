use Rattle.std.proofs.Common.{get_or}
use Rattle.scev_tree.specs.Tree.{of_atom, atom, parts_of}
use Rattle.scev_arena.specs.Meaning.{tree_of}
use Rattle.scev_forms.specs.Quotients.{tree_quotient}
use Rattle.scev_sums.specs.Answers.{IsAt, trees_at}
use Rattle.scev_sums.proofs.Telling.{told_same}
use Rattle.scev_fold.proofs.Folding.{told_wide}
use Rattle.scev_fold.proofs.Reforming.{two_parts, second_tree, each_wide, others_wide, first_wide, recurrence_formed}
use Rattle.scev_fold.proofs.Reforming.{leaf_formed, trunc_formed, extension_formed, quotient_formed, minimum_formed}
use Rattle.scev_fold.proofs.Reforming.{sequence_formed}
use Rattle.scev_fold.proofs.reformed.reformed.Goals as goal

-- ---- what the calls require

pub bounds-ids-1 : goal.bounds-ids-1
bounds-ids-1 c =
    two_parts c.args.arena.now c.args.w.bits c.args.kind c.requires.kind c.as_slice-ids.ensures c.in-Udiv.is tt

pub make_udiv-requires-clause-right : goal.make_udiv-requires-clause-right
make_udiv-requires-clause-right c =
    second_tree c.args.arena.now c.args.w.bits c.args.kind c.requires.kind c.as_slice-ids.ensures c.requires.trees
    (record { 0 = 0 }) c.in-Udiv.is

pub minimum_of_all-requires-clause-others : goal.minimum_of_all-requires-clause-others
minimum_of_all-requires-clause-others c =
    others_wide c.args.arena.now c.args.w.bits c.args.kind c.requires.kind c.as_slice-ids.ensures c.requires.trees
    c.in-Smax.is tt

pub minimum_of_all-requires-in-Umax-clause-others : goal.minimum_of_all-requires-in-Umax-clause-others
minimum_of_all-requires-in-Umax-clause-others c =
    others_wide c.args.arena.now c.args.w.bits c.args.kind c.requires.kind c.as_slice-ids.ensures c.requires.trees
    c.in-Umax.is tt

pub minimum_of_all-requires-in-Smin-clause-others : goal.minimum_of_all-requires-in-Smin-clause-others
minimum_of_all-requires-in-Smin-clause-others c =
    others_wide c.args.arena.now c.args.w.bits c.args.kind c.requires.kind c.as_slice-ids.ensures c.requires.trees
    c.in-Smin.is tt

pub minimum_of_all-requires-in-Umin-clause-others : goal.minimum_of_all-requires-in-Umin-clause-others
minimum_of_all-requires-in-Umin-clause-others c =
    others_wide c.args.arena.now c.args.w.bits c.args.kind c.requires.kind c.as_slice-ids.ensures c.requires.trees
    c.in-Umin.is tt

pub sequence_of_all-requires-clause-others : goal.sequence_of_all-requires-clause-others
sequence_of_all-requires-clause-others c =
    others_wide c.args.arena.now c.args.w.bits c.args.kind c.requires.kind c.as_slice-ids.ensures c.requires.trees
    c.in-Seq.is tt

pub make_rec-requires-clause-parts : goal.make_rec-requires-clause-parts
make_rec-requires-clause-parts c =
    each_wide c.args.arena.now c.args.w.bits c.args.kind c.requires.kind c.as_slice-ids.ensures c.requires.trees
    c.in-Rec.is tt

-- ---- what is answered

pub returns-in-Trunc-clause-tree : goal.returns-in-Trunc-clause-tree
returns-in-Trunc-clause-tree c =
    told_same (IsAt c.make_trunc.new.arena c.args.w.bits) _ _ c.make_trunc.result
    (trunc_formed c.args.arena.now c.args.w.bits c.args.kind c.requires.kind c.as_slice-ids.ensures c.args.nest.now
    (record { 0 = 0 }) c.in-Trunc.is)
    c.make_trunc.ensures.tree

pub returns-in-Zext-clause-tree : goal.returns-in-Zext-clause-tree
returns-in-Zext-clause-tree c =
    told_same (IsAt c.make_zext.new.arena c.args.w.bits) _ _ c.make_zext.result
    (extension_formed c.args.arena.now c.args.w.bits c.args.kind c.requires.kind c.as_slice-ids.ensures c.args.nest.now
    (record { 0 = 0 }) c.in-Zext.is tt)
    c.make_zext.ensures.tree

pub returns-in-Sext-clause-tree : goal.returns-in-Sext-clause-tree
returns-in-Sext-clause-tree c =
    told_same (IsAt c.make_sext.new.arena c.args.w.bits) _ _ c.make_sext.result
    (extension_formed c.args.arena.now c.args.w.bits c.args.kind c.requires.kind c.as_slice-ids.ensures c.args.nest.now
    (record { 0 = 0 }) c.in-Sext.is tt)
    c.make_sext.ensures.tree

pub returns-in-Udiv-clause-tree : goal.returns-in-Udiv-clause-tree
returns-in-Udiv-clause-tree c =
    let nodes = c.args.arena.now in
    let w = c.args.w.bits in
    let k = c.args.kind in
    let new = c.make_udiv.new.arena in
    let result = c.make_udiv.result in
    let ids = c.as_slice-ids.result.now in
    let same = c.as_slice-ids.ensures in
    told_same (IsAt new w) _ _ result
    (quotient_formed nodes w k c.requires.kind same c.args.nest.now (record { 0 = 0 }) c.in-Udiv.is)
    (told_wide new
    (λ v. tree_quotient v (tree_of nodes (get_or ids 0 (record { 0 = 0 })))
    (tree_of nodes (get_or ids 1 (record { 0 = 0 }))))
    result
    (first_wide nodes w k c.requires.kind same c.requires.trees (record { 0 = 0 }) c.in-Udiv.is tt)
    c.make_udiv.ensures.tree)

pub returns-in-Smax-clause-tree : goal.returns-in-Smax-clause-tree
returns-in-Smax-clause-tree c =
    told_same (IsAt c.minimum_of_all.new.arena c.args.w.bits) _ _ c.minimum_of_all.result
    (minimum_formed c.args.arena.now c.args.w.bits c.args.kind c.requires.kind c.as_slice-ids.ensures c.args.nest.now
    (record { 0 = 0 }) c.in-Smax.is tt tt)
    c.minimum_of_all.ensures.tree

pub returns-in-Umax-clause-tree : goal.returns-in-Umax-clause-tree
returns-in-Umax-clause-tree c =
    told_same (IsAt c.minimum_of_all-in-Umax.new.arena c.args.w.bits) _ _ c.minimum_of_all-in-Umax.result
    (minimum_formed c.args.arena.now c.args.w.bits c.args.kind c.requires.kind c.as_slice-ids.ensures c.args.nest.now
    (record { 0 = 0 }) c.in-Umax.is tt tt)
    c.minimum_of_all-in-Umax.ensures.tree

pub returns-in-Smin-clause-tree : goal.returns-in-Smin-clause-tree
returns-in-Smin-clause-tree c =
    told_same (IsAt c.minimum_of_all-in-Smin.new.arena c.args.w.bits) _ _ c.minimum_of_all-in-Smin.result
    (minimum_formed c.args.arena.now c.args.w.bits c.args.kind c.requires.kind c.as_slice-ids.ensures c.args.nest.now
    (record { 0 = 0 }) c.in-Smin.is tt tt)
    c.minimum_of_all-in-Smin.ensures.tree

pub returns-in-Umin-clause-tree : goal.returns-in-Umin-clause-tree
returns-in-Umin-clause-tree c =
    told_same (IsAt c.minimum_of_all-in-Umin.new.arena c.args.w.bits) _ _ c.minimum_of_all-in-Umin.result
    (minimum_formed c.args.arena.now c.args.w.bits c.args.kind c.requires.kind c.as_slice-ids.ensures c.args.nest.now
    (record { 0 = 0 }) c.in-Umin.is tt tt)
    c.minimum_of_all-in-Umin.ensures.tree

pub returns-in-Seq-clause-tree : goal.returns-in-Seq-clause-tree
returns-in-Seq-clause-tree c =
    told_same (IsAt c.sequence_of_all.new.arena c.args.w.bits) _ _ c.sequence_of_all.result
    (sequence_formed c.args.arena.now c.args.w.bits c.args.kind c.requires.kind c.as_slice-ids.ensures c.args.nest.now
    (record { 0 = 0 }) c.in-Seq.is)
    c.sequence_of_all.ensures.tree

pub returns-in-Rec-clause-tree : goal.returns-in-Rec-clause-tree
returns-in-Rec-clause-tree c =
    told_same (IsAt c.make_rec.new.arena c.args.w.bits) _ _ c.make_rec.result
    (recurrence_formed c.args.arena.now c.args.w.bits c.args.kind c.requires.kind c.as_slice-ids.ensures
    c.args.nest.now c.in-Rec.is)
    c.make_rec.ensures.tree

pub returns-in_ok-tree_of_atom-in-Leaf-clause-tree :
    goal.returns-in_ok-tree_of_atom-in-Leaf-clause-tree
returns-in_ok-tree_of_atom-in-Leaf-clause-tree c =
    let w = c.args.w.bits in (
      of_atom w (atom c.args.kind w (parts_of (trees_at c.args.arena.now c.args.parts))),
      leaf_formed c.args.nest.now w (trees_at c.args.arena.now c.args.parts) c.in-Leaf.is,
      c.in_ok-tree_of_atom-in-Leaf.ensures.tree,
    )
