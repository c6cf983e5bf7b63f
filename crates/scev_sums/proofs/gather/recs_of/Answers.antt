use Rattle.std.proofs.Common.{rules, ◌≡◌, ◌+◌, false, List, [], ◌∷◌, ◌++◌, drop, sym, ap, subst, ◌∙◌}
use Rattle.scev_base.specs.declared.ids.ExprId.{ExprId}
use Rattle.scev_base.specs.declared.ids.LoopId.{LoopId}
use Rattle.scev_base.specs.declared.width.Width.{Width}
use Rattle.scev_tree.specs.declared.kind.Kind.TheVariants as kind
use Rattle.scev_arena.specs.declared.node.Node.TheVariants as node
use Rattle.scev_arena.specs.Meaning.{atom_of, meanings, factors_at}
use Rattle.scev_arena.proofs.WellMade.{atom_within}
use Rattle.scev_forms.specs.Gather as forms
use Rattle.scev_walk.proofs.Places.{atom_is}
use Rattle.scev_sums.specs.Answers.{AreAll}
use Rattle.scev_sums.specs.Levels.{IsRecurrence}
use Rattle.scev_sums.proofs.Reading.{id_at, one_atom}
use Rattle.scev_sums.proofs.RecParts.{all_more, recs_with, recs_more, recs_without, parts_recurrence, no_rec_there}
use Rattle.scev_sums.proofs.gather.recs_of.Goals as goal
use Rattle.scev_sums.proofs.gather.recs_of.Goals.{in-Atom-Rec-default-default+then-eq+in_ok-from_slice+in_ok-push}
use Rattle.scev_sums.proofs.gather.recs_of.Goals.{in-Atom-Rec-default-default+else-eq, in-Atom+in-Trunc-1, in-Tree-1}
use Rattle.scev_sums.proofs.gather.recs_of.Goals.{Joined-node}

pub node-requires : goal.node-requires
node-requires c =
    let ids = c.args.ids.now in
    let at = c.loop-id.id-index in
    atom_within c.args.arena.now c.args.w.bits (id_at ids at)
    (one_atom c.args.arena.now c.args.w.bits ids at c.requires c.loop-id-test.true)

-- another factor adds nothing
nothing_more : (c : Joined-node)
    → c.match-node.recs.items ≡ c.loop-id.recs.items
    → forms.is_rec_of c.args.l.0 (atom_of c.args.arena.now (id_at c.args.ids.now c.loop-id.id-index)) ≡ false
    → record {
      recs : recs_with c.args.arena.now c.args.l.0 c.match-node.recs.items
          (drop (c.loop-id.id-index + 1) c.args.ids.now)
          ≡ forms.recs_of c.args.l.0 (factors_at (meanings c.args.arena.now) c.args.ids.now);
      trees : AreAll (IsRecurrence c.args.arena.now c.args.w.bits) c.match-node.recs.items;
    }
nothing_more c same is = record {
  recs =
      ap (λ found. recs_with c.args.arena.now c.args.l.0 found (drop (c.loop-id.id-index + 1) c.args.ids.now)) same
      ∙ recs_without c.args.arena.now c.args.l.0 c.loop-id.recs.items c.args.ids.now c.loop-id.id-index
      c.loop-id-test.true is
      ∙ c.loop-id.invariant.recs;
  trees = subst (AreAll (IsRecurrence c.args.arena.now c.args.w.bits)) (sym same) c.loop-id.invariant.trees;
}

-- whatever the node is, if it is no recurrence
no_rec_read : (c : Joined-node)
    → ((loop : LoopId) (width : Width) (parts : List ExprId)
    → c.node.result.now ≡ node.Atom (kind.Rec loop) width parts → ⊥)
    → forms.is_rec_of c.args.l.0 (atom_of c.args.arena.now (id_at c.args.ids.now c.loop-id.id-index)) ≡ false
no_rec_read c other =
    no_rec_there c.args.arena.now (id_at c.args.ids.now c.loop-id.id-index) c.node.result.now c.args.l.0
    c.node.ensures.arena c.node.ensures.node other

pub loop-id-preserved : goal.loop-id-preserved
loop-id-preserved c =
    let nodes = c.args.arena.now in
    let l = c.args.l.0 in
    let ids = c.args.ids.now in
    let at = c.loop-id.id-index in
    let id = id_at ids at in
    let n = c.node.result.now in
    let found = c.loop-id.recs.items in
    elim c.match-node.branch [
      | in-Atom-Rec-default-default+then-eq+in_ok-from_slice+in_ok-push w ↦
          let arm = w.in-Atom-Rec-default-default in
          let is : n ≡ node.Atom (kind.Rec arm.other) arm.width arm.parts = search rules in
          let pushed : c.match-node.recs.items ≡ found ++ arm.parts ∷ [] = ap (λ v. v.items) w.recs-is
          ∙ w.in_ok-push.ensures.items
          ∙ ap (λ parts. found ++ parts ∷ []) (w.in_ok-from_slice.ensures ∙ w.as_slice.ensures) in
          record {
            recs =
                ap (λ recs. recs_with nodes l recs (drop (at + 1) ids)) pushed
                ∙ recs_more nodes l found ids at (kind.Rec arm.other) arm.width.bits arm.parts c.loop-id-test.true
                (atom_is nodes id n c.node.ensures.arena c.node.ensures.node (kind.Rec arm.other) arm.width
                arm.parts is)
                (sym w.if-eq.ensures)
                ∙ c.loop-id.invariant.recs;
            trees = subst (AreAll (IsRecurrence nodes c.args.w.bits)) (sym pushed)
                (all_more (IsRecurrence nodes c.args.w.bits) found arm.parts c.loop-id.invariant.trees
                (parts_recurrence nodes id n c.node.ensures.arena c.node.ensures.node c.args.w.bits
                (one_atom nodes c.args.w.bits ids at c.requires c.loop-id-test.true) arm.other arm.width arm.parts is));
          }
      | in-Atom-Rec-default-default+else-eq w ↦
          let arm = w.in-Atom-Rec-default-default in
          let is : n ≡ node.Atom (kind.Rec arm.other) arm.width arm.parts = search rules in
          nothing_more c (ap (λ v. v.items) w.recs-is)
          (ap (forms.is_rec_of l)
          (atom_is nodes id n c.node.ensures.arena c.node.ensures.node (kind.Rec arm.other) arm.width arm.parts is)
          ∙ sym w.if-eq.ensures)
      | in-Atom+in-Trunc-1 w ↦
          nothing_more c (ap (λ v. v.items) w.recs-is) (no_rec_read c (λ loop width parts e. search rules))
      | in-Tree-1 w ↦
          nothing_more c (ap (λ v. v.items) w.recs-is) (no_rec_read c (λ loop width parts e. search rules))
    ]
