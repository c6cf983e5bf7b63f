-- What the test of two kinds tells: the test of nodes decides, and so does that of the kinds in them.
use Rattle.std.proofs.Common.{◌≡◌, true, false, ◌==◌, ◌&&◌, [], refl, sym, ap, ◌∙◌}
use Rattle.std.proofs.lemmas.Bool.{eq-eqb, false≢true}
use Rattle.scev_base.specs.declared.width.Width.{Width}
use Rattle.scev_tree.specs.declared.kind.Kind.{Kind}
use Rattle.scev_arena.specs.declared.node.Node.TheVariants as node
use Rattle.scev_arena.specs.Nodes.{same_kind}
use Rattle.scev_arena.specs.NodeLaws.{same_node_decides}

module _ (w : Width) (k j : Kind) where
  -- kinds that the test joins are one
  pub is_kind : same_kind k j ≡ true → k ≡ j
  is_kind joined =
      let same = (same_node_decides (node.Atom k w []) (node.Atom j w [])).0
      (ap (λ b. b && ((w.bits == w.bits) && true)) joined ∙ ap (λ b. b && true) (eq-eqb w.bits w.bits refl)) in
      cc same

  -- and others are two
  pub is_other_kind : same_kind k j ≡ false → k ≡ j → ⊥
  is_other_kind apart same =
      let both = (same_node_decides (node.Atom k w []) (node.Atom j w [])).1 (ap (λ i. node.Atom i w []) same) in
      false≢true (sym (ap (λ b. b && ((w.bits == w.bits) && true)) apart) ∙ both)
