use Rattle.std.proofs.Common.{◌≡◌, Bool, true, false, ◌&&◌, ◌==◌, List, length, Some, slice_get, refl, sym, ap, ◌∙◌}
use Rattle.std.proofs.lemmas.Bool.{false_from_ne_true}
use Rattle.std.proofs.lemmas.Bool.Decides.{Decides-eqb}
use Rattle.scev_base.specs.declared.ids.ExprId.{ExprId}
use Rattle.scev_base.specs.declared.width.Width.{Width}
use Rattle.scev_tree.specs.Tree.{constant}
use Rattle.poly_terms.specs.declared.term.Term.{Term}
use Rattle.scev_arena.specs.declared.node.Node.{Node}
use Rattle.scev_arena.specs.declared.node.Node.TheVariants as node
use Rattle.scev_arena.specs.Meaning.{meanings, tree_of}
use Rattle.scev_arena.specs.Standing.{IsArena}
use Rattle.scev_forms.specs.Sums.{same_tree}
use Rattle.scev_sums.specs.Answers.{IsTreeOfAt}
use Rattle.scev_sums.proofs.Held.{tree_read}
use Rattle.scev_sums.proofs.Ones.{are_one, told_one, none_are_one, many_are_not_one, only_is_one}
use Rattle.scev_sums.proofs.parts.is_one.Goals as goal

-- what the tree is, by the terms that are read of its node
told : (nodes : List Node) (w : Width) (id : ExprId) (found : Node) (width : Width) (terms read : List Term)
    → IsArena nodes
    → IsTreeOfAt nodes w.bits id
    → slice_get nodes id.0 ≡ Some found
    → found ≡ node.Tree width terms
    → read ≡ terms
    → same_tree (tree_of nodes id) (constant w.bits 1) ≡ are_one read
told nodes w id found width terms read arena wide there is same =
    told_one (meanings nodes) w.bits (tree_of nodes id) read w.at_least_one
    (tree_read nodes w.bits id found width terms read arena wide there is same)

and_true : (b : Bool) → b && true ≡ b
and_true true = refl
and_true false = refl

and_false : (b : Bool) → b && false ≡ false
and_false true = refl
and_false false = refl

pub returns-then-only-eq1 : goal.returns-then-only-eq1
returns-then-only-eq1 c =
    let only = c.only-item.result in
    let none = length only.ids == 0 in
    let terms = c.as_slice.result.now in
    let one = (Decides-eqb only.coefficient 1).1 c.if-only-eq1.true in
    c.is_empty.ensures
    ∙ ap (λ l. length l == 0) c.as_slice-then-only-eq1.ensures
    ∙ sym (
    told c.args.arena.now c.args.w c.args.id c.node.result.now c.in-Tree.width c.in-Tree.terms terms
    c.node.ensures.arena c.requires c.node.ensures.node c.in-Tree.is c.as_slice.ensures
    ∙ only_is_one terms only c.in-len1.len_at_least c.in-len1.len_below c.only-item.is
    ∙ ap (λ b. none && b) one
    ∙ and_true none
    )

pub returns-else-only-eq1 : goal.returns-else-only-eq1
returns-else-only-eq1 c =
    let only = c.only-item.result in
    let none = length only.ids == 0 in
    let terms = c.as_slice.result.now in
    let other = false_from_ne_true (only.coefficient == 1)
    (λ h. c.if-only-eq1.false ((Decides-eqb only.coefficient 1).0 h)) in
    other
    ∙ sym (
    told c.args.arena.now c.args.w c.args.id c.node.result.now c.in-Tree.width c.in-Tree.terms terms
    c.node.ensures.arena c.requires c.node.ensures.node c.in-Tree.is c.as_slice.ensures
    ∙ only_is_one terms only c.in-len1.len_at_least c.in-len1.len_below c.only-item.is
    ∙ ap (λ b. none && b) other
    ∙ and_false none
    )

pub returns-in_default : goal.returns-in_default
returns-in_default c =
    let terms = c.as_slice.result.now in
    sym (
    told c.args.arena.now c.args.w c.args.id c.node.result.now c.in-Tree.width c.in-Tree.terms terms
    c.node.ensures.arena c.requires c.node.ensures.node c.in-Tree.is c.as_slice.ensures
    ∙ none_are_one terms c.in_default.len_below
    )

pub returns-in_default-2 : goal.returns-in_default-2
returns-in_default-2 c =
    let terms = c.as_slice.result.now in
    sym (
    told c.args.arena.now c.args.w c.args.id c.node.result.now c.in-Tree.width c.in-Tree.terms terms
    c.node.ensures.arena c.requires c.node.ensures.node c.in-Tree.is c.as_slice.ensures
    ∙ many_are_not_one terms c.in_default.len_at_least
    )
